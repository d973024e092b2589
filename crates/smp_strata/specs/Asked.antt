-- The inclusion probability that is asked for each row of a frame, in the frame's own words (Tillé 2006).
use Rattle.std.specs.Prelude.{◌<◌, ℕ, List, ◌∷◌, [], Option, Some, None, length}
use Rattle.smp_frac.specs.Fractions.{Fraction, Same, whole, times}
use Rattle.smp_frac.specs.Exact.{fraction}
use Rattle.smp_prob.specs.Requested.{requested_fraction}
use Rattle.smp_design.specs.declared.design.Design.{Design}
use Rattle.smp_design.specs.declared.design.Second as second
use Rattle.smp_frame.specs.declared.frame.Unit as unit
use Rattle.smp_strata.specs.Clusters.{first_row, in_psu, stratum_number}
use Rattle.smp_strata.specs.Plans.{Plan, sample_size, first_sizes, second_sizes}
use Rattle.smp_strata.specs.Rows.{prob_at, psu_at, size_of, second_size_at}
use Rattle.smp_strata.specs.Seats.{IsSeat, seat_fraction}
use Rattle.smp_strata.specs.declared.strata.Seat as seat

-- the rows of the first stage unit of a row: it alone, or with a second stage the rows of its psu
abbrev pub cluster_of : Option second.Second → List unit.Unit → ℕ → List ℕ
cluster_of None units row = row ∷ []
cluster_of (Some second) units row = in_psu units (psu_at units row)

-- the probability of a first stage unit of some rows in its stratum: the one of the column of probabilities, or else in proportion to size
-- = π₁ = n·x/Σx by the sizes x, or the column of probabilities
-- e.g. 3/5
abbrev pub fraction_by : Option (List ℕ) → Design → List unit.Unit → ℕ → List ℕ → Fraction
fraction_by None design units stratum rows =
    requested_fraction (sample_size design units stratum) (first_sizes design units stratum)
    (size_of units rows)
fraction_by (Some column) design units stratum rows = fraction (prob_at units (first_row rows))

-- the probability of the first stage unit of a row in its stratum
-- = π₁(row)
-- e.g. of c: 3/5
abbrev pub fraction_in_stratum : Design → List unit.Unit → ℕ → Fraction
fraction_in_stratum design units row =
    fraction_by design.columns.prob design units (stratum_number units row)
    (cluster_of design.second units row)

-- the probability of a row in its psu: 1 without a second stage
-- = π₂(row)
-- e.g. 1
abbrev pub fraction_in_psu : Option second.Second → List unit.Unit → ℕ → Fraction
fraction_in_psu None units row = whole 1
fraction_in_psu (Some second) units row =
    requested_fraction second.n (second_sizes units (in_psu units (psu_at units row)))
    (second_size_at units row)

-- the probability that is asked for a row
-- = π₁·π₂
abbrev pub row_fraction : Design → List unit.Unit → ℕ → Fraction
row_fraction design units row =
    times (fraction_in_stratum design units row) (fraction_in_psu design.second units row)

-- the probability that a plan gives each row is the one that is asked for it
abbrev pub AsksAsFrame : Design → List unit.Unit → Plan → Type 0
AsksAsFrame design units plan =
    (row : ℕ) (seat : seat.Seat) → row < length units → IsSeat plan.strata row seat
    → Same (seat_fraction plan.strata seat) (row_fraction design units row)
