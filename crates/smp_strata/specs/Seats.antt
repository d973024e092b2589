-- Where the rows of a frame stand in a plan, and the probability that its requests give each of them.
use Rattle.std.specs.Prelude.{◌≡◌, ℕ, List, Option, Some, None, slice_get, option_and_then}
use Rattle.smp_frac.specs.Fractions.{Fraction, whole, times}
use Rattle.smp_prob.specs.declared.requests.Request.{Request}
use Rattle.smp_prob.specs.Inclusions.{asked_fraction}
use Rattle.smp_strata.specs.declared.strata.FirstUnit as first
use Rattle.smp_strata.specs.declared.strata.Seat as seat
use Rattle.smp_strata.specs.declared.strata.Stratum as stratum

-- a first stage unit of a stratum, by the numbers of both
abbrev pub first_at : List stratum.Stratum → ℕ → ℕ → Option first.FirstUnit
first_at strata stratum unit =
    option_and_then (λ s. slice_get s.units unit) (slice_get strata stratum)

-- the row at a seat
abbrev pub row_at : List stratum.Stratum → seat.Seat → Option ℕ
row_at strata seat =
    option_and_then (λ f. slice_get f.rows seat.place) (first_at strata seat.stratum seat.unit)

-- a row stands at a seat
pub record IsSeat (strata : List stratum.Stratum) (row : ℕ) (seat : seat.Seat) : Type 0 where
  pub there : row_at strata seat ≡ Some row

-- some seat of a row
pub record Seated (strata : List stratum.Stratum) (row : ℕ) : Type 0 where
  pub seat : seat.Seat
  pub is : IsSeat strata row seat

-- ---- probabilities

-- the probability of a first stage unit in a stratum
abbrev pub unit_fraction : Option stratum.Stratum → ℕ → Fraction
unit_fraction None unit = whole 0
unit_fraction (Some stratum) unit = asked_fraction stratum.request unit

-- the probability of a first stage unit in a stratum, by the stratum's number
abbrev pub first_fraction : List stratum.Stratum → ℕ → ℕ → Fraction
first_fraction strata stratum unit = unit_fraction (slice_get strata stratum) unit

-- the probability of a row in its first stage unit: 1 without a second stage
abbrev pub stage_fraction : Option Request → ℕ → Fraction
stage_fraction None place = whole 1
stage_fraction (Some request) place = asked_fraction request place

-- the probability of a row in a first stage unit, if there is one
abbrev pub place_fraction : Option first.FirstUnit → ℕ → Fraction
place_fraction None place = whole 0
place_fraction (Some first) place = stage_fraction first.second place

-- the probability of the row at a seat: its first stage unit's, times its own in that unit
abbrev pub seat_fraction : List stratum.Stratum → seat.Seat → Fraction
seat_fraction strata seat =
    times (first_fraction strata seat.stratum seat.unit)
    (place_fraction (first_at strata seat.stratum seat.unit) seat.place)
