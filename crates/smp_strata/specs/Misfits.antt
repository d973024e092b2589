-- Why a frame doesn't serve a design: the first misfit, in the order of their kinds.
use Rattle.std.specs.Prelude.{◌≡◌, ℕ, ◌+◌, nat_lt, nat_eq, ◌==◌, ◌&&◌, not, Bool, if◌then◌else◌, List, [], ◌∷◌}
use Rattle.std.specs.Prelude.{Option, Some, None, Result, Ok, Err, length, ⊤}
use Rattle.std.specs.List.{list_any, range_with_len}
use Rattle.std.specs.Str.{bytes_eq}
use Rattle.smp_frac.specs.LowestTerms.{lowest_terms}
use Rattle.smp_frac.specs.declared.fractions.Frac.{Frac}
use Rattle.smp_prob.specs.Requested.{positive_units}
use Rattle.smp_prob.specs.Given.{common_multiple, expected_size, largest_multiple}
use Rattle.smp_design.specs.declared.design.Design.{Design}
use Rattle.smp_design.specs.declared.design.Second as second
use Rattle.smp_design.specs.Keys.{or_else}
use Rattle.smp_design.specs.Words.{row, draws_together}
use Rattle.smp_frame.specs.declared.frame.Unit as unit
use Rattle.smp_strata.specs.Clusters.{clusters, first_row, strata_numbers, stratum_name, stratum_names}
use Rattle.smp_strata.specs.Rows.{rows_of, stratum_at, psu_at, is_large}
use Rattle.smp_strata.specs.Plans.{sample_size, first_probs, first_sizes, second_sizes}
use Rattle.smp_strata.specs.declared.misfit.Misfit.{Misfit}
use Rattle.smp_strata.specs.declared.misfit.Misfit.TheVariants.{UnitInTwo, PsuTooLarge, NoSize, TooMany, SecondTooMany, Denominator}
use Rattle.smp_strata.specs.declared.misfit.Misfit.TheVariants.{NotWhole, RowLimit, NoMemory}

-- the first that is there, of what may be found at each entry of a list
abbrev pub first_found : {A B : Type 0} → (A → Option B) → List A → Option B
first_found find [] = None
first_found find (x ∷ xs) = or_else (find x) (first_found find xs)

-- a misfit, where a test holds
abbrev pub when : {A : Type 0} → Bool → A → Option A
when holds misfit = if holds then Some misfit else None

-- ---- psus

-- an earlier row of the same psu is in another stratum
abbrev pub is_apart : List unit.Unit → ℕ → Bool
is_apart units row =
    list_any (λ earlier. bytes_eq (psu_at units earlier) (psu_at units row)
    && not (bytes_eq (stratum_at units earlier) (stratum_at units row)))
    (range_with_len 0 row)

-- the first row that is apart so
abbrev pub first_apart : List unit.Unit → Option Misfit
first_apart units =
    first_found (λ row. when (is_apart units row) (UnitInTwo (psu_at units row))) (rows_of units)

-- with a second stage, the first psu that is in two strata
abbrev pub unit_in_two : Option second.Second → List unit.Unit → Option Misfit
unit_in_two None units = None
unit_in_two (Some second) units = first_apart units

-- a psu with a sum above the limit
abbrev pub large : Design → List unit.Unit → List ℕ → Option Misfit
large design units rows =
    when (is_large units (length design.columns.balance) rows)
    (PsuTooLarge (psu_at units (first_row rows)))

-- The first such psu, in the whole frame. A row by itself is within the limit.
abbrev pub psu_too_large : Design → List unit.Unit → Option Misfit
psu_too_large design units = first_found (large design units) (clusters design.second units)

-- a psu with fewer positive second sizes than n
abbrev pub psu_short : ℕ → List unit.Unit → List ℕ → Option Misfit
psu_short n units rows =
    let positive = positive_units (second_sizes units rows) in
    when (nat_lt positive n) (SecondTooMany (psu_at units (first_row rows)) n positive)

-- the first such psu, in the whole frame
abbrev pub second_too_many : Option second.Second → List unit.Unit → Option Misfit
second_too_many None units = None
second_too_many (Some second) units =
    first_found (psu_short second.n units) (clusters (Some second) units)

-- ---- strata

-- the first stratum for which no number of units is given
abbrev pub no_size : Design → List unit.Unit → Option Misfit
no_size design units =
    first_found (λ stratum.
    when (nat_eq (sample_size design units stratum) 0) (NoSize (stratum_name units stratum)))
    (strata_numbers units)

-- a stratum with fewer positive sizes than n
abbrev pub short : List ℕ → List ℕ → ℕ → Option Misfit
short name sizes n =
    let positive = positive_units sizes in
    when (nat_lt positive n) (TooMany name n positive)

-- the first such stratum
abbrev pub too_many : Design → List unit.Unit → Option Misfit
too_many design units =
    first_found (λ stratum.
    short (stratum_name units stratum) (first_sizes design units stratum)
    (sample_size design units stratum))
    (strata_numbers units)

-- ---- given probabilities

-- the first stratum whose probabilities have too large a common denominator
abbrev pub denominator : Design → List unit.Unit → Option Misfit
denominator design units =
    first_found (λ stratum.
    when (nat_lt largest_multiple (common_multiple (first_probs design units stratum)))
    (Denominator (stratum_name units stratum)))
    (strata_numbers units)

-- the sum of probabilities in lowest terms
abbrev pub sum_of : List Frac → Frac
sum_of probs = lowest_terms (expected_size probs)

-- probabilities that don't add up to a whole number
abbrev pub unwhole : List ℕ → Frac → Option Misfit
unwhole name sum = when (not (sum.den == 1)) (NotWhole name sum)

-- the first stratum with such probabilities, where the method draws a whole number of units
abbrev pub not_whole : Design → List unit.Unit → Option Misfit
not_whole design units =
    if (row design.procedure.method).draws_whole
    then first_found (λ stratum.
    unwhole (stratum_name units stratum) (sum_of (first_probs design units stratum)))
    (strata_numbers units)
    else None

-- ---- strata that are drawn together

-- the most rows of the balancing equations of all strata: one for the size of each stratum, and one for each variable
abbrev pub most_equations : ℕ
most_equations = 16

-- more rows than that, where all strata are drawn together
abbrev pub row_limit_by : Bool → ℕ → ℕ → Option Misfit
row_limit_by together strata variables =
    when (together && nat_lt most_equations (strata + variables)) (RowLimit strata variables)

-- the misfit that strata and variables make more balancing equations than there may be
abbrev pub row_limit : Design → List unit.Unit → Option Misfit
row_limit design units =
    row_limit_by (draws_together design.procedure.method) (length (stratum_names units)) (length design.columns.balance)

-- ---- the first

-- the first misfit among those of a design without a column of probabilities
abbrev pub sizes_misfit : Design → List unit.Unit → Option Misfit
sizes_misfit design units =
    or_else (no_size design units)
    (or_else (too_many design units)
    (second_too_many design.second units))

-- the first misfit among those of a design with a column of probabilities
abbrev pub probs_misfit : Design → List unit.Unit → Option Misfit
probs_misfit design units = or_else (denominator design units) (not_whole design units)

-- the first misfit of a design, by whether it has a column of probabilities
abbrev pub misfit_by : Option (List ℕ) → Design → List unit.Unit → Option Misfit
misfit_by None design units = sizes_misfit design units
misfit_by (Some column) design units = probs_misfit design units

-- the first misfit of a frame and a design, in the order of these lines
-- e.g. none
unfoldable pub misfit_of : Design → List unit.Unit → Option Misfit
misfit_of design units =
    or_else (unit_in_two design.second units)
    (or_else (psu_too_large design units)
    (or_else (misfit_by design.columns.prob design units)
    (row_limit design units)))

-- the first misfit is answered, or that there is none; want of memory says nothing
abbrev pub Reports : {A : Type 0} → Result A Misfit → Option Misfit → Type 0
Reports (Ok x) found = found ≡ None
Reports (Err NoMemory) found = ⊤
Reports (Err misfit) found = found ≡ Some misfit
