-- The rows of a frame by their numbers, of which the first is 0: what stands in a row, and the sums over some rows.
use Rattle.std.specs.Prelude.{ℕ, ℤ, pos, ◌+ℤ◌, nat_abs, nat_le, ◌||◌, Bool, List, [], length, map, fold, sum_by}
use Rattle.std.specs.Prelude.{slice_index, slice_index_or}
use Rattle.std.specs.List.{list_any, range_with_len}
use Rattle.smp_frac.specs.Limits.{number_limit}
use Rattle.smp_frac.specs.Fractions.{whole}
use Rattle.smp_frac.specs.LowestTerms.{lowest_terms}
use Rattle.smp_frac.specs.declared.fractions.Frac.{Frac}
use Rattle.smp_frame.specs.declared.frame.Unit as unit

-- the rows of a frame by their numbers, of which the first is 0
abbrev pub rows_of : List unit.Unit → List ℕ
rows_of units = range_with_len 0 (length units)

-- ---- a row

-- the name of a row's stratum
-- e.g. empty
abbrev pub stratum_at : List unit.Unit → ℕ → List ℕ
stratum_at units row = slice_index_or (map (λ u. u.stratum) units) row []

-- the name of a row's psu
abbrev pub psu_at : List unit.Unit → ℕ → List ℕ
psu_at units row = slice_index_or (map (λ u. u.psu) units) row []

-- the size of a row in the second stage
abbrev pub second_size_at : List unit.Unit → ℕ → ℕ
second_size_at units row = slice_index (map (λ u. u.second_size) units) row

-- the probability of a row, where the frame has a column of these
abbrev pub prob_at : List unit.Unit → ℕ → Frac
prob_at units row = slice_index_or (map (λ u. u.prob) units) row (lowest_terms (whole 1))

-- the balancing value of a row in a column
abbrev pub value_at : List unit.Unit → ℕ → ℕ → ℤ
value_at units row column =
    slice_index_or (slice_index_or (map (λ u. u.balance) units) row []) column (pos 0)

-- ---- some rows

-- the sum of the sizes of some rows
-- = Σ size
-- e.g. of c: 3
abbrev pub size_of : List unit.Unit → List ℕ → ℕ
size_of units rows = sum_by (λ row. slice_index (map (λ u. u.size) units) row) rows

-- the sum of a column of balancing values
abbrev pub value_of : List unit.Unit → List ℕ → ℕ → ℤ
value_of units rows column = fold (λ sum row. sum +ℤ value_at units row column) (pos 0) rows

-- the sums of so many columns of balancing values
abbrev pub values_of : List unit.Unit → ℕ → List ℕ → List ℤ
values_of units columns rows = map (value_of units rows) (range_with_len 0 columns)

-- a sum of sizes, or the absolute value of a sum of balancing values, is above 2,147,483,647
abbrev pub is_large : List unit.Unit → ℕ → List ℕ → Bool
is_large units columns rows =
    nat_le number_limit (size_of units rows)
    || list_any (λ value. nat_le number_limit (nat_abs value)) (values_of units columns rows)
