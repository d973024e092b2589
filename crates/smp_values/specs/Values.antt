-- Values of units, from 0 to 1, as numerators over one denominator: at first the probabilities that are requested of them, and at
-- the end 1 for the units that are selected and 0 for the others (Deville and Tillé 1998). A unit whose value is strictly in between
-- is fractional.
use Rattle.std.specs.Prelude.{◌≡◌, ℕ, ◌*◌, ◌≤◌, ◌<◌, Bool, true, nat_lt, nat_eq, ◌&&◌, List, length, sum}
use Rattle.std.specs.Prelude.{slice_index, slice_set}
use Rattle.std.specs.List.{count_by, filter, range_with_len, swap}
use Rattle.smp_prob.specs.Shares.{Shares}
use Rattle.smp_frac.specs.Fractions.{Fraction, over}
use Rattle.smp_split.specs.Trees.{Part, Tree}
use Rattle.smp_split.specs.declared.kind.Kind.{Kind}

-- whether a numerator over a denominator, the first number, is the value of a fractional unit: above 0 and below 1
-- = 0 < a < D
abbrev pub fractional : ℕ → ℕ → Bool
fractional den a = nat_lt 0 a && nat_lt a den

-- whether a unit is fractional: its value is above 0 and below 1
abbrev pub is_fractional : Shares → ℕ → Bool
is_fractional s unit = fractional s.den (slice_index s.numer unit)

-- the fractional units in order
-- e.g. of (1,0,5,4)/5: 0 and 3
abbrev pub fractional_units : Shares → List ℕ
fractional_units s = filter (is_fractional s) (range_with_len 0 (length s.numer))

-- the one at a place among them
abbrev pub fractional_at : Shares → ℕ → ℕ
fractional_at s place = slice_index (fractional_units s) place

-- how many units are fractional
-- e.g. of (1,0,5,4)/5: 2
abbrev pub fractional_count : Shares → ℕ
fractional_count s = count_by (fractional s.den) s.numer

-- no unit is fractional
abbrev pub is_settled : Shares → Bool
is_settled s = nat_eq (fractional_count s) 0

-- the value of a unit
-- = a/D
-- e.g. of a in (1,2,3,4)/5: 1/5
abbrev pub value_at : Shares → ℕ → Fraction
value_at s unit = over (slice_index s.numer unit) s.den

-- whether the value of a unit is 1
abbrev pub is_one : Shares → ℕ → Bool
is_one s unit = nat_eq (slice_index s.numer unit) s.den

-- the values add up to n, told of the numerators
abbrev pub AddTo : ℕ → Shares → Type 0
AddTo n s = sum s.numer ≡ n * s.den

-- the values with another numerator of one unit
abbrev pub with_one : Shares → ℕ → ℕ → Shares
with_one s i new = record { numer = slice_set s.numer i new; den = s.den }

-- the values with other numerators of two units
abbrev pub with_pair : Shares → ℕ → ℕ → ℕ × ℕ → Shares
with_pair s i j new = record { numer = slice_set (slice_set s.numer i new.0) j new.1; den = s.den }

-- the values with those of two units exchanged
abbrev pub exchanged_values : ℕ → ℕ → Shares → Shares
exchanged_values i j s = record { numer = swap s.numer i j; den = s.den }

-- values of so many units, over a denominator of at most `most`
pub record IsValues (units most : ℕ) (s : Shares) : Type 0 where
  pub count : length s.numer ≡ units
  pub positive : 1 ≤ s.den
  pub narrow : s.den ≤ most
  pub each : (unit : ℕ) → slice_index s.numer unit ≤ s.den

-- each unit is fractional
abbrev pub AllFractional : Shares → Type 0
AllFractional s = (unit : ℕ) → unit < length s.numer → is_fractional s unit ≡ true

-- A design whose states are values, with steps of these kinds and these parts: it is done where no unit is fractional, and selects
-- the units of value 1. Its rank follows from the number of fractional units.
abbrev pub values_tree : ℕ → (Shares → Kind) → (Shares → List (Part Shares)) → (ℕ → ℕ) → Tree Shares
values_tree units kind parts rank = record {
  units = units;
  done = is_settled;
  kind = kind;
  parts = parts;
  rank = λ s. rank (fractional_count s);
  value = value_at;
  selected = is_one;
}
