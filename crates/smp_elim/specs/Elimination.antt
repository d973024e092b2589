-- The elimination procedure of Tillé (1996): at first all units are left, and one after the other is taken out, until as many are
-- left as are wanted. After each step the units that are left are a sample of their number, with probabilities in proportion to size
-- as far as none passes 1.
use Rattle.std.specs.Prelude.{◌≡◌, ℕ, ◌-◌, ◌*◌, ◌^◌, ◌≤◌, ◌<◌, Bool, true, false, not, max, nat_eq}
use Rattle.std.specs.Prelude.{if◌then◌else◌, ◌&&◌, List, length, replicate, slice_index, slice_index_or, slice_set, sum, count_by}
use Rattle.smp_frac.specs.Fractions.{Fraction, whole, times, inverse}
use Rattle.smp_frac.specs.Limits.{most_rows}
use Rattle.smp_prob.specs.Requested.{is_certain, certain_units, open_total, requested_fraction}
use Rattle.smp_split.specs.Parts.{unit_parts}
use Rattle.smp_split.specs.Trees.{Part, Tree}
use Rattle.smp_split.specs.declared.kind.Kind.TheVariants.{Eliminate}

-- A state: the sizes of the units, how many of them are wanted, and which are left.
pub record Remaining : Type 0 where
  pub sizes : List ℕ
  pub wanted : ℕ
  pub left : List Bool

-- the state before the first step, in which all units are left
abbrev pub all_left : List ℕ → ℕ → Remaining
all_left sizes wanted = record { sizes = sizes; wanted = wanted; left = replicate (length sizes) true }

-- the size of a unit
abbrev pub size_of : Remaining → ℕ → ℕ
size_of s unit = slice_index s.sizes unit

-- whether a unit is left
abbrev pub is_left : Remaining → ℕ → Bool
is_left s unit = slice_index_or s.left unit false

-- how many units are left
abbrev pub left_count : Remaining → ℕ
left_count s = count_by (λ b. b) s.left

-- how many are left when one more is taken out
abbrev pub fewer : Remaining → ℕ
fewer s = left_count s - 1

-- ---- samples of n units, with probabilities in proportion to size

-- the probability of a unit where n of all units are drawn in proportion to size
abbrev pub fraction_at : Remaining → ℕ → ℕ → Fraction
fraction_at s n unit = requested_fraction n s.sizes (size_of s unit)

-- whether a unit is certain where n of all units are drawn in proportion to size
abbrev pub is_certain_at : Remaining → ℕ → ℕ → Bool
is_certain_at s n unit = is_certain n s.sizes (size_of s unit)

-- how many draws the certain units leave, where n of all units are drawn
abbrev pub draws_at : Remaining → ℕ → ℕ
draws_at s n = n - certain_units n s.sizes

-- the sum of the sizes of the units that aren't certain, where n of all units are drawn
abbrev pub total_at : Remaining → ℕ → ℕ
total_at s n = open_total n s.sizes

-- ---- a step

-- the factor of all weights: how many draws the certain units leave where as many are drawn as are left, and 1 where they leave none
abbrev pub factor : Remaining → ℕ
factor s = max 1 (draws_at s (left_count s))

-- the bound of the draw
abbrev pub bound_of : Remaining → ℕ
bound_of s = total_at s (fewer s) * factor s

-- The weight with which a unit is taken out, in proportion to 1 - p/q: q is its probability where as many are drawn as are left, and p
-- where one fewer is (Tillé 1996). First that of a unit that is certain where as many are drawn as are left, then that of any other.
abbrev pub weight_of : Remaining → ℕ → ℕ
weight_of s unit =
    if is_certain_at s (left_count s) unit
    then factor s * (total_at s (fewer s) - size_of s unit * draws_at s (fewer s))
    else total_at s (fewer s) * factor s - draws_at s (fewer s) * total_at s (left_count s)

-- a unit may be taken out where it is left and isn't certain where one fewer is drawn than are left
abbrev pub may_go : Remaining → ℕ → Bool
may_go s unit = is_left s unit && not (is_certain_at s (fewer s) unit)

-- the state after this unit was taken out
abbrev pub without : Remaining → ℕ → Remaining
without s unit = record { sizes = s.sizes; wanted = s.wanted; left = slice_set s.left unit false }

-- a part for each unit that may be taken out, in order
abbrev pub eliminate_parts : Remaining → List (Part Remaining)
eliminate_parts s = unit_parts (may_go s) (weight_of s) (without s) (length s.sizes)

-- of a unit that is left, its probability among as many as are wanted over that among as many as are left
abbrev pub value_of : Remaining → ℕ → Fraction
value_of s unit =
    if is_left s unit then times (fraction_at s s.wanted unit) (inverse (fraction_at s (left_count s) unit)) else whole 0

-- ---- the design

-- The draw tree over so many units. It is done where as many are left as are wanted, and selects these.
abbrev pub elimination_tree : ℕ → Tree Remaining
elimination_tree units = record {
  units = units;
  done = λ s. nat_eq (left_count s) s.wanted;
  kind = λ s. Eliminate;
  parts = eliminate_parts;
  rank = λ s. left_count s - s.wanted;
  value = value_of;
  selected = is_left;
}

-- the sizes of so many units, and how many of them are wanted
pub record AreSizes (units : ℕ) (sizes : List ℕ) (wanted : ℕ) : Type 0 where
  pub count : length sizes ≡ units
  pub few : units ≤ most_rows
  pub positive : (unit : ℕ) → unit < units → 1 ≤ slice_index sizes unit
  pub narrow : sum sizes < 2 ^ 49
  pub some : 1 ≤ units → 1 ≤ wanted

-- a state of a selection of so many units: each unit that is certain where as many are drawn as are left is left
pub record IsRemaining (units : ℕ) (s : Remaining) : Type 0 where
  pub sizes : AreSizes units s.sizes s.wanted
  pub count : length s.left ≡ units
  pub enough : s.wanted ≤ left_count s
  pub certain : (unit : ℕ) → unit < units → is_certain_at s (left_count s) unit ≡ true
      → is_left s unit ≡ true
