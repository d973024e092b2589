-- What the code keeps of a row of values: its first two fractional units.
use Rattle.std.specs.Prelude.{◌≡◌, ◌≢◌, ℕ, ◌+◌, ◌≤◌, ◌<◌, min, false, nat_lt, if◌then◌else◌}
use Rattle.std.specs.Prelude.{List, length, slice_index, drop}
use Rattle.std.specs.List.{position_or_len}
use Rattle.smp_frac.specs.Limits.{most_denominator}
use Rattle.smp_prob.specs.Shares.{Shares}
use Rattle.smp_split.specs.Trees.{Part}
use Rattle.smp_split.specs.declared.kind.Kind.{Kind}
use Rattle.smp_split.specs.declared.kind.Kind.TheVariants.{Pivot, Lone}
use Rattle.smp_values.specs.Steps.{pair_parts, lone_parts}
use Rattle.smp_values.specs.Values.{IsValues, fractional, is_fractional}

-- the first fractional unit from a place on, or the number of units
abbrev pub fractional_from : Shares → ℕ → ℕ
fractional_from s place =
    min (length s.numer) (place + position_or_len (fractional s.den) (drop place s.numer))

abbrev pub first_of : Shares → ℕ
first_of s = fractional_from s 0

abbrev pub second_of : Shares → ℕ
second_of s = fractional_from s (first_of s + 1)

-- a step on these two, or on the first alone where the second is no unit
abbrev pub parts_at : Shares → ℕ → ℕ → List (Part Shares)
parts_at s first second =
    if nat_lt second (length s.numer) then pair_parts s first second else lone_parts s first

abbrev pub kind_at : Shares → ℕ → Kind
kind_at s second = if nat_lt second (length s.numer) then Pivot else Lone

-- the values are in range, and these are the first two fractional units
pub record IsPlaced (s : Shares) (first second : ℕ) : Type 0 where
  pub values : IsValues (length s.numer) most_denominator s
  pub first_is : first ≡ first_of s
  pub second_is : second ≡ second_of s

-- and the first of them is a unit, so there is a step
pub record IsGoing (s : Shares) (first second : ℕ) : Type 0 where
  pub first_is : first ≡ first_of s
  pub second_is : second ≡ second_of s
  pub narrow : s.den ≤ most_denominator
  pub ordered : first < second
  pub second_in : second ≤ length s.numer
  pub first_passes : (0 < slice_index s.numer first) × (slice_index s.numer first < s.den)
  pub second_passes : second < length s.numer → (0 < slice_index s.numer second)
      × (slice_index s.numer second < s.den)

-- of the units before `second`, only `first` may be fractional
abbrev pub OnlyBefore : Shares → ℕ → ℕ → Type 0
OnlyBefore s first second = (unit : ℕ) → unit < second → unit ≢ first → is_fractional s unit ≡ false
