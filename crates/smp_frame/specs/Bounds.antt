-- What is true of every frame that was read.
use Rattle.std.specs.Prelude.{◌≡◌, ℕ, ◌≤◌, ◌<◌, ℤ, nat_abs, List, length, map, slice_index, All}
use Rattle.smp_frac.specs.Limits.{most_rows, number_limit}
use Rattle.smp_frac.specs.declared.fractions.Frac.{Frac}
use Rattle.smp_frame.specs.declared.frame.Unit as unit

-- a fraction from 0 to 1, of numbers up to 2,147,483,647
pub record IsProbability (f : Frac) : Type 0 where
  pub at_most_one : f.num ≤ f.den
  pub small : f.den < number_limit

abbrev pub AreProbabilities : List Frac → Type 0
AreProbabilities probs = All IsProbability probs

-- values within 2,147,483,647 of 0
abbrev pub AreSmall : List ℤ → Type 0
AreSmall values = All (λ value. nat_abs value < number_limit) values

-- 1 to 200,000 units, with sizes, balancing values and coordinates within 2,147,483,647 of 0, and probabilities
pub record IsFrame (units : List unit.Unit) : Type 0 where
  pub some : 1 ≤ length units
  pub few : length units ≤ most_rows
  pub small : (i : ℕ) → i < length units → slice_index (map (λ u. u.size) units) i < number_limit
  pub second_small : (i : ℕ) → i < length units → slice_index (map (λ u. u.second_size) units) i
      < number_limit
  pub probabilities : AreProbabilities (map (λ u. u.prob) units)
  pub balance : All (λ u. AreSmall u.balance) units
  pub points : All (λ u. AreSmall u.point) units

-- so many balancing values for each unit
abbrev pub HaveBalance : ℕ → List unit.Unit → Type 0
HaveBalance count units = All (λ u. length u.balance ≡ count) units

-- so many coordinates for each unit
abbrev pub HavePoints : ℕ → List unit.Unit → Type 0
HavePoints count units = All (λ u. length u.point ≡ count) units
