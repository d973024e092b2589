-- Requests for units whose inclusion probabilities are given as fractions.
use Rattle.std.specs.Prelude.{ℕ, ◌*◌, ◌/◌, ◌%◌, ◌≤◌, Bool, nat_eq, nat_lt, ◌&&◌, if◌then◌else◌, List, length}
use Rattle.std.specs.Prelude.{map, filter, fold, sum, slice_index_or, All}
use Prim.Native.Nat.{◌∣◌}
use Rattle.smp_frac.specs.Fractions.{Fraction, Same, whole, sum_below}
use Rattle.smp_frac.specs.Limits.{most_rows}
use Rattle.smp_frac.specs.Divisors.{greatest_common_divisor}
use Rattle.smp_frac.specs.Exact.{fraction}
use Rattle.smp_frac.specs.declared.fractions.Frac.{Frac}
use Rattle.smp_prob.specs.declared.requests.Request.{Request}
use Rattle.smp_prob.specs.Requested.{places}
use Rattle.smp_prob.specs.Shapes.{size_divisor, shape_of}

-- the most of the least common multiple of the denominators of given probabilities
abbrev pub largest_multiple : ℕ
largest_multiple = 2147483647

-- what can be given: not too many fractions, none of which passes 1
pub record AreGiven (probs : List Frac) : Type 0 where
  pub few : length probs ≤ most_rows
  pub at_most_one : All (λ p. p.num ≤ p.den) probs

-- a unit is certain where its fraction is 1
abbrev pub is_certain : Frac → Bool
is_certain p = nat_eq p.num p.den

-- a unit is free where its fraction is strictly between 0 and 1
abbrev pub is_free : Frac → Bool
is_free p = nat_lt 0 p.num && nat_lt p.num p.den

-- the least common multiple of two numbers
abbrev pub least_multiple : ℕ → ℕ → ℕ
least_multiple a b = a / greatest_common_divisor a b * b

-- The least common multiple of the denominators. It is that of the free units' alone, since 0 and 1 have the denominator 1.
abbrev pub common_multiple : List Frac → ℕ
common_multiple probs = fold (λ multiple p. least_multiple multiple p.den) 1 probs

-- the numerator of a fraction over a multiple of its denominator
abbrev pub numerator_over : ℕ → Frac → ℕ
numerator_over multiple p = p.num * (multiple / p.den)

-- the numerators of the free units' fractions over the least common multiple
abbrev pub free_numerators : List Frac → List ℕ
free_numerators probs = map (numerator_over (common_multiple probs)) (filter is_free probs)

-- whether numerators over a denominator have a whole sum
abbrev pub has_whole_sum : ℕ → List ℕ → Bool
has_whole_sum den numerators = nat_eq (sum numerators % den) 0

-- r of the request: that sum; where it isn't whole, the greatest common divisor of the numerators
abbrev pub draws : ℕ → List ℕ → ℕ
draws den numerators =
    if has_whole_sum den numerators then sum numerators / den else size_divisor numerators

-- the total of the request: the sum of the shapes; where the numerators have no whole sum, the denominator
abbrev pub out_of : ℕ → List ℕ → ℕ
out_of den numerators = if has_whole_sum den numerators then sum (shape_of numerators) else den

-- the request for units with these probabilities
abbrev pub given_of : List Frac → Request
given_of probs = record {
  certain = places is_certain 0 probs;
  free = places is_free 0 probs;
  shape = shape_of (free_numerators probs);
  r = draws (common_multiple probs) (free_numerators probs);
  total = out_of (common_multiple probs) (free_numerators probs);
}

-- ---- what is true of it

-- m is the least common multiple: each denominator divides it, and it divides each number that they all divide
pub record IsLeastMultipleOf (probs : List Frac) (m : ℕ) : Type 0 where
  pub positive : 1 ≤ m
  pub common : All (λ p. p.den ∣ m) probs
  pub least : (n : ℕ) → All (λ p. p.den ∣ n) probs → m ∣ n

-- the probability of a unit
abbrev pub given_fraction : List Frac → ℕ → Fraction
given_fraction probs unit = slice_index_or (map fraction probs) unit (whole 0)

-- how many units are expected: the sum of all probabilities
-- = Σ π of the column
abbrev pub expected_size : List Frac → Fraction
expected_size probs = sum_below (length probs) (given_fraction probs)

-- a fraction is some whole number
abbrev pub IsWholeNumber : Fraction → Type 0
IsWholeNumber a = (n : ℕ) × Same a (whole n)
