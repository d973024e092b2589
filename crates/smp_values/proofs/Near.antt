-- Values over one denominator on the way to a leaf. Their sum stays what it is, but for a last step on one fractional unit alone, which changes it
-- by less than the denominator and leaves all values settled.
use Rattle.std.proofs.{Common.{◌≡◌, ℕ, ◌+◌, ◌*◌, ◌<◌, ◌≤◌, true, false, nat_eq, length, get_or, arith, refl, ap}, lemmas.Bool.{eq-eqb}}
use Rattle.std.specs.List.{count_by, sum}
use Rattle.std.proofs.lemmas.List.Sums.{sum_by-set}
use Rattle.smp_frac.specs.{Bounds.{IsAround}, Fractions.{over}}
use Rattle.smp_frac.proofs.Around.{around_over}
use Rattle.smp_prob.specs.Shares.{Shares}
use Rattle.smp_split.specs.Trees.{EachPart}
use Rattle.smp_values.specs.{Steps.{lone_parts}, Values.{fractional, fractional_count, is_fractional, is_settled, with_one}}
use Rattle.smp_values.proofs.{Changes.{one_falls}, Fractional.{IsSettled, fractional_den, settled_sum}}

-- the sum is the total as long as a unit is fractional, and always less than the denominator away from it
pub record IsNear (total den : ℕ) (s : Shares) : Type 0 where
  pub den_is : s.den ≡ den
  pub going : is_settled s ≡ false → sum s.numer ≡ total
  pub above : sum s.numer < total + den
  pub below : total < sum s.numer + den

-- values with this sum are near it
pub near_same : (total den : ℕ) (s : Shares) → 1 ≤ s.den → s.den ≡ den → sum s.numer ≡ total → IsNear total den s
near_same total den s one is same = record { den_is = is; going = λ _. same; above = omega arith; below = omega arith }

-- so are settled ones whose sum is less than the denominator away
pub near_settled : (total den : ℕ) (s : Shares) → s.den ≡ den → is_settled s ≡ true → sum s.numer < total + den → total < sum s.numer + den → IsNear total den s
near_settled total den s is done above below = record { den_is = is; going = λ going. absurd (cc); above = above; below = below }

-- at the end so many units are at 1 as a whole number around the total over the denominator
pub near_count : (total den : ℕ) (s : Shares) → 1 ≤ s.den → ((k : ℕ) → k < length s.numer → IsSettled s.den (get_or s.numer k 0)) → IsNear total den s → IsAround (count_by (λ a. nat_eq a s.den) s.numer) (over total den)
near_count total den s one settled near =
    let count : ℕ = count_by (λ a. nat_eq a s.den) s.numer in
    let whole : sum s.numer ≡ s.den * count = settled_sum s.den s.numer one settled in
    let here : s.den * count ≡ den * count = ap (λ d. d * count) near.den_is in
    around_over count total den (omega (arith, near.den_is)) (omega (arith, near.above, near.below)) (omega (arith, near.above, near.below))

-- a step on a unit that alone is fractional
module _ (total den : ℕ) (s : Shares) (near : IsNear total den s) (going : is_settled s ≡ false) (few : fractional_count s ≤ 1) (i : ℕ) (i_in : i < length s.numer) (i_open : is_fractional s i ≡ true) (between : (0 < get_or s.numer i 0) × (get_or s.numer i 0 < s.den)) where
  near_one : (x : ℕ) → x ≤ s.den → fractional s.den x ≡ false → IsNear total den (with_one s i x)
  near_one x within settles =
      let falls : fractional_count (with_one s i x) < fractional_count s = one_falls s.numer i x i_in s.den i_open settles in
      let changed : sum (with_one s i x).numer + get_or s.numer i 0 ≡ sum s.numer + x = sum_by-set (λ a. a) s.numer i x 0 i_in in
      let was : sum s.numer ≡ total = near.going going in
      near_settled total den (with_one s i x) near.den_is (eq-eqb (fractional_count (with_one s i x)) 0 (omega arith)) (omega (arith, near.den_is, between.0)) (omega (arith, near.den_is, between.1))

  pub lone_near : EachPart (λ p. IsNear total den p.state) (lone_parts s i)
  lone_near = (near_one s.den (omega arith) (fractional_den s.den), (near_one 0 (omega arith) refl, tt))
