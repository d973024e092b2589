-- Shapes are sizes divided by their greatest common divisor, and in proportion to the sizes.
use Rattle.std.proofs.Common.{◌≡◌, ℕ, zero, suc, ◌*◌, ◌/◌, ◌^◌, ◌<◌, ◌≤◌, List, [], ◌∷◌, length, map, arith}
use Rattle.std.specs.Prelude.{fold, sum, slice_index, EachIndex, All}
use Rattle.std.proofs.Math.Nat.{div-mul_cancel, div-le_self, dvd-mul_right, lt_of_mul-lt-mul_right, pos_of_dvd_of_pos}
use Rattle.std.proofs.{lemmas.List.{get_or-map, length-map}, lemmas.List.Elements.{All-from_get_or}, lemmas.Nat.Gcd.{dvd_refl, dvd_trans}}
use Rattle.std.proofs.lemmas.List.Sums.{sum_by-cons, sum_by-le}
use Prim.Native.Nat.{◌∣◌}
use Rattle.smp_frac.specs.{Divisors.{greatest_common_divisor}, Laws.Gcds.{IsGcd-greatest_common_divisor}}
use Rattle.smp_prob.specs.Shapes.{size_divisor, shape_of}

-- the greatest common divisor of d and all sizes divides d
divides_first : (d : ℕ) (sizes : List ℕ) → fold greatest_common_divisor d sizes ∣ d
divides_first d [] = dvd_refl d
divides_first d (size ∷ sizes) =
    dvd_trans _ (divides_first (greatest_common_divisor d size) sizes) (IsGcd-greatest_common_divisor d size).0

-- and each size
pub divides_each : (d : ℕ) (sizes : List ℕ) (i : ℕ) → i < length sizes → fold greatest_common_divisor d sizes ∣ slice_index sizes i
divides_each d [] i h = absurd (omega (arith, h))
divides_each d (size ∷ sizes) zero h =
    dvd_trans _ (divides_first (greatest_common_divisor d size) sizes) (IsGcd-greatest_common_divisor d size).1
divides_each d (size ∷ sizes) (suc i) h = divides_each (greatest_common_divisor d size) sizes i (omega (arith, h))

-- the quotients by a common divisor, added up, times that divisor
sum-quotients : (g : ℕ) (sizes : List ℕ) → EachIndex sizes (λ i. g ∣ slice_index sizes i) → sum (map (λ size. size / g) sizes) * g ≡ sum sizes
sum-quotients g [] h = omega arith
sum-quotients g (size ∷ sizes) h =
    let rest = sum-quotients g sizes (λ i here. h (suc i) (omega (arith, here))) in
    let first : size / g * g ≡ size = div-mul_cancel g (h 0 (omega arith)) in
    rw (sum_by-cons (λ (x : ℕ). x) (size / g) (map (λ size. size / g) sizes), sum_by-cons (λ (x : ℕ). x) size sizes) (omega (arith, rest, first))

module _ (sizes : List ℕ) where
  pub total-divisor : sum (shape_of sizes) * size_divisor sizes ≡ sum sizes
  total-divisor = sum-quotients (size_divisor sizes) sizes (divides_each 0 sizes)

  pub length-shape_of : length (shape_of sizes) ≡ length sizes
  length-shape_of = length-map sizes (λ size. size / size_divisor sizes)

  module _ (i : ℕ) (here : i < length sizes) where
    pub divisor_positive : 1 ≤ slice_index sizes i → 1 ≤ size_divisor sizes
    divisor_positive some = pos_of_dvd_of_pos (divides_each 0 sizes i here) some

    shape-quotient : slice_index (shape_of sizes) i ≡ slice_index sizes i / size_divisor sizes
    shape-quotient = get_or-map (λ size. size / size_divisor sizes) sizes i 0 0 here

    pub shape-divisor : slice_index (shape_of sizes) i * size_divisor sizes ≡ slice_index sizes i
    shape-divisor = rw shape-quotient (div-mul_cancel (size_divisor sizes) (divides_each 0 sizes i here))

    shape-le-size : slice_index (shape_of sizes) i ≤ slice_index sizes i
    shape-le-size = rw shape-quotient (div-le_self (slice_index sizes i) (size_divisor sizes))

    pub shape_positive : 1 ≤ slice_index sizes i → 1 ≤ slice_index (shape_of sizes) i
    shape_positive some =
        let product : 1 ≤ slice_index (shape_of sizes) i * size_divisor sizes = rw shape-divisor some in
        pos_of_dvd_of_pos (dvd-mul_right (slice_index (shape_of sizes) i) (size_divisor sizes)) product

    pub shape_below : (n : ℕ) → n * slice_index sizes i < sum sizes → slice_index (shape_of sizes) i * n < sum (shape_of sizes)
    shape_below n below =
        lt_of_mul-lt-mul_right (size_divisor sizes)
        (let product : slice_index (shape_of sizes) i * n * size_divisor sizes ≡ n * slice_index sizes i = rw (← shape-divisor) (omega arith) in
        omega (arith, product, total-divisor, below))

  pub shape_small : EachIndex sizes (λ i. slice_index sizes i < 2 ^ 31) → EachIndex (shape_of sizes) (λ i. slice_index (shape_of sizes) i < 2 ^ 31)
  shape_small small i within =
      let here : i < length sizes = omega (arith, within, length-shape_of) in
      omega (arith, shape-le-size i here, small i here)

  -- shape * n / the sum of the shapes is n * size over the sum of the sizes
  pub proportional : (n : ℕ) → EachIndex sizes (λ i. slice_index (shape_of sizes) i * n * sum sizes ≡ n * slice_index sizes i * sum (shape_of sizes))
  proportional n i here = rw (← shape-divisor i here, ← total-divisor) (omega arith)

-- the sum of at most 200000 numbers below 2 ^ 31
pub sum_narrow : (sizes : List ℕ) → length sizes ≤ 200000 → EachIndex sizes (λ i. slice_index sizes i < 2 ^ 31) → sum sizes < 2 ^ 49
sum_narrow sizes few small =
    let each : All (λ size. size ≤ 2 ^ 31) sizes = All-from_get_or (λ size. size ≤ 2 ^ 31) sizes 0 (λ i here. omega (arith, small i here)) in
    omega (arith, few, sum_by-le (λ (size : ℕ). size) (2 ^ 31) sizes each)
