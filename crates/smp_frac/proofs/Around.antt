-- The strict order of fractions, and the whole numbers around a fraction.
use Rattle.std.proofs.{Common.{◌≡◌, ℕ, ◌+◌, ◌*◌, ◌<◌, ◌≤◌, max, ◌<ℤ◌, arith, ap}, lemmas.Int.{ints}}
use Rattle.std.proofs.Math.Nat.{mul-lt-mul_of_pos_right, lt_of_mul-lt-mul_right}
use Rattle.smp_frac.specs.{Fractions.{Fraction, Same, LessThan, whole, plus, over}, Bounds.{IsAround}}
use Rattle.smp_frac.proofs.{Signs.{by_parts, diff-lt, lt-diff}, Arithmetic.{same_refl, same_sym, plus_same}}
use Rattle.smp_frac.proofs.Integers.{diff, same-diff, diffs}

abbrev apart : ℕ → ℕ → (d : ℕ) → 1 ≤ d → Fraction
apart p p' d h = record { num = diff p p'; den = d; positive = h }

-- the order and the equality of two fractions over ℕ
abbrev Under : ℕ → ℕ → ℕ → ℕ → ℕ → ℕ → Type 0
Under p p' d q q' e = p * e + q' * d < q * d + p' * e

abbrev Equal : ℕ → ℕ → ℕ → ℕ → ℕ → ℕ → Type 0
Equal p p' d q q' e = p * e + q' * d ≡ q * d + p' * e

less : (p p' d : ℕ) (h : 1 ≤ d) (q q' e : ℕ) (k : 1 ≤ e) → Under p p' d q q' e → LessThan (apart p p' d h) (apart q q' e k)
less p p' d h q q' e k l =
    let m : diff (p * e + p' * 0) (p * 0 + p' * e) <ℤ diff (q * d + q' * 0) (q * 0 + q' * d) = diff-lt _ _ _ _ (omega (arith, l)) in
    record { cross = simp diffs m }

under : (p p' d : ℕ) (h : 1 ≤ d) (q q' e : ℕ) (k : 1 ≤ e) → LessThan (apart p p' d h) (apart q q' e k) → Under p p' d q q' e
under p p' d h q q' e k l =
    let m : diff (p * e + p' * 0) (p * 0 + p' * e) <ℤ diff (q * d + q' * 0) (q * 0 + q' * d) = simp diffs at l.cross in
    let n = lt-diff _ _ _ _ m in
    omega (arith, n)

equal : (p p' d : ℕ) (h : 1 ≤ d) (q q' e : ℕ) (k : 1 ≤ e) → Same (apart p p' d h) (apart q q' e k) → Equal p p' d q q' e
equal p p' d h q q' e k s =
    let m : diff (p * e + p' * 0) (p * 0 + p' * e) ≡ diff (q * d + q' * 0) (q * 0 + q' * d) = simp diffs at s.cross in
    let n = same-diff _ _ _ _ m in
    omega (arith, n)

-- ---- the same fractions are in the same order

left_at : (p p' d q q' e r r' f : ℕ) → 1 ≤ d → Equal p p' d q q' e → Under q q' e r r' f → Under p p' d r r' f
left_at p p' d q q' e r r' f pd x y =
    let a : (p * e + q' * d) * f ≡ (q * d + p' * e) * f = ap (λ n. n * f) x in
    let b : (q * f + r' * e) * d < (r * e + q' * f) * d = mul-lt-mul_of_pos_right y (let some : 0 < d = omega arith in some) in
    lt_of_mul-lt-mul_right e (let c : (p * f + r' * d) * e < (r * d + p' * f) * e = omega (arith, a, b) in c)

right_at : (p p' d q q' e r r' f : ℕ) → 1 ≤ f → Under p p' d q q' e → Equal q q' e r r' f → Under p p' d r r' f
right_at p p' d q q' e r r' f pf x y =
    let a : (p * e + q' * d) * f < (q * d + p' * e) * f = mul-lt-mul_of_pos_right x (let some : 0 < f = omega arith in some) in
    let b : (q * f + r' * e) * d ≡ (r * e + q' * f) * d = ap (λ n. n * d) y in
    lt_of_mul-lt-mul_right e (let c : (p * f + r' * d) * e < (r * d + p' * f) * e = omega (arith, a, b) in c)

by_three : (P : Fraction → Fraction → Fraction → Type 0) → ((p p' d : ℕ) (h : 1 ≤ d) (q q' e : ℕ) (k : 1 ≤ e) (r r' f : ℕ) (l : 1 ≤ f) → P (apart p p' d h) (apart q q' e k) (apart r r' f l)) → (a b c : Fraction) → P a b c
by_three P each =
    by_parts (λ a. (b c : Fraction) → P a b c)
    (λ p p' d h. by_parts (λ b. (c : Fraction) → P (apart p p' d h) b c)
    (λ q q' e k. by_parts (λ c. P (apart p p' d h) (apart q q' e k) c)
    (λ r r' f l. each p p' d h q q' e k r r' f l)))

less_left : (a b c : Fraction) → Same a b → LessThan b c → LessThan a c
less_left =
    by_three (λ a b c. Same a b → LessThan b c → LessThan a c)
    (λ p p' d h q q' e k r r' f l x y. less p p' d h r r' f l (left_at p p' d q q' e r r' f h (equal p p' d h q q' e k x) (under q q' e k r r' f l y)))

less_right : (a b c : Fraction) → LessThan a b → Same b c → LessThan a c
less_right =
    by_three (λ a b c. LessThan a b → Same b c → LessThan a c)
    (λ p p' d h q q' e k r r' f l x y. less p p' d h r r' f l (right_at p p' d q q' e r r' f l (under p p' d h q q' e k x) (equal q q' e k r r' f l y)))

pub same_less : {a b c d : Fraction} → Same a b → Same c d → LessThan b d → LessThan a c
same_less {a} {b} {c} {d} x y h = less_right a d c (less_left a b d x h) (same_sym y)

-- ---- whole numbers around a fraction

pub around_same : (n : ℕ) {a b : Fraction} → Same a b → IsAround n b → IsAround n a
around_same n {a} {b} same is = record {
  above = same_less same (same_refl (whole (n + 1))) is.above;
  below = same_less (same_refl (whole n)) (plus_same same (same_refl (whole 1))) is.below;
}

-- around a numerator over a denominator
pub around_over : (n m d : ℕ) → 1 ≤ d → n * d < m + d → m < (n + 1) * d → IsAround n (over m d)
around_over n m d one below above =
    let e : max 1 d ≡ d = omega arith in
    record {
      above = record { cross = rw e (simp diffs (diff-lt _ _ _ _ (omega (arith, above)))) };
      below = record { cross = rw e (simp diffs (diff-lt _ _ _ _ (omega (arith, below)))) };
    }

pub over_around : (n m d : ℕ) → 1 ≤ d → IsAround n (over m d) → (n * d < m + d) × (m < (n + 1) * d)
over_around n m d one is =
    let e : max 1 d ≡ d = omega arith in
    let above : m * 1 < (n + 1) * max 1 d = omega (arith, ints, is.above.cross) in
    let below : n * (max 1 d * 1) < (m * 1 + 1 * max 1 d) * 1 = omega (arith, ints, is.below.cross) in
    (omega (arith, below, ap (λ x. n * x) e), omega (arith, above, ap (λ x. (n + 1) * x) e))

-- around a whole number there is only that one
pub around_whole : (n m : ℕ) → IsAround n (whole m) → n ≡ m
around_whole n m is = omega (arith, ints, is.above.cross, is.below.cross)

-- with a whole number added to both
pub around_more : (m n : ℕ) (a : Fraction) → IsAround n a → IsAround (m + n) (plus (whole m) a)
around_more m n =
    by_parts (λ a. IsAround n a → IsAround (m + n) (plus (whole m) a))
    (λ p p' d h is.
    (let a : diff (p * 1 + p' * 0) (p * 0 + p' * 1) <ℤ diff ((n + 1) * d) 0 = simp diffs at is.above.cross in
    let b : diff (n * (d * 1)) 0 <ℤ diff ((p * 1 + p' * 0 + 1 * d) * 1 + (p * 0 + p' * 1 + 0) * 0) ((p * 1 + p' * 0 + 1 * d) * 0 + (p * 0 + p' * 1 + 0) * 1) = simp diffs at is.below.cross in
    let above = lt-diff _ _ _ _ a in
    let below = lt-diff _ _ _ _ b in
    record {
      above = record { cross = simp diffs (diff-lt _ _ _ _ (omega (arith, above))) };
      below = record { cross = simp diffs (diff-lt _ _ _ _ (omega (arith, below))) };
    }))
