-- The order of integers that are formal differences, and of fractions, over the natural numbers.
use Rattle.std.proofs.{Common.{◌≡◌, ℕ, suc, ◌+◌, ◌*◌, ◌<◌, ◌≤◌, max, pos, negsuc, ◌+ℤ◌, ◌≤ℤ◌, ◌<ℤ◌, arith, sym, ap, ◌∙◌}, lemmas.Int.{ints}}
use Rattle.std.proofs.Math.Nat.{mul-le-mul_right, le_of_mul-le-mul_right}
use Rattle.smp_frac.specs.Fractions.{Fraction, Same, AtMost, whole, over}
use Rattle.smp_frac.proofs.Integers.{diff, diff-add, diff-same, same-diff, by_diff, diffs, pos-diff}

diff_up : (a b : ℕ) → diff a b +ℤ pos b ≡ pos a
diff_up a b = ap (λ z. diff a b +ℤ z) (pos-diff b) ∙ diff-add a b b 0 ∙ diff-same (a + b) (b + 0) a 0 (omega arith) ∙ sym (pos-diff a)

pub neg-diff : (n : ℕ) → negsuc n ≡ diff 0 (suc n)
neg-diff n = omega (arith, ints, diff_up 0 (suc n))

pub diff-le : (a b c d : ℕ) → a + d ≤ c + b → diff a b ≤ℤ diff c d
diff-le a b c d h = omega (arith, ints, diff_up a b, diff_up c d)

pub le-diff : (a b c d : ℕ) → diff a b ≤ℤ diff c d → a + d ≤ c + b
le-diff a b c d h = omega (arith, ints, diff_up a b, diff_up c d)

pub diff-lt : (a b c d : ℕ) → a + d < c + b → diff a b <ℤ diff c d
diff-lt a b c d h = omega (arith, ints, diff_up a b, diff_up c d)

pub lt-diff : (a b c d : ℕ) → diff a b <ℤ diff c d → a + d < c + b
lt-diff a b c d h = omega (arith, ints, diff_up a b, diff_up c d)

-- what holds of each fraction whose numerator is a difference holds of each fraction
pub by_parts : (P : Fraction → Type 0) → ((p p' d : ℕ) (h : 1 ≤ d) → P (record { num = diff p p'; den = d; positive = h })) → (a : Fraction) → P a
by_parts P f a = by_diff (λ z. P (record { num = z; den = a.den; positive = a.positive })) (λ p p'. f p p' a.den a.positive) a.num

-- two numerators over two denominators
pub over_cross : (b d e f : ℕ) → 1 ≤ d → 1 ≤ f → Same (over b d) (over e f) → b * f ≡ e * d
over_cross b d e f pd pf same =
    let one : max 1 d ≡ d = omega arith in
    let two : max 1 f ≡ f = omega arith in
    let both : b * max 1 f ≡ e * max 1 d = omega (arith, ints, same.cross) in
    omega (arith, both, ap (λ x. e * x) one, ap (λ x. b * x) two)

-- a value that is at most 1
pub over_at_most_one : (b d : ℕ) (x : Fraction) → 1 ≤ d → Same (over b d) x → AtMost x (whole 1) → b ≤ d
over_at_most_one b d x pd =
    let one : max 1 d ≡ d = omega arith in
    by_parts (λ x. Same (over b d) x → AtMost x (whole 1) → b ≤ d)
    (λ p p' e h same most.
    (let both : diff (b * e) 0 ≡ diff (p * max 1 d + p' * 0) (p * 0 + p' * max 1 d) = simp diffs at same.cross in
    let k = same-diff _ _ _ _ both in
    let m : diff (p * 1 + p' * 0) (p * 0 + p' * 1) ≤ℤ diff (1 * e) 0 = simp diffs at most.cross in
    let l = le-diff _ _ _ _ m in
    let n : p * d ≤ (e + p') * d = mul-le-mul_right d (let q : p ≤ e + p' = omega (arith, l) in q) in
    le_of_mul-le-mul_right {k = e} (let g : b * e ≤ d * e = omega (arith, k, n, ap (λ y. p * y) one, ap (λ y. p' * y) one) in g) h)) x
