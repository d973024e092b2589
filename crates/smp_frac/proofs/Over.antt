-- Numerators over a denominator.
use Rattle.std.proofs.{Common.{◌≡◌, ℕ, ◌+◌, ◌*◌, ◌≤◌, max, pos, arith, ap, ◌∙◌}, lemmas.Int.{ints}}
use Rattle.smp_frac.specs.Fractions.{Same, whole, plus, times, over}
use Rattle.smp_frac.proofs.{Arithmetic.{same_sym}, Integers.{diff-same, diffs}}

pub zero-over : (d : ℕ) → Same (whole 0) (over 0 d)
zero-over d = record { cross = simp diffs (diff-same _ _ _ _ (omega arith)) }

pub over_plus : (w a b d : ℕ) → Same (plus (times (whole w) (over a d)) (over b d)) (over (w * a + b) d)
over_plus w a b d = record { cross = simp diffs (diff-same _ _ _ _ (omega arith)) }

pub whole-times-over : (w n d : ℕ) → Same (over (w * n) d) (times (whole w) (over n d))
whole-times-over w n d = record { cross = simp diffs (diff-same _ _ _ _ (omega arith)) }

-- nothing, and all
pub over_zero : (d : ℕ) → Same (over 0 d) (whole 0)
over_zero d = same_sym (zero-over d)

pub over_one : (d : ℕ) → 1 ≤ d → Same (over d d) (whole 1)
over_one d h =
    let one : max 1 d ≡ d = omega arith in
    record { cross = simp diffs (diff-same _ _ _ _ (omega (arith, one))) }

-- two numerators over two denominators, by their cross products
pub over_same : (m n d e : ℕ) → 1 ≤ d → 1 ≤ e → m * e ≡ n * d → Same (over m d) (over n e)
over_same m n d e h k cross =
    let left : m * (over n e).den ≡ m * e = ap (λ x. m * x) (let one : max 1 e ≡ e = omega arith in one) in
    let right : n * (over m d).den ≡ n * d = ap (λ x. n * x) (let one : max 1 d ≡ d = omega arith in one) in
    record { cross = simp diffs (diff-same _ _ _ _ (omega (arith, cross, left, right))) }

-- m / e is n over d, by its cross product, and back
pub over_from_cross : (m n d e : ℕ) (h : 1 ≤ e) → 1 ≤ d → m * d ≡ n * e → Same (record { num = pos m; den = e; positive = h }) (over n d)
over_from_cross m n d e h some cross = (let one : max 1 d ≡ d = omega arith in record { cross = ap pos (ap (λ x. m * x) one ∙ cross) })

pub cross_from_over : (m n d e : ℕ) (h : 1 ≤ e) → 1 ≤ d → Same (record { num = pos m; den = e; positive = h }) (over n d) → m * d ≡ n * e
cross_from_over m n d e h some same =
    let one : max 1 d ≡ d = omega arith in
    let both : m * max 1 d ≡ n * e = omega (arith, ints, same.cross) in
    omega (arith, both, ap (λ x. m * x) one)
