-- The values of units as ratios of probabilities.
use Rattle.std.proofs.Common.{◌≡◌, ℕ, ◌-◌, ◌*◌, ◌≤◌, true, false, max, List, arith, refl, sym, ap, subst}
use Rattle.std.proofs.lemmas.Bool.{lt-ltb}
use Rattle.smp_frac.specs.Fractions.{Fraction, Same, whole, times, over, inverse}
use Rattle.smp_frac.proofs.Arithmetic.{same_refl, same_sym, same_trans, times_same, times_left_comm}
use Rattle.smp_frac.proofs.Integers.{diff-same, diffs}
use Rattle.smp_frac.proofs.Over.{over_same, whole-times-over}
use Rattle.smp_prob.specs.Requested.{is_certain, certain_units, open_total, requested_fraction}

-- ---- the probability of a unit of size z among n

pub fraction_certain : (n : ℕ) (sizes : List ℕ) (z : ℕ) → is_certain n sizes z ≡ true → requested_fraction n sizes z ≡ whole 1
fraction_certain n sizes z certain = rw certain refl

pub fraction_open : (n : ℕ) (sizes : List ℕ) (z : ℕ) → 1 ≤ z → is_certain n sizes z ≡ false
    → requested_fraction n sizes z ≡ over ((n - certain_units n sizes) * z) (open_total n sizes)
fraction_open n sizes z some not_certain = rw (not_certain, lt-ltb 0 z some) refl

-- ---- ratios

pub inverse_over : (n d : ℕ) → 1 ≤ d → inverse (over n d) ≡ over d n
inverse_over n d h = let same : max 1 d ≡ d = omega arith in ap (λ x. over x n) same

times_turned : (n d : ℕ) → 1 ≤ n → 1 ≤ d → Same (times (over n d) (over d n)) (whole 1)
times_turned n d p q =
    let m : max 1 n ≡ n = omega arith in
    let e : max 1 d ≡ d = omega arith in
    record { cross = simp diffs (diff-same _ _ _ _ (omega (arith, ap (λ x. x * max 1 d) m, ap (λ x. n * x) e))) }

pub times_inverse : (n d : ℕ) → 1 ≤ n → 1 ≤ d → Same (times (over n d) (inverse (over n d))) (whole 1)
times_inverse n d p q = subst (λ (x : Fraction). Same (times (over n d) x) (whole 1)) (sym (inverse_over n d q)) (times_turned n d p q)

-- a weight w of a/b is as much as a weight v of e/f
scaled : (w a b v e f : ℕ) → 1 ≤ b → 1 ≤ f → w * a * f ≡ v * e * b
    → Same (times (whole w) (over a b)) (times (whole v) (over e f))
scaled w a b v e f p q h =
    same_trans (same_sym (whole-times-over w a b)) (same_trans (over_same (w * a) (v * e) b f p q h) (whole-times-over v e f))

-- of the same times a fraction
pub keeps_value : (w v : ℕ) (t x y : Fraction) → Same (times (whole w) y) (times (whole v) x)
    → Same (times (whole w) (times t y)) (times (whole v) (times t x))
keeps_value w v t x y h =
    same_trans (times_left_comm (whole w) t y) (same_trans (times_same (same_refl t) h) (times_left_comm t (whole v) x))

-- equal weights of equal values
pub same_at : (w w' : ℕ) (y y' : Fraction) (v v' : ℕ) (x x' : Fraction) → w ≡ w' → y ≡ y' → v ≡ v' → x ≡ x'
    → Same (times (whole w') y') (times (whole v') x') → Same (times (whole w) y) (times (whole v) x)
same_at w w' y y' v v' x x' a b c d h =
    subst (λ (k : ℕ). Same (times (whole k) y) (times (whole v) x)) (sym a)
    (subst (λ (f : Fraction). Same (times (whole w') f) (times (whole v) x)) (sym b)
    (subst (λ (k : ℕ). Same (times (whole w') y') (times (whole k) x)) (sym c)
    (subst (λ (f : Fraction). Same (times (whole w') y') (times (whole v') f)) (sym d) h)))

-- with d draws out of p, the weight q d z of a unit of size z is as much as the bound p q of 1
pub fresh_ratio : (q d p z : ℕ) → 1 ≤ d * z → 1 ≤ p
    → Same (times (whole (q * d * z)) (inverse (over (d * z) p))) (times (whole (p * q)) (inverse (whole 1)))
fresh_ratio q d p z some all =
    same_at (q * d * z) (q * d * z) (inverse (over (d * z) p)) (over p (d * z)) (p * q) (p * q) (inverse (whole 1))
    (over 1 1) refl (inverse_over (d * z) p all) refl refl
    (scaled (q * d * z) p (d * z) (p * q) 1 1 some (omega arith) (omega arith))

-- and the weight d r as much as the bound of g draws out of r
pub open_ratio : (g d p r z : ℕ) → 1 ≤ d * z → 1 ≤ p → 1 ≤ g * z → 1 ≤ r
    → Same (times (whole (d * r)) (inverse (over (d * z) p))) (times (whole (p * g)) (inverse (over (g * z) r)))
open_ratio g d p r z some all more rest =
    same_at (d * r) (d * r) (inverse (over (d * z) p)) (over p (d * z)) (p * g) (p * g) (inverse (over (g * z) r))
    (over r (g * z)) refl (inverse_over (d * z) p all) refl (inverse_over (g * z) r rest)
    (scaled (d * r) p (d * z) (p * g) r (g * z) some more (omega arith))
