-- Splits whose values are numerators over one denominator.
use Rattle.std.proofs.Common.{◌≡◌, ℕ, ◌*◌, ◌≤◌, max, List, [], ◌∷◌, arith, ap}
use Rattle.smp_frac.specs.Fractions.{Same, whole, times, over}
use Rattle.smp_split.specs.Trees.{Part, EachPart, weight_sum, weighted, weighted_number}
use Rattle.smp_frac.proofs.{Arithmetic.{same_refl, same_trans, plus_same}, Integers.{diff-same, diffs}}
use Rattle.smp_frac.proofs.Over.{zero-over, over_plus, whole-times-over}

module _ {State : Type 0} (num den : State → ℕ) (d : ℕ) where
  weighted-over : (ps : List (Part State)) → EachPart (λ p. den p.state ≡ d) ps → Same (weighted (λ s. over (num s) (den s)) ps) (over (weighted_number num ps) d)
  weighted-over [] each = zero-over d
  weighted-over (p ∷ ps) each =
      rw each.0 (same_trans (plus_same (same_refl (times (whole p.weight) (over (num p.state) d))) (weighted-over ps each.1)) (over_plus p.weight (num p.state) (weighted_number num ps) d))

  -- it is enough that the numerators are kept
  pub even_over : (n : ℕ) (ps : List (Part State)) → EachPart (λ p. den p.state ≡ d) ps → weighted_number num ps ≡ weight_sum ps * n → Same (weighted (λ s. over (num s) (den s)) ps) (times (whole (weight_sum ps)) (over n d))
  even_over n ps each h = same_trans (weighted-over ps each) (rw h (whole-times-over (weight_sum ps) n d))

-- ---- fractions that come out whole

-- a weight that has the denominator as a factor
pub cancel_weight : (d c n : ℕ) → 1 ≤ d → Same (times (whole (d * c)) (over n d)) (whole (c * n))
cancel_weight d c n p =
    let m : max 1 d ≡ d = omega arith in
    record { cross = simp diffs (diff-same _ _ _ _ (omega (arith, ap (λ x. c * n * x) m))) }

-- the denominator times the fraction
pub whole-over : (d n : ℕ) → 1 ≤ d → Same (times (whole d) (over n d)) (whole n)
whole-over d n p =
    let m : max 1 d ≡ d = omega arith in
    record { cross = simp diffs (diff-same _ _ _ _ (omega (arith, ap (λ x. n * x) m))) }

-- a numerator that has the denominator as a factor
pub over_whole : (n d : ℕ) → 1 ≤ d → Same (over (n * d) d) (whole n)
over_whole n d p =
    let m : max 1 d ≡ d = omega arith in
    record { cross = simp diffs (diff-same _ _ _ _ (omega (arith, ap (λ x. n * x) m))) }
