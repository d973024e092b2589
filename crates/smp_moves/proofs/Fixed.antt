-- The properties of a move fix its numbers: there is one greatest fraction, and one pair of weights.
use Rattle.std.proofs.{Common.{◌≡◌, ℕ, ◌*◌, ◌≤◌, max, arith, ap, ap₂}, lemmas.Int.{ints}}
use Rattle.std.specs.Int.{IsGcd}
use Rattle.smp_frac.specs.Fractions.{AtMost, Same, times, whole}
use Rattle.smp_frac.proofs.Arithmetic.{cancel}
use Rattle.smp_prob.specs.Shares.{Shares}
use Rattle.smp_moves.specs.{declared.lines.Ratio.{Ratio}, Moves.{IsGreatest, Line, fraction_of}}
use Rattle.smp_moves.proofs.LowestTerms.{same_coprime}

cross_at_most : (r t : Ratio) → 1 ≤ r.den → 1 ≤ t.den → AtMost (fraction_of r) (fraction_of t) → r.num * t.den ≤ t.num * r.den
cross_at_most r t pr pt h =
    let er : max 1 r.den ≡ r.den = omega arith in
    let et : max 1 t.den ≡ t.den = omega arith in
    let k : r.num * max 1 t.den ≤ t.num * max 1 r.den = omega (arith, ints, h.cross) in
    omega (arith, k, ap (λ x. t.num * x) er, ap (λ x. r.num * x) et)

pub one_greatest : (s : Shares) (line : Line) (r t : Ratio) → IsGreatest s line r → IsGreatest s line t → r ≡ t
one_greatest s line r t g h =
    let a = cross_at_most r t g.some h.some (h.greatest (fraction_of r) g.stays) in
    let b = cross_at_most t r h.some g.some (g.greatest (fraction_of t) h.stays) in
    let both = same_coprime r.num r.den t.num t.den g.reduced h.reduced g.some (omega (arith, a, b)) in
    ap₂ (λ n d. record { num = n; den = d }) both.0 both.1

pub weights_cross : (w x : ℕ) (r t : Ratio) → 1 ≤ r.den → 1 ≤ t.den → Same (times (whole w) (fraction_of r)) (times (whole x) (fraction_of t)) → w * (r.num * t.den) ≡ x * (t.num * r.den)
weights_cross w x r t pr pt h =
    let er : max 1 r.den ≡ r.den = omega arith in
    let et : max 1 t.den ≡ t.den = omega arith in
    let k : w * r.num * (1 * max 1 t.den) ≡ x * t.num * (1 * max 1 r.den) = omega (arith, ints, h.cross) in
    omega (arith, k, ap (λ y. x * t.num * y) er, ap (λ y. w * r.num * y) et)

pub one_weights : (w x w' x' p q : ℕ) → 1 ≤ p → 1 ≤ x → w * p ≡ x * q → w' * p ≡ x' * q → IsGcd w x 1 → IsGcd w' x' 1 → (w ≡ w') × (x ≡ x')
one_weights w x w' x' p q pp px h k r s =
    same_coprime w x w' x' r s px
    (cancel (w * x') (w' * x) p pp (let a : w * p * x' ≡ x * q * x' = ap (λ y. y * x') h in let b : w' * p * x ≡ x' * q * x = ap (λ y. y * x) k in omega (arith, a, b)))
