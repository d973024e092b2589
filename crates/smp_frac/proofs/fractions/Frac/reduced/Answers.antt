use Rattle.std.proofs.Common.{◌≡◌, ◌*◌, ◌/◌, ◌≤◌, ap, sym, ◌∙◌, subst, ℕ}
use Rattle.smp_frac.specs.{Fractions.{positive_product}, Divisors.{greatest_common_divisor}}
use Rattle.smp_frac.proofs.Over.{over_from_cross}
use Rattle.smp_frac.specs.Laws.Lowest.{over-divisor, over-positive, over-lowest, over-value}
use Rattle.smp_frac.proofs.fractions.Frac.reduced.Goals as goal

pub nonzero_div-den : goal.nonzero_div-den
nonzero_div-den c =
    let a = c.args in over-divisor a.num a.part a.den a.common _ c.requires.some_den c.requires.divides c.gcd-divisor.ensures.divides

pub invariant_of-result : goal.invariant_of-result
invariant_of-result c =
    let a = c.args in
    let h = c.requires in
    let r = c.gcd-divisor.ensures.divides in
    let e = sym c.in_ok-den.ensures.1 in
    record {
      positive = subst (λ (d : ℕ). 1 ≤ d) e (over-positive a.num a.part a.den a.common _ h.some_den h.divides r h.some_part);
      lowest = subst (λ (d : ℕ). greatest_common_divisor (a.num / c.gcd-divisor.result) d ≡ 1) e (over-lowest a.num a.part a.den a.common _ h.some_den h.divides r h.apart h.rest_apart);
    }

pub returns-clause-value : goal.returns-clause-value
returns-clause-value c =
    let a = c.args in
    over_from_cross _ _ _ _ _ (positive_product a.part a.den c.requires.some_part c.requires.some_den)
    (over-value a.num a.part a.den a.common _ c.requires.some_den c.requires.divides c.gcd-divisor.ensures.divides ∙ ap (λ d. a.num * d) (sym c.in_ok-den.ensures.1))
