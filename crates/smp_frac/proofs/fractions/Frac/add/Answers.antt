use Rattle.std.proofs.{Common.{◌+◌, ◌*◌, ◌/◌}, lemmas.Result.{IfOk-weaker}}
use Rattle.smp_frac.specs.{Fractions.{Same, over, plus}, Exact.{fraction}, Laws.Coprime.{part_positive}}
use Rattle.smp_frac.proofs.Sums.{terms_sum_apart, terms_sum_rest_apart, is_sum}
use Rattle.smp_frac.proofs.fractions.Frac.add.Goals as goal

pub reduced-requires-clause-some_part : goal.reduced-requires-clause-some_part
reduced-requires-clause-some_part c = part_positive _ _ c.args.self.positive c.gcd-common.ensures.divides.0

pub reduced-requires-clause-apart : goal.reduced-requires-clause-apart
reduced-requires-clause-apart c =
    rw (c.in_ok-first.ensures.1, c.in_ok-second.ensures.1) (terms_sum_apart c.args.self c.args.other c.gcd-common.ensures.divides)

pub reduced-requires-clause-rest_apart : goal.reduced-requires-clause-rest_apart
reduced-requires-clause-rest_apart c =
    rw (c.in_ok-first.ensures.1, c.in_ok-second.ensures.1) (terms_sum_rest_apart c.args.self c.args.other c.gcd-common.ensures.divides)

pub returns-clause-value : goal.returns-clause-value
returns-clause-value c =
    let p = c.args.self in
    let q = c.args.other in
    let g = c.gcd-common.result in
    let h = rw (c.in_ok-first.ensures.1, c.in_ok-second.ensures.1) at c.reduced.ensures.value in
    IfOk-weaker c.reduced.result (λ f. Same (fraction f) (over (p.num * (q.den / g) + q.num * (p.den / g)) (p.den / g * q.den))) (λ f. Same (fraction f) (plus (fraction p) (fraction q)))
    (is_sum p q c.gcd-common.ensures.divides) h
