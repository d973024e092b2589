use Rattle.std.proofs.Common.{arith}
use Rattle.smp_prob.proofs.{Draws.{narrow, whole_few, divisor_narrow}, ShapeLemmas.{shape_small}}
use Rattle.smp_prob.proofs.probabilities.draws_over.Goals as goal

pub overflow_cast-result-then-rest-eq0 : goal.overflow_cast-result-then-rest-eq0
overflow_cast-result-then-rest-eq0 c =
    rw c.sum_of-sum.ensures (omega (arith, whole_few c.args.den c.args.numerators.now c.requires.positive c.requires.within c.requires.few c.requires.small))

pub sum_of-requires-clause-small : goal.sum_of-requires-clause-small
sum_of-requires-clause-small c =
    rw c.requires.shape (shape_small c.args.numerators.now (narrow c.args.den c.args.numerators.now c.requires.positive c.requires.within c.requires.few c.requires.small))

pub overflow_cast-result-else-rest-eq0 : goal.overflow_cast-result-else-rest-eq0
overflow_cast-result-else-rest-eq0 c =
    rw c.size_divisor.ensures (omega (arith, divisor_narrow c.args.den c.args.numerators.now c.requires.positive c.requires.within c.requires.few c.requires.small))
