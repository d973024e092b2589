use Rattle.std.proofs.Common.{arith}
use Rattle.smp_prob.proofs.Multiples.{next_divides, next_multiple}
use Rattle.smp_prob.proofs.probabilities.common_multiple.Goals as goal

pub returns-in_err-multiple : goal.returns-in_err-multiple
returns-in_err-multiple c =
    rw c.from_residual.ensures (λ within.
    let common = next_divides c.args.probs.now c.loop-prob.prob-index c.loop-prob.multiple c.prob-item.result c.loop-prob-test.true c.loop-prob.invariant.so_far c.prob-item.is in
    omega (arith, within, c.in_err-multiple.ensures.passes _ common))

pub loop-prob-preserved : goal.loop-prob-preserved
loop-prob-preserved c = record {
  so_far = next_multiple c.args.probs.now c.loop-prob.prob-index c.loop-prob.multiple c.in_ok-multiple.multiple c.prob-item.result c.loop-prob-test.true c.loop-prob.invariant.so_far c.prob-item.is c.loop-prob.invariant.some c.in_ok-multiple.ensures.least;
  some = c.in_ok-multiple.ensures.least.common.positive;
  within = c.in_ok-multiple.ensures.within;
}
