use Rattle.smp_prob.proofs.ShapeLemmas.{divisor_positive}
use Rattle.smp_prob.proofs.shapes.shape_of.Goals as goal

pub nonzero_div-size : goal.nonzero_div-size
nonzero_div-size c =
    rw c.size_divisor-divisor.ensures (divisor_positive c.args.sizes.now c.loop-size.size-index c.loop-size-test.true (c.requires c.loop-size.size-index c.loop-size-test.true))
