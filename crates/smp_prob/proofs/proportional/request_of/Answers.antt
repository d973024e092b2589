use Rattle.smp_prob.proofs.ShapeLemmas.{shape_small}
use Rattle.smp_prob.proofs.proportional.request_of.Goals as goal

pub sum_of-total-requires-clause-small : goal.sum_of-total-requires-clause-small
sum_of-total-requires-clause-small c =
    rw (c.deref-2.ensures.value, c.in_ok-shape.ensures, c.deref.ensures.value) (shape_small c.args.picked.free_sizes.items c.requires.small)
