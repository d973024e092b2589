use Rattle.smp_weights.proofs.weights.weight_of.Goals as goal

pub returns : goal.returns
returns c = rw c.unwrap.ensures at c.inverse.ensures.value
