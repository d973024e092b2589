use Rattle.std.proofs.Common.{ap, ◌∙◌}
use Rattle.std.specs.List.{sum}
use Rattle.smp_localpiv.proofs.Weights.{weights_sum}
use Rattle.smp_localpiv.proofs.state.LocalState.left.Goals as goal

pub returns : goal.returns
returns g c = rw (← c.self.view_is) (c.total.ensures ∙ ap sum c.self.invariant.weighed.weights_are ∙ weights_sum c.self.inside.values)
