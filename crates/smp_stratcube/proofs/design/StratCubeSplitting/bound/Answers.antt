use Rattle.std.proofs.Common.{◌≡◌, subst}
use Rattle.smp_split.specs.Trees.{weight_sum}
use Rattle.smp_stratcube.specs.{Units.{Units}, Moves.{Stepping}, Steps.{of_steps, stepping}, Kept.Trees.{parts_by}}
use Rattle.smp_stratcube.proofs.design.StratCubeSplitting.bound.Goals as goal

pub returns : goal.returns
returns c =
    subst (λ (units : Units). c.bound.result ≡ weight_sum (parts_by stepping units c.args.state.now)) c.self.view_is
    (of_steps (λ (steps : Stepping). c.bound.result ≡ weight_sum (parts_by steps c.self.inside.units c.args.state.now)) (rw c.state.view_is at c.bound.ensures))
