use Rattle.std.proofs.Common.{◌≡◌, subst}
use Rattle.smp_stratcube.specs.{Units.{Units}, Moves.{Stepping}, Steps.{of_steps, stepping}, Kept.Trees.{kind_by}}
use Rattle.smp_stratcube.proofs.design.StratCubeSplitting.kind.Goals as goal

pub returns : goal.returns
returns c =
    subst (λ (units : Units). c.kind.result ≡ kind_by stepping units c.args.state.now) c.self.view_is
    (of_steps (λ (steps : Stepping). c.kind.result ≡ kind_by steps c.self.inside.units c.args.state.now) (rw c.state.view_is at c.kind.ensures))
