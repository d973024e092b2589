use Rattle.std.proofs.Common.{◌≡◌, ◌<◌, sym, subst}
use Rattle.smp_split.specs.Trees.{picked, weight_sum}
use Rattle.smp_stratcube.specs.{Units.{Units}, Moves.{Stepping}, Steps.{from_steps, of_steps, stepping}, Kept.States.{seen}, Kept.Trees.{parts_by}}
use Rattle.smp_stratcube.proofs.design.StratCubeSplitting.advance.Goals as goal

pub advance-requires-clause-within : goal.advance-requires-clause-within
advance-requires-clause-within c =
    rw c.state.view_is (from_steps (λ (steps : Stepping). c.args.draw < weight_sum (parts_by steps c.self.inside.units c.args.state.now))
    (subst (λ (units : Units). c.args.draw < weight_sum (parts_by stepping units c.args.state.now)) (sym c.self.view_is) c.requires.within))

pub returns : goal.returns
returns c =
    subst (λ (units : Units). seen c.advance.new.self ≡ picked c.args.state.now (parts_by stepping units c.args.state.now) c.args.draw) c.self.view_is
    (of_steps (λ (steps : Stepping). seen c.advance.new.self ≡ picked c.args.state.now (parts_by steps c.self.inside.units c.args.state.now) c.args.draw) (rw c.state.view_is at c.advance.ensures.is))
