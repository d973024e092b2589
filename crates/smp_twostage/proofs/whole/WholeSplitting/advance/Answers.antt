use Rattle.std.proofs.Common.{◌≡◌, ◌<◌, sym, subst}
use Rattle.smp_methods.specs.declared.any.AnyState.{AnyState}
use Rattle.smp_split.specs.{Stages.{Progress}, Trees.{Tree, weight_sum, picked}}
use Rattle.smp_twostage.proofs.Inside.{member, tree_is}
use Rattle.smp_twostage.proofs.whole.WholeSplitting.advance.Goals as goal

pub advance-requires-clause-state : goal.advance-requires-clause-state
advance-requires-clause-state c = member c.args.self.now (record { plan = c.self.inside.plan.now; only = c.self.inside.only }) c.self.view_is c.self.inside.stages.stages.items c.self.invariant.0 c.args.state.now c.requires.state.member

pub advance-requires-clause-within : goal.advance-requires-clause-within
advance-requires-clause-within c = subst (λ (t : Tree (Progress AnyState)). c.args.draw < weight_sum (t.parts c.args.state.now)) (sym (tree_is c.args.self.now (record { plan = c.self.inside.plan.now; only = c.self.inside.only }) c.self.view_is c.self.inside.stages.stages.items c.self.invariant.0 c.self.inside.stages.seats.items c.self.invariant.1)) c.requires.within

pub returns : goal.returns
returns c = subst (λ (t : Tree (Progress AnyState)). c.advance.new.state ≡ picked c.args.state.now (t.parts c.args.state.now) c.args.draw) (tree_is c.args.self.now (record { plan = c.self.inside.plan.now; only = c.self.inside.only }) c.self.view_is c.self.inside.stages.stages.items c.self.invariant.0 c.self.inside.stages.seats.items c.self.invariant.1) c.advance.ensures
