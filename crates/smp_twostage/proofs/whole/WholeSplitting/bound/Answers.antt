use Rattle.std.proofs.Common.{◌≡◌, subst}
use Rattle.smp_methods.specs.declared.any.AnyState.{AnyState}
use Rattle.smp_split.specs.{Stages.{Progress}, Trees.{Tree, weight_sum}}
use Rattle.smp_twostage.proofs.Inside.{member, tree_is}
use Rattle.smp_twostage.proofs.whole.WholeSplitting.bound.Goals as goal

pub bound-requires-clause-state : goal.bound-requires-clause-state
bound-requires-clause-state c = member c.args.self.now (record { plan = c.self.inside.plan.now; only = c.self.inside.only }) c.self.view_is c.self.inside.stages.stages.items c.self.invariant.0 c.args.state.now c.requires.state.member

pub returns : goal.returns
returns c = subst (λ (t : Tree (Progress AnyState)). c.bound.result ≡ weight_sum (t.parts c.args.state.now)) (tree_is c.args.self.now (record { plan = c.self.inside.plan.now; only = c.self.inside.only }) c.self.view_is c.self.inside.stages.stages.items c.self.invariant.0 c.self.inside.stages.seats.items c.self.invariant.1) c.bound.ensures
