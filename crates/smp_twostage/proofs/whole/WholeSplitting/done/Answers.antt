use Rattle.smp_twostage.proofs.Inside.{member}
use Rattle.smp_twostage.proofs.whole.WholeSplitting.done.Goals as goal

pub done-requires : goal.done-requires
done-requires c = member c.args.self.now (record { plan = c.self.inside.plan.now; only = c.self.inside.only }) c.self.view_is c.self.inside.stages.stages.items c.self.invariant.0 c.args.state.now c.requires.member
