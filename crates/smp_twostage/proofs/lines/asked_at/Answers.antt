use Rattle.smp_twostage.proofs.SeatsTold.{asked_so}
use Rattle.smp_twostage.proofs.lines.asked_at.Goals as goal

pub returns : goal.returns
returns c = asked_so c.args.plan.now c.args.seat c.requires c.first_asked.result c.first_asked.ensures
