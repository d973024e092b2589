use Rattle.smp_pivotal.proofs.SystematicSteps.{draws_in_frame}
use Rattle.smp_pivotal.proofs.draws.draws_in_frame_order.Goals as goal

pub returns : goal.returns
returns c = rw c.requires.start (draws_in_frame c.args.design.now (rw c.requires.start at c.requires.belongs) c.requires.frame)
