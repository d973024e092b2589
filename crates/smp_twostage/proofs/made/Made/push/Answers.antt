use Rattle.smp_twostage.proofs.Started.{one_more}
use Rattle.smp_twostage.proofs.made.Made.push.Goals as goal

pub returns-clause-each : goal.returns-clause-each
returns-clause-each c =
    rw (c.in_ok-kept.ensures.items, c.in_ok-push.ensures.items)
    (one_more c.args.self.now.stages.items c.args.self.now.states.items (record { design = c.args.started.design; within = c.args.within }) c.args.started.state c.requires.each c.requires.starts)
