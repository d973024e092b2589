use Rattle.smp_log.proofs.{Answered.{exact_reading}, Telling.{unambiguous}}
use Rattle.smp_log.proofs.laws.old_logs_are_unambiguous.Goals as goal

pub returns-clause-path : goal.returns-clause-path
returns-clause-path g c =
    let run = c.args.run.now in
    unambiguous (g.S.Splitting.method run).tree (g.S.Splitting.method run).belongs (g.S.Splitting.method run).lawful c.args.state.now c.requires c.args.head.now c.args.log.now c.as_slice.ensures.lines

pub returns-clause-reading : goal.returns-clause-reading
returns-clause-reading g c =
    let run = c.args.run.now in
    exact_reading (g.S.Splitting.method run).tree (g.S.Splitting.method run).belongs (g.S.Splitting.method run).lawful c.args.state.now c.requires c.args.head.now c.as_slice.ensures.lines c.args.log.now
