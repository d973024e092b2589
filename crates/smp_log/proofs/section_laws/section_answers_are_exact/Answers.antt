use Rattle.smp_log.proofs.LoneExact.{exact_section}
use Rattle.smp_log.proofs.section_laws.section_answers_are_exact.Goals as goal

pub returns : goal.returns
returns g c =
    let run = c.args.run.now in
    exact_section (g.S.Splitting.method run).tree (g.S.Splitting.method run).belongs (g.S.Splitting.method run).lawful c.args.state.now c.requires c.args.head.now c.as_slice.ensures.lines c.args.number c.args.log.now
