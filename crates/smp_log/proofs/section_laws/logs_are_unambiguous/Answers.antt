use Rattle.smp_log.proofs.TwoVersions.{one_pathed, exact_any}
use Rattle.smp_log.proofs.section_laws.logs_are_unambiguous.Goals as goal

pub returns-clause-path : goal.returns-clause-path
returns-clause-path g c =
    let run = c.args.run.now in
    one_pathed (g.S.Splitting.method run).tree (g.S.Splitting.method run).belongs (g.S.Splitting.method run).lawful (g.S.Sections.sectioning run) (g.met.S.Sections.sectioned run) c.args.state.now c.requires c.args.head.now c.as_slice.ensures.lines c.args.log.now

pub returns-clause-reading : goal.returns-clause-reading
returns-clause-reading g c =
    let run = c.args.run.now in
    exact_any (g.S.Splitting.method run).tree (g.S.Splitting.method run).belongs (g.S.Splitting.method run).lawful (g.S.Sections.sectioning run) (g.met.S.Sections.sectioned run) c.args.state.now c.requires c.args.head.now c.as_slice.ensures.lines c.args.log.now
