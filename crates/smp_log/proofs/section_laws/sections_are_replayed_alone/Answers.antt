use Rattle.std.proofs.Common.{◌≡◌, ◌<◌, ◌^◌, length, ap, subst, arith}
use Rattle.smp_log.specs.SectionLogs.{placed, sections_text}
use Rattle.smp_log.proofs.{PartSections.{replayed_alone}, SectionCounts.{sections_within}}
use Rattle.smp_log.proofs.section_laws.sections_are_replayed_alone.Goals as goal

pub returns : goal.returns
returns g c h at own within is start leaf genuine =
    let run = c.args.run.now in
    let part = c.args.part.now in
    let method = g.S.Splitting.method run in
    let sections = g.S.Sections.sectioning run in
    let sectioned = g.met.S.Sections.sectioned run in
    let from = c.args.state.now in
    let head = c.args.head.now in
    let is_head = c.as_slice.ensures.lines in
    let long : length c.args.log.now < 2 ^ 64 = omega arith in
    let many = sections_within method.tree method.belongs method.lawful sections sectioned from c.requires.whole head is_head genuine.path leaf genuine.full in
    let size : length c.args.log.now ≡ length (sections_text head sections.count (placed method.tree sections from genuine.path)) = ap length genuine.text in
    let few : sections.count < 2 ^ 64 = omega (arith, many, size, long) in
    replayed_alone method.tree method.belongs method.lawful sections sectioned h within
    (g.P.Splitting.method part).tree at own is (g.P.Splitting.method part).belongs (g.P.Splitting.method part).lawful from c.requires.whole (subst (g.P.Splitting.method part).belongs start c.requires.part) head is_head c.args.log.now leaf genuine few long
