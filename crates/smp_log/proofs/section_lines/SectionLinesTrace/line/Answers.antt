use Rattle.std.proofs.Common.{[], ◌∷◌, ◌++◌, Result, Ok, Err, OnOk, ap, ◌∙◌}
use Rattle.smp_split.specs.Paths.{Entry}
use Rattle.smp_log.proofs.Placed.{placed_step}
use Rattle.smp_log.proofs.section_lines.SectionLinesTrace.line.Goals as goal

on_ok : {A E : Type 0} (result : Result A E) (P Q : Type 0) → (P → Q) → OnOk result P → OnOk result Q
on_ok (Ok x) P Q f p = f p
on_ok (Err e) P Q f p = tt

pub returns-clause-kept : goal.returns-clause-kept
returns-clause-kept g c =
    let tree = (g.S.Splitting.method c.args.design.now).tree in
    let sections = g.S.Sections.sectioning c.args.design.now in
    let entry : Entry = (c.args.kind, c.args.bound, c.args.value) in
    let old = c.args.self.now in
    on_ok c.push.result _ _ (λ is step from so. placed_step tree sections from c.args.state.now entry old c.push.new.self (is ∙ ap (λ h. old ++ (h, entry) ∷ []) c.section.ensures) step so) c.push.ensures.ok
