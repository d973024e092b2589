use Rattle.std.proofs.Common.{◌≡◌, List, ℕ, IfOk, subst}
use Rattle.smp_log.specs.SectionLogs.{steps_of}
use Rattle.smp_app.proofs.Selections.{own_log, own_rise}
use Rattle.smp_app.proofs.texts.log_text.Goals as goal

pub log_bytes-requires : goal.log_bytes-requires
log_bytes-requires c =
    let selection = c.args.selection.now in
    let is = c.requires.selection in
    own_rise c.args.plan.now c.requires.planned selection.only selection.state (steps_of selection.lines) is.drawn selection.lines is.lines_are selection.whole is.whole c.sections.result c.sections.ensures

pub returns : goal.returns
returns c =
    let selection = c.args.selection.now in
    let is = c.requires.selection in
    subst (λ (t : List ℕ). IfOk c.log_bytes.result (λ text. text ≡ t))
    (own_log c.args.plan.now c.requires.planned selection.only selection.state (steps_of selection.lines) is.drawn selection.lines is.lines_are selection.whole is.whole c.sections.result c.sections.ensures)
    c.log_bytes.ensures
