use Rattle.std.proofs.Common.{Err, sym, ap, ◌∙◌}
use Rattle.smp_log.specs.SectionLogs.{steps_of}
use Rattle.smp_twostage.specs.Selections.{covered_tree, strata_sections}
use Rattle.smp_app.proofs.Selections.{own_path, own_strata, own_text, never_differs}
use Rattle.smp_app.proofs.texts.replay_own_log.Goals as goal

pub started_for-requires-clause-only : goal.started_for-requires-clause-only
started_for-requires-clause-only c =
    let selection = c.args.selection.now in
    own_strata c.args.plan.now c.requires.planned selection.only selection.state (steps_of selection.lines) c.requires.selection.drawn

pub unreachable-requires : goal.unreachable-requires
unreachable-requires c =
    let plan = c.args.plan.now in
    let selection = c.args.selection.now in
    let own = c.in_ok-whole.field-0.whole in
    let start = c.in_ok-whole.field-0.state in
    let full = own_path plan c.requires.planned selection.only selection.state (steps_of selection.lines) c.requires.selection.drawn own c.in_ok-whole.ensures.whole start c.in_ok-whole.ensures.state in
    let text = own_text plan c.requires.planned selection.only selection.state (steps_of selection.lines) c.requires.selection.drawn own c.in_ok-whole.ensures.whole start c.in_ok-whole.ensures.state in
    never_differs (covered_tree own) (strata_sections own) start plan.head (steps_of selection.lines) selection.state full c.as_slice.result.now (c.as_slice.ensures ∙ c.in_ok-log.ensures ∙ sym text) c.in-Err.field-0
    (λ line is. c.in-Err.ensures.differs line (ap Err is))
