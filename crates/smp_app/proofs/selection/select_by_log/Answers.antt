use Rattle.std.proofs.Common.{rules}
use Rattle.smp_app.specs.Kept.Stages.{DiffersTaken, drawn_by_taken, only_of, selection_view}
use Rattle.smp_plan.specs.{Planned.{plan_view}, Reads.{Follows, result_view}}
use Rattle.smp_app.proofs.{Refusals.{if_line, taken_differs}, Selections.{has_parts, start_belongs}}
use Rattle.smp_app.proofs.selection.select_by_log.Goals as goal

pub started_for-requires-clause-only : goal.started_for-requires-clause-only
started_for-requires-clause-only c = rw c.only.ensures (has_parts c.args.plan.now.plan (only_of c.args.taken) c.requires.only).0

pub returns-clause-differs : goal.returns-clause-differs
returns-clause-differs c =
    let plan = c.args.plan.now in
    let view = plan_view plan in
    let taken = c.args.taken in
    let stage = drawn_by_taken taken view c.args.log.now in
    let started = c.in_ok-started in
    let follows : Follows (result_view (selection_view view) c.selection_at.result) stage = search rules in
    let member = start_belongs plan c.requires.planned (only_of taken) started.started (rw c.only.ensures at started.ensures) in
    if_line (selection_view view) c.selection_at.result stage (DiffersTaken taken view c.args.log.now) follows
    (λ line e. taken_differs view c.as_slice-lines.ensures.lines c.args.log.now line taken member e)
