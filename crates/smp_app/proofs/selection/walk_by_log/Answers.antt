use Rattle.std.proofs.Common.{Result, IfOk, OnOk, sym, subst}
use Rattle.smp_log.specs.{Genuine.{IsFullPath}, SectionLogs.{ArePlaced, steps_of}}
use Rattle.smp_log.proofs.Placed.{none_placed}
use Rattle.smp_twostage.specs.Selections.{covered_tree, strata_sections}
use Rattle.smp_app.specs.{declared.selection.Stopped.{Stopped}, Kept.Stages.{EndsAsTold, IsWalked, Lines, drawn_by_taken, only_of, path_by}}
use Rattle.smp_plan.specs.Planned.{plan_view}
use Rattle.smp_app.proofs.Selections.{belongs, ends_told, has_parts, is_one, lines_so, on_both, on_more, taken_stage, taken_walked, told_holds, told_is}
use Rattle.smp_app.proofs.selection.walk_by_log.Goals as goal

pub replay_taken-told-requires-clause-belongs : goal.replay_taken-told-requires-clause-belongs
replay_taken-told-requires-clause-belongs c = belongs c.args.plan.now.plan (only_of c.args.taken) c.args.started c.requires.started

pub replay_taken-told-requires-clause-one : goal.replay_taken-told-requires-clause-one
replay_taken-told-requires-clause-one c = is_one c.args.plan.now.plan (only_of c.args.taken) c.args.started c.requires.started

pub replay_taken-told-requires-clause-room : goal.replay_taken-told-requires-clause-room
replay_taken-told-requires-clause-room c = (has_parts c.args.plan.now.plan (only_of c.args.taken) c.requires.only).1

pub returns-clause-ends : goal.returns-clause-ends
returns-clause-ends c =
    let plan = c.args.plan.now in
    let view = plan_view plan in
    let taken = c.args.taken in
    let only = only_of taken in
    let state = c.replay_taken-told.new.state in
    let tells = drawn_by_taken taken view c.args.log.now in
    subst (EndsAsTold view only tells state) (sym c.end_told.ensures)
    (ends_told view only state tells c.replay_taken-told.result c.replay_taken-told.new.lines _ _
    (taken_stage plan c.requires.planned c.args.started taken c.requires.started c.args.log.now) c.replay_taken-told.ensures.reading
    (rw c.new-lines.ensures at c.replay_taken-told.ensures.told))

pub returns-clause-walked : goal.returns-clause-walked
returns-clause-walked c =
    let plan = c.args.plan.now in
    let view = plan_view plan in
    let taken = c.args.taken in
    let own = c.args.started.whole in
    let from = c.args.started.state in
    let state = c.replay_taken-told.new.state in
    let lines = c.replay_taken-told.new.lines in
    let path = path_by taken own from c.args.log.now in
    let Walks : Lines → Type 0 = λ lines. IsWalked view own lines (record { plan = view; only = only_of taken; leaf = state; path = steps_of lines }) in
    let Placed : Type 0 = ArePlaced (covered_tree own) (strata_sections own) from state lines in
    let so : OnOk c.replay_taken-told.result Placed = on_more c.replay_taken-told.result _ Placed (λ kept. kept from (none_placed (covered_tree own) (strata_sections own) from c.new-lines.result c.new-lines.ensures)) c.replay_taken-told.ensures.kept in
    rw c.only.ensures
    (subst (λ (end : Result Lines Stopped). IfOk end Walks) (sym c.end_told.ensures)
    (told_holds c.replay_taken-told.result lines Walks
    (on_both c.replay_taken-told.result (IsFullPath (covered_tree own) from path state × Placed) _ (Walks lines)
    (λ both same. taken_walked plan c.requires.planned taken c.requires.only c.args.started c.requires.started state c.replay_taken-told.ensures.belongs path lines both.0 (told_is same)
    (lines_so plan c.requires.planned (only_of taken) c.args.started c.requires.started state path lines both.1 (told_is same)))
    (on_both c.replay_taken-told.result (IsFullPath (covered_tree own) from path state) Placed (IsFullPath (covered_tree own) from path state × Placed) (λ full so. (full, so)) c.replay_taken-told.ensures.full so)
    (rw c.new-lines.ensures at c.replay_taken-told.ensures.told))))
