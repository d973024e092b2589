use Rattle.std.proofs.Common.{ℕ, List, ap, rules, sym, ◌∙◌, ◌∷◌, []}
use Rattle.smp_frame.specs.declared.frame.Unit as unit
use Rattle.smp_weights.specs.Rows.{row}
use Rattle.smp_plan.specs.Planned.{plan_view}
use Rattle.smp_app.specs.Texts.{id_row}
use Rattle.smp_joint.proofs.RowTexts.{next_row}
use Rattle.smp_app.proofs.Written.{id_is, drawn_below}
use Rattle.smp_app.proofs.texts.ids_text.Goals as goal

pub bounds-units-row : goal.bounds-units-row
bounds-units-row c =
    rw (c.as_slice-row-items.ensures.value, c.units-units.ensures)
    (drawn_below c.args.plan.now c.args.selection.now c.requires c.loop-row.row-index (rw c.as_slice-row-items.ensures.value at c.loop-row-test.true))

pub offset_bounds-units-row : goal.offset_bounds-units-row
offset_bounds-units-row c = let bound = bounds-units-row c in search (rules, bound)

pub loop-row-preserved : goal.loop-row-preserved
loop-row-preserved c =
    let plan = c.args.plan.now in
    let items = rw c.as_slice-row-items.ensures.value at c.loop-row-test.true in
    let within = drawn_below plan c.args.selection.now c.requires c.loop-row.row-index items in
    next_row (id_row (plan_view plan)) c.args.selection.now.rows.items c.loop-row.row-index 0 c.loop-row.rows _ _ _ items c.in_ok-push_id.ensures
    (ap (λ (u : unit.Unit). row (u.id ∷ [])) (sym c.index-units-row.is)
    ∙ ap (λ (id : List ℕ). row (id ∷ [])) (id_is (plan_view plan) _ c.index-units-row.result within (rw (c.units-units.ensures, c.as_slice-row-items.ensures.value) at c.index-units-row.is)))
    c.loop-row.invariant
