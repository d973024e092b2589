use Rattle.std.proofs.{Common.{◌≡◌, ◌≤◌, length, map, ap, arith, rules, sym, ◌∙◌}, lemmas.List.{get_or-map, length-map}}
use Rattle.smp_frac.specs.Exact.{fraction}
use Rattle.smp_frame.specs.declared.frame.Unit as unit
use Rattle.smp_strata.specs.Plans.{Plan}
use Rattle.smp_weights.specs.Sample.{sample_row, sample_row_of}
use Rattle.smp_plan.specs.Planned.{plan_view}
use Rattle.smp_app.specs.Texts.{weighted_row}
use Rattle.smp_joint.proofs.RowTexts.{next_row}
use Rattle.smp_app.proofs.Written.{rows_written, id_is, weighted, drawn_below, drawn_asked}
use Rattle.smp_app.proofs.texts.sample_text.Goals as goal

pub bounds-units-row : goal.bounds-units-row
bounds-units-row c =
    rw (c.as_slice-row-items.ensures.value, c.units-units.ensures)
    (drawn_below c.args.plan.now c.args.selection.now c.requires.selection c.loop-row.row-index (rw c.as_slice-row-items.ensures.value at c.loop-row-test.true))

pub offset_bounds-units-row : goal.offset_bounds-units-row
offset_bounds-units-row c = let bound = bounds-units-row c in search (rules, bound)

pub asked-requires : goal.asked-requires
asked-requires c =
    let items = rw c.as_slice-row-items.ensures.value at c.loop-row-test.true in
    let within = drawn_below c.args.plan.now c.args.selection.now c.requires.selection c.loop-row.row-index items in
    let rows : c.args.plan.now.plan.rows ≡ length c.args.plan.now.frame = ap (λ (p : Plan). p.rows) c.requires.planned.parts_are in
    rw c.as_slice-row-items.ensures.value (omega (arith, within, rows))

pub push_sample_row-requires : goal.push_sample_row-requires
push_sample_row-requires c =
    let items = rw c.as_slice-row-items.ensures.value at c.loop-row-test.true in
    drawn_asked c.args.plan.now c.args.selection.now c.requires.selection c.loop-row.row-index items c.requires.planned c.asked.result
    (rw c.as_slice-row-items.ensures.value at c.asked.ensures)

pub loop-row-preserved : goal.loop-row-preserved
loop-row-preserved c =
    let plan = c.args.plan.now in
    let view = plan_view plan in
    let rows = c.args.selection.now.rows.items in
    let place = c.loop-row.row-index in
    let items = rw c.as_slice-row-items.ensures.value at c.loop-row-test.true in
    let within = drawn_below plan c.args.selection.now c.requires.selection place items in
    let asked = rw c.as_slice-row-items.ensures.value at c.asked.ensures in
    let some = drawn_asked plan c.args.selection.now c.requires.selection place items c.requires.planned c.asked.result asked in
    let id = id_is view _ c.index-units-row.result within (rw (c.units-units.ensures, c.as_slice-row-items.ensures.value) at c.index-units-row.is) in
    next_row sample_row_of (map (weighted_row view) rows) place (weighted_row view 0) c.loop-row.rows _ _ _
    (omega (arith, items, length-map rows (weighted_row view)))
    c.in_ok-push_sample_row.ensures.ok
    (ap (λ (u : unit.Unit). sample_row u.id (fraction c.asked.result)) (sym c.index-units-row.is)
    ∙ weighted plan c.requires.planned _ within c.asked.result asked c.index-units-row.result.id id some
    ∙ ap sample_row_of (sym (get_or-map (weighted_row view) rows place 0 (weighted_row view 0) items)))
    c.loop-row.invariant

pub returns : goal.returns
returns c =
    let rows = c.args.selection.now.rows.items in
    let ended : length rows ≤ c.loop-row.row-index = rw c.as_slice-row-items.ensures.value at c.loop-row-test.false in
    rows_written sample_row_of (map (weighted_row (plan_view c.args.plan.now)) rows) c.loop-row.row-index c.loop-row.rows _ c.into_bytes.result
    (omega (arith, ended, length-map rows (weighted_row (plan_view c.args.plan.now)))) c.loop-row.invariant c.into_bytes.ensures
