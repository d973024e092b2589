use Rattle.std.proofs.Common.{◌≡◌, ◌++◌, codes, option_map, ℕ, List, ◌<◌, ◌≤◌, length, get_or, ap, arith, sym, ◌∙◌, ◌∷◌, []}
use Rattle.std.specs.List.{flat_map, range_with_len}
use Rattle.std.proofs.lemmas.List.FromFn.{get_or-range_with_len, length-range_with_len}
use Rattle.smp_frac.specs.Exact.{fraction, fraction_text}
use Rattle.smp_frame.specs.declared.frame.Unit as unit
use Rattle.smp_weights.specs.Rows.{row}
use Rattle.smp_plan.specs.{Planned.{plan_view}, Plans.{row_id}}
use Rattle.smp_app.specs.Texts.{probability_row}
use Rattle.smp_joint.proofs.RowTexts.{next_row}
use Rattle.smp_app.proofs.Written.{rows_written, id_is, probability_text}
use Rattle.smp_app.proofs.texts.probabilities_text.Goals as goal

pub loop-row-preserved : goal.loop-row-preserved
loop-row-preserved c =
    let plan = c.args.plan.now in
    let view = plan_view plan in
    let r = c.loop-row.row in
    let within : r < length plan.frame = rw c.units-units.ensures at c.loop-row-test.true in
    let id = id_is view r c.index-units-row.result within (rw c.units-units.ensures at c.index-units-row.is) in
    let here : get_or (range_with_len 0 (length plan.frame)) r 0 ≡ r = omega (arith, get_or-range_with_len 0 (length plan.frame) r 0 within) in
    next_row (probability_row view) (range_with_len 0 (length plan.frame)) r 0 c.loop-row.rows _ _ _
    (omega (arith, within, length-range_with_len 0 (length plan.frame)))
    c.in_ok-push_probability.ensures
    (ap (λ (u : unit.Unit). row (u.id ∷ fraction_text (fraction c.asked.result) ∷ [])) (sym c.index-units-row.is)
    ∙ ap (λ (n : List ℕ). row (n ∷ fraction_text (fraction c.asked.result) ∷ [])) id
    ∙ ap (λ (t : List ℕ). row (row_id view r ∷ t ∷ [])) (probability_text plan c.requires r within c.asked.result c.asked.ensures)
    ∙ ap (probability_row view) (sym here))
    c.loop-row.invariant

pub loop-row-init : goal.loop-row-init
loop-row-init c =
    ap (option_map (λ (text : List ℕ). text ++ flat_map (probability_row (plan_view c.args.plan.now)) (range_with_len 0 (length c.args.plan.now.frame))))
    (c.in_ok-push.ensures.ok.added ∙ ap (option_map (λ (before : List ℕ). before ++ row (codes "id" ∷ codes "probability" ∷ []))) c.new-rows.ensures)

pub returns : goal.returns
returns c =
    let count = length c.args.plan.now.frame in
    let ended : count ≤ c.loop-row.row = rw c.units-units.ensures at c.loop-row-test.false in
    rows_written (probability_row (plan_view c.args.plan.now)) (range_with_len 0 count) c.loop-row.row c.loop-row.rows _ c.into_bytes.result
    (omega (arith, ended, length-range_with_len 0 count)) c.loop-row.invariant c.into_bytes.ensures
