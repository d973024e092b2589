use Rattle.std.proofs.{Common.{◌<◌, true, false, length, arith, sym, ◌∙◌}, lemmas.Bool.{eq-eqb, ne_eqb}}
use Rattle.smp_twostage.specs.Selections.{is_of_section}
use Rattle.smp_plan.specs.{Plans.{survey_plan}, Planned.{plan_view}}
use Rattle.smp_app.proofs.Written.{count_from, stands_in_all, stands_in_its}
use Rattle.smp_app.proofs.texts.rows_in.Goals.{then-draws_together, then-draws_together-via-then-draws_together, then-draws_together-via-else-draws_together+then-seat-stratum, else-draws_together+else-seat-stratum}
use Rattle.smp_app.proofs.texts.rows_in.Goals as goal

pub loop-row-preserved : goal.loop-row-preserved
loop-row-preserved c =
    let plan = c.args.plan.now in
    let p = is_of_section (survey_plan (plan_view plan)) c.args.stratum in
    let n = length c.units-units.result.now in
    let row = c.loop-row.row in
    let here : row < n = c.loop-row-test.true in
    let within : row < length plan.frame = rw c.units-units.ensures at here in
    let before = c.loop-row.invariant in
    elim c.if-draws_together.branch [
      | then-draws_together w ↦
          elim w.then-draws_together.branch [
            | then-draws_together-via-then-draws_together x ↦
                (let together = sym (rw c.procedure.ensures at c.draws_together.ensures) ∙ x.if-draws_together.true in
                let one = count_from p n row here true (stands_in_all plan c.requires c.args.stratum row together) in
                record { small = omega (arith, w.rows-is, before.small); counted = omega (arith, one, w.rows-is, before.counted) })
            | then-draws_together-via-else-draws_together+then-seat-stratum x ↦
                (let apart = sym (rw c.procedure.ensures at c.draws_together.ensures) ∙ x.if-draws_together.false in
                let its = stands_in_its plan c.requires c.args.stratum row apart within x.seat.result x.seat.ensures.once in
                let one = count_from p n row here true (its ∙ eq-eqb x.seat.result.stratum c.args.stratum x.if-seat-stratum.true) in
                record { small = omega (arith, w.rows-is, before.small); counted = omega (arith, one, w.rows-is, before.counted) })
          ]
      | else-draws_together+else-seat-stratum w ↦
          (let apart = sym (rw c.procedure.ensures at c.draws_together.ensures) ∙ w.if-draws_together.false in
          let its = stands_in_its plan c.requires c.args.stratum row apart within w.seat.result w.seat.ensures.once in
          let none = count_from p n row here false (its ∙ ne_eqb w.seat.result.stratum c.args.stratum w.if-seat-stratum.false) in
          record { small = omega (arith, w.rows-is, before.small); counted = omega (arith, none, w.rows-is, before.counted) })
    ]
