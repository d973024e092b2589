use Rattle.std.proofs.Common.{false, arith}
use Rattle.smp_weights.specs.Totals.{zero}
use Rattle.smp_weights.proofs.{Written.{row_added}, Chosen.{chosen_units-taken, chosen_units-skipped}}
use Rattle.smp_weights.proofs.sample.sample_bytes.Goals.{then-chosen-place+in_ok-push_sample_row, else-chosen-place}
use Rattle.smp_weights.proofs.sample.sample_bytes.Goals as goal

pub loop-place-preserved : goal.loop-place-preserved
loop-place-preserved c =
    elim c.if-chosen-place.branch [
      | then-chosen-place+in_ok-push_sample_row w ↦
          (let step = chosen_units-taken c.args.ids.now c.args.asked.now c.args.chosen.now c.loop-place.place c.index-ids-place.result w.index-asked-place.result false c.loop-place-test.true (omega arith) (omega arith) w.if-chosen-place.true in
          rw w.rows-is (row_added c.loop-place.rows _ _ _ _ w.in_ok-push_sample_row.ensures.ok (rw (step, ← w.index-asked-place.is, ← c.index-ids-place.is) at c.loop-place.invariant)))
      | else-chosen-place w ↦
          (let step = chosen_units-skipped c.args.ids.now c.args.asked.now c.args.chosen.now c.loop-place.place c.index-ids-place.result zero false c.loop-place-test.true (omega arith) (omega arith) w.if-chosen-place.false in
          rw w.rows-is (rw step at c.loop-place.invariant))
    ]
