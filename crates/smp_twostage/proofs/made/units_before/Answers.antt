use Rattle.std.proofs.Common.{◌≡◌, Some, arith, sym}
use Rattle.std.specs.List.{slice_get}
use Rattle.smp_twostage.proofs.{Columns.{stratum_at}, Layers.{few_before, next_before}, OverAll.{none_before}}
use Rattle.smp_twostage.proofs.made.units_before.Goals as goal

pub loop-number-init : goal.loop-number-init
loop-number-init c = sym (none_before c.args.plan.now.strata)

pub overflow_add-before : goal.overflow_add-before
overflow_add-before c =
    let most = few_before c.args.plan.now c.requires.plan c.requires.few c.loop-number.number (omega (arith, c.loop-number-test.true, c.requires.stratum)) in
    omega (arith, most, c.loop-number.invariant, c.stratum.ensures.sound.few, c.as_slice.ensures)

pub loop-number-preserved : goal.loop-number-preserved
loop-number-preserved c =
    let plan = c.args.plan.now in
    let there : slice_get plan.strata c.loop-number.number ≡ Some c.stratum.result.now = stratum_at plan.strata c.loop-number.number _ (omega (arith, c.loop-number-test.true, c.requires.stratum)) c.stratum.ensures.value in
    next_before plan.strata c.loop-number.number c.stratum.result.now there c.loop-number.before c.as_slice.result.now c.as_slice.ensures c.loop-number.invariant
