use Rattle.std.proofs.Common.{◌≡◌, ◌++◌, Some, arith, sym, ap}
use Rattle.std.specs.List.{slice_get}
use Rattle.smp_prob.specs.declared.requests.Request.{Request}
use Rattle.smp_twostage.specs.Selections.{numbers_from}
use Rattle.smp_twostage.proofs.{Columns.{stratum_at}, Layers.{few_before, next_before, next_numbers, numbers_fit}, OverAll.{none_before}}
use Rattle.smp_twostage.proofs.made.request_over.Goals as goal

pub loop-number-init : goal.loop-number-init
loop-number-init c = record {
  before = sym (none_before c.args.plan.now.strata);
  certain = ap (λ xs. xs ++ numbers_from (λ (r : Request). r.certain) 0 c.args.plan.now.strata) c.new-certain.ensures.items;
  free = ap (λ xs. xs ++ numbers_from (λ (r : Request). r.free) 0 c.args.plan.now.strata) c.new-free.ensures.items;
}

pub push_behind-requires : goal.push_behind-requires
push_behind-requires c = numbers_fit c.args.plan.now c.requires.plan c.requires.few c.loop-number.number c.loop-number.before c.stratum-stratum.result.now (omega (arith, c.loop-number-test.true, c.strata-number-end.ensures)) c.loop-number.invariant.before c.stratum-stratum.ensures.sound _ _ c.as_slice.ensures c.stratum-stratum.ensures.sound.over.certain

pub push_behind-requires-in-loop-number : goal.push_behind-requires-in-loop-number
push_behind-requires-in-loop-number c = numbers_fit c.args.plan.now c.requires.plan c.requires.few c.loop-number.number c.loop-number.before c.stratum-stratum.result.now (omega (arith, c.loop-number-test.true, c.strata-number-end.ensures)) c.loop-number.invariant.before c.stratum-stratum.ensures.sound _ _ c.as_slice-in-loop-number.ensures c.stratum-stratum.ensures.sound.over.free

pub overflow_add-before : goal.overflow_add-before
overflow_add-before c =
    let most = few_before c.args.plan.now c.requires.plan c.requires.few c.loop-number.number (omega (arith, c.loop-number-test.true, c.strata-number-end.ensures)) in
    omega (arith, most, c.loop-number.invariant.before, c.stratum-stratum.ensures.sound.few, c.as_slice-in-loop-number-2.ensures)

pub loop-number-preserved : goal.loop-number-preserved
loop-number-preserved c =
    let plan = c.args.plan.now in
    let s = c.stratum-stratum.result.now in
    let there : slice_get plan.strata c.loop-number.number ≡ Some s = stratum_at plan.strata c.loop-number.number s (omega (arith, c.loop-number-test.true, c.strata-number-end.ensures)) c.stratum-stratum.ensures.value in
    record {
      before = next_before plan.strata c.loop-number.number s there c.loop-number.before c.as_slice-in-loop-number-2.result.now c.as_slice-in-loop-number-2.ensures c.loop-number.invariant.before;
      certain = next_numbers plan.strata c.loop-number.number s there c.loop-number.before c.as_slice-in-loop-number-2.result.now c.as_slice-in-loop-number-2.ensures
          (λ (r : Request). r.certain) c.loop-number.certain.items c.push_behind.new.numbers.items c.as_slice.result.now _ c.in_ok-push_behind.ensures c.as_slice.ensures c.loop-number.invariant.certain;
      free = next_numbers plan.strata c.loop-number.number s there c.loop-number.before c.as_slice-in-loop-number-2.result.now c.as_slice-in-loop-number-2.ensures
          (λ (r : Request). r.free) c.loop-number.free.items c.push_behind-in-loop-number.new.numbers.items c.as_slice-in-loop-number.result.now _ c.in_ok-push_behind-2.ensures c.as_slice-in-loop-number.ensures c.loop-number.invariant.free;
    }
