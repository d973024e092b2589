use Rattle.std.proofs.Common.{◌≡◌, suc, [], ◌∷◌, ◌++◌, Some, length, map, arith, rules, sym, ap, ◌∙◌}
use Rattle.std.specs.{List.{range_with_len, slice_get}, Vec.{vec_len}}
use Rattle.smp_twostage.specs.Selections.{first_number}
use Rattle.smp_twostage.proofs.{Columns.{stratum_at}, Built.{last_number, next_below, next_number}}
use Rattle.smp_twostage.proofs.made.Made.push_strata.Goals as goal

pub loop-number-preserved : goal.loop-number-preserved
loop-number-preserved c =
    let there : slice_get c.args.plan.now.strata c.loop-number.number ≡ Some c.stratum.result.now = stratum_at c.args.plan.now.strata c.loop-number.number _ (omega (arith, c.loop-number-test.true, c.strata-number-end.ensures)) c.stratum.ensures.value in
    let len : length c.loop-number.self.stages.items ≡ vec_len c.loop-number.self.stages = search rules in
    record {
      stages = next_below c.args.plan.now c.loop-number.number c.stratum.result.now c.loop-number.self.stages.items _ there c.loop-number.invariant.stages c.in_ok-push_stratum.ensures.stages;
      each = c.in_ok-push_stratum.ensures.each;
      firsts = next_number c.args.plan.now c.loop-number.number c.loop-number.firsts.items c.push.new.self.items c.loop-number.self.stages.items c.loop-number.invariant.firsts c.loop-number.invariant.stages
          (c.in_ok-push.ensures.items ∙ ap (λ n. c.loop-number.firsts.items ++ n ∷ []) (c.len.ensures ∙ sym len));
    }

pub returns-clause-firsts : goal.returns-clause-firsts
returns-clause-firsts c =
    let plan = c.args.plan.now in
    let all : c.loop-number.number ≡ length plan.strata = omega (arith, c.loop-number-test.false, c.strata-number-end.ensures) in
    let len : length c.loop-number.self.stages.items ≡ vec_len c.loop-number.self.stages = search rules in
    last_number plan c.loop-number.number c.loop-number.firsts.items c.push-2.new.self.items c.loop-number.self.stages.items c.loop-number.invariant.firsts c.loop-number.invariant.stages
    (c.in_ok-push-2.ensures.items ∙ ap (λ n. c.loop-number.firsts.items ++ n ∷ []) (c.len-2.ensures ∙ sym len))
    ∙ ap (λ n. map (first_number plan) (range_with_len 0 (suc n))) all
