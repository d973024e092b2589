use Rattle.std.proofs.Common.{◌≡◌, ◌+◌, ◌++◌, ◌<◌, ◌≤◌, ℤ, List, length, map, drop, arith, ap, ◌∙◌}
use Rattle.smp_stratcube.specs.{Layers.{Layer}, Kept.Layers.{layer_of}}
use Rattle.smp_twostage.specs.{Selections.{balancing, layers_of}, Strata.{free_values}}
use Rattle.smp_twostage.proofs.{Layers.{are_read, some_balance}, Together.{layer_in}, ToldLines.{last_mapped, next_mapped}}
use Rattle.smp_twostage.proofs.made.layers_of.Goals as goal

pub loop-number-init : goal.loop-number-init
loop-number-init c = ap (λ xs. xs ++ layers_of c.args.plan.now) c.new-layers.ensures

pub free_lists-requires : goal.free_lists-requires
free_lists-requires c = c.stratum-stratum.ensures.sound.over

pub push-requires-clause-request : goal.push-requires-clause-request
push-requires-clause-request c = c.stratum-stratum.ensures.sound.over.sound

pub push-requires-clause-one_each : goal.push-requires-clause-one_each
push-requires-clause-one_each c =
    let plan = c.args.plan.now in
    let some : 1 ≤ c.procedure.result.balance = rw c.procedure.ensures (some_balance plan c.requires.plan c.requires.together) in
    (are_read plan c.requires.plan c.requires.together c.loop-number.number c.stratum-stratum.result.now (omega (arith, c.loop-number-test.true, c.strata-number-end.ensures)) c.stratum-stratum.ensures.value c.as_slice.result.now (c.as_slice.ensures.value ∙ c.in_ok-values.ensures some)).one_each

pub push-requires-clause-values : goal.push-requires-clause-values
push-requires-clause-values c =
    let plan = c.args.plan.now in
    let some : 1 ≤ c.procedure.result.balance = rw c.procedure.ensures (some_balance plan c.requires.plan c.requires.together) in
    (are_read plan c.requires.plan c.requires.together c.loop-number.number c.stratum-stratum.result.now (omega (arith, c.loop-number-test.true, c.strata-number-end.ensures)) c.stratum-stratum.ensures.value c.as_slice.result.now (c.as_slice.ensures.value ∙ c.in_ok-values.ensures some)).numbers

pub loop-number-preserved : goal.loop-number-preserved
loop-number-preserved c =
    let plan = c.args.plan.now in
    let h = c.loop-number.number in
    let s = c.stratum-stratum.result.now in
    let some : 1 ≤ c.procedure.result.balance = rw c.procedure.ensures (some_balance plan c.requires.plan c.requires.together) in
    let within : h < length plan.strata = omega (arith, c.loop-number-test.true, c.strata-number-end.ensures) in
    let own : c.as_slice.result.now ≡ free_values (balancing s) = c.as_slice.ensures.value ∙ c.in_ok-values.ensures some in
    ap (λ (xs : List Layer). xs ++ map layer_in (drop (h + 1) plan.strata)) c.in_ok-push.ensures.appended
    ∙ next_mapped layer_in plan.strata s h c.loop-number.layers (layer_of s.request c.as_slice.result.now) (layers_of plan) within
    (ap (λ (vs : List (List ℤ)). layer_of s.request vs) own ∙ ap layer_in c.stratum-stratum.ensures.value) c.loop-number.invariant

pub returns : goal.returns
returns c =
    let plan = c.args.plan.now in
    last_mapped layer_in plan.strata c.loop-number.number c.loop-number.layers (layers_of plan) (omega (arith, c.loop-number-test.false, c.strata-number-end.ensures)) c.loop-number.invariant
