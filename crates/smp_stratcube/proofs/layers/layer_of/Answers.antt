use Rattle.std.proofs.Common.{◌≡◌, List, ℤ, [], ◌∷◌, ◌++◌, length, get_or, arith, sym, ap, ◌∙◌, subst, length-append}
use Rattle.std.proofs.lemmas.List.{get_or_read}
use Rattle.smp_prob.specs.declared.requests.Request.{Request}
use Rattle.smp_stratcube.specs.Kept.Layers.{IsFilledUp, IsStored, stored}
use Rattle.smp_stratcube.proofs.Stored.{is_stored, more_each, stored_view}
use Rattle.smp_stratcube.proofs.layers.layer_of.Goals as goal

pub filled_up-requires : goal.filled_up-requires
filled_up-requires c =
    let xs = c.args.xs.now in
    let unit = c.loop-unit.unit in
    let at : c.as_slice.result.now ≡ get_or xs unit [] = c.as_slice.ensures ∙ get_or_read xs unit c.index-xs-unit.result c.loop-unit-test.true c.index-xs-unit.is [] in
    omega (arith, ap length at, c.requires.values.same unit c.loop-unit-test.true, c.requires.values.few)

pub loop-unit-preserved : goal.loop-unit-preserved
loop-unit-preserved c =
    let xs = c.args.xs.now in
    let unit = c.loop-unit.unit in
    let i = c.loop-unit.invariant in
    let places = c.loop-unit.values.items in
    let at : c.as_slice.result.now ≡ get_or xs unit [] = c.as_slice.ensures ∙ get_or_read xs unit c.index-xs-unit.result c.loop-unit-test.true c.index-xs-unit.is [] in
    let here : IsFilledUp (get_or xs unit []) c.filled_up.result = subst (λ (ys : List ℤ). IsFilledUp ys c.filled_up.result) at c.filled_up.ensures in
    let items : c.push.new.self.items ≡ places ++ c.filled_up.result ∷ [] = c.in_ok-push.ensures.items in
    rw items (record {
      count = omega (arith, length-append places (c.filled_up.result ∷ []), i.count);
      each = λ k l. more_each (λ k ys. IsFilledUp (get_or xs k []) ys) places [] c.filled_up.result unit i.count i.each here k l;
    })

pub invariant_of-result : goal.invariant_of-result
invariant_of-result c =
    let i = c.loop-unit.invariant in
    subst (λ (request : Request). IsStored request c.in_ok-from_slice.field-0.items c.args.request.now.r c.args.request.now.total c.loop-unit.values.items c.variables_of.result c.common_denominator.result) (sym c.of.ensures)
    (is_stored c.args.request.now c.requires.request c.args.xs.now c.requires.one_each c.requires.values c.loop-unit.values.items (omega (arith, i.count, c.loop-unit.auto.unit-end, c.loop-unit-test.false))
    (λ k l. i.each k (omega (arith, l, c.loop-unit-test.false))) c.variables_of.result c.variables_of.ensures c.in_ok-from_slice.field-0.items c.common_denominator.result (c.in_ok-from_slice.ensures.items ∙ c.as_slice-2.ensures) c.common_denominator.ensures.value)

pub returns : goal.returns
returns c =
    let i = c.loop-unit.invariant in
    ap (λ (request : Request). stored request c.loop-unit.values.items c.variables_of.result) c.of.ensures
    ∙ stored_view c.args.request.now c.requires.request c.args.xs.now c.requires.one_each c.requires.values c.loop-unit.values.items (omega (arith, i.count, c.loop-unit.auto.unit-end, c.loop-unit-test.false))
    (λ k l. i.each k (omega (arith, l, c.loop-unit-test.false))) c.variables_of.result c.variables_of.ensures
