use Rattle.std.proofs.{Common.{◌<◌, ◌++◌, ◌∷◌, [], List, map, take, length, get_or, arith, sym, ap, ap₂, ◌∙◌}, lemmas.List.{take_more}}
use Rattle.smp_kernel.proofs.Lists.{map_last}
use Rattle.smp_stratcube.specs.{declared.values.Value.{Value}, Units.{nobody}, Kept.States.{requested_value}}
use Rattle.smp_stratcube.proofs.design.requested.Goals as goal

pub loop-unit-preserved : goal.loop-unit-preserved
loop-unit-preserved c =
    let members = c.args.units.now.members in
    let unit = c.loop-unit.unit in
    let inside : c.loop-unit.unit < length c.args.units.now.members = omega (arith, c.loop-unit-test.true, c.len-unit-end.ensures) in
    c.in_ok-push.ensures.items ∙ ap₂ (λ (vs : List Value) (v : Value). vs ++ v ∷ []) c.loop-unit.invariant c.requested.ensures
    ∙ sym (ap (map requested_value) (take_more members unit nobody inside) ∙ map_last requested_value (take unit members) (get_or members unit nobody))
