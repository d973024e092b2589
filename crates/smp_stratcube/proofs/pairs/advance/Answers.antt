use Rattle.std.proofs.Common.{arith, ◌≡◌, ◌<◌, List, Some, None, get_or, set, sym, ap, ap₂, ◌∙◌, subst}
use Rattle.smp_stratcube.specs.{declared.values.Value.{Value}, Pairs.{first_pair, paired_parts}, Values.{fractional_units}}
use Rattle.smp_split.specs.Trees.{weight_sum}
use Rattle.smp_stratcube.specs.Kept.Pairs.{AreMet, settled_at}
use Rattle.smp_stratcube.proofs.Written.{first_inside, lone_is, met_is, second_inside, unit_inside}
use Rattle.smp_stratcube.proofs.pairs.advance.Goals as goal

pub index_mut-requires : goal.index_mut-requires
index_mut-requires c =
    (let b = first_inside c.args.units.now c.args.values.now.items c.requires.pairing c.in-Some.first c.in-Some.second (sym (subst (λ vs. Some (c.in-Some.first, c.in-Some.second) ≡ first_pair c.args.units.now (fractional_units vs)) c.as_slice.ensures.value c.in-Some.ensures)) in omega (arith, b, c.args.values.now.ok.0))

pub index_mut-requires-in-Some : goal.index_mut-requires-in-Some
index_mut-requires-in-Some c =
    (let b = second_inside c.args.units.now c.args.values.now.items c.requires.pairing c.in-Some.first c.in-Some.second (sym (subst (λ vs. Some (c.in-Some.first, c.in-Some.second) ≡ first_pair c.args.units.now (fractional_units vs)) c.as_slice.ensures.value c.in-Some.ensures)) in omega (arith, b, c.args.values.now.ok.0))

pub met-requires-clause-within : goal.met-requires-clause-within
met-requires-clause-within c =
    subst (λ (vs : List Value). c.args.draw < weight_sum (paired_parts c.args.units.now vs)) (sym c.as_slice-in-Some.ensures.value) c.requires.within

pub index_mut-requires-in-None : goal.index_mut-requires-in-None
index_mut-requires-in-None c =
    (let b = unit_inside c.args.units.now c.args.values.now.items c.requires.pairing c.args.front.now c.requires.front (omega (arith, c.requires.front.short)) c.requires.going in omega (arith, b, c.args.values.now.ok.0))

pub returns-in-Some : goal.returns-in-Some
returns-in-Some c =
    (let m = subst (λ vs. AreMet c.args.units.now vs (c.in-Some.first, c.in-Some.second) c.args.draw c.met.result) c.as_slice-in-Some.ensures.value c.met.ensures in
    ap₂ (λ (x y : Value). set (set c.args.values.now.items c.in-Some.first x) c.in-Some.second y) m.first m.second ∙ met_is c.args.units.now c.args.values.now.items c.requires.pairing c.in-Some.first c.in-Some.second (sym (subst (λ vs. Some (c.in-Some.first, c.in-Some.second) ≡ first_pair c.args.units.now (fractional_units vs)) c.as_slice.ensures.value c.in-Some.ensures)) c.args.draw c.requires.within)

pub returns-in-None : goal.returns-in-None
returns-in-None c =
    ap (λ (x : Value). set c.args.values.now.items (get_or c.args.front.now.units 0 0) x) (c.settled-value.ensures ∙ ap (λ (vs : List Value). settled_at c.args.units.now vs (get_or c.args.front.now.units 0 0) c.args.draw) c.as_slice-in-None.ensures.value)
    ∙ lone_is c.args.units.now c.args.values.now.items c.requires.pairing c.args.front.now c.requires.front (omega (arith, c.requires.front.short)) c.requires.going (sym (subst (λ vs. None ≡ first_pair c.args.units.now (fractional_units vs)) c.as_slice.ensures.value c.in-None.ensures)) c.args.draw c.requires.within
