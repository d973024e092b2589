use Rattle.std.proofs.Common.{arith, ◌≡◌, ◌≢◌, ◌+◌, ◌-◌, Some, get_or, sym, ap, ◌∙◌}
use Rattle.smp_moves.proofs.Places.{rest_all, rest_of}
use Rattle.smp_stratcube.specs.{Units.{stratum}, Pairs.{first_pair}}
use Rattle.smp_stratcube.proofs.Pairing.{pair_here, pair_next, pair_none, pair_of_front}
use Rattle.smp_stratcube.proofs.pairs.first_pair.Goals as goal

pub loop-place-init : goal.loop-place-init
loop-place-init c = ap (first_pair c.args.units.now) (rest_all c.args.front.now.number c.args.front.now.units)

pub returns-then-stratum : goal.returns-then-stratum
returns-then-stratum c =
    let n = c.args.front.now.number in
    let us = c.args.front.now.units in
    let j = c.loop-place.place - 1 in
    let next : j + 1 ≡ c.loop-place.place = omega arith in
    let same : stratum c.args.units.now (get_or us j 0) ≡ stratum c.args.units.now (get_or us (j + 1) 0) =
    sym c.stratum.ensures ∙ c.if-stratum.true ∙ c.stratum-in-loop-place.ensures ∙ ap (λ i. stratum c.args.units.now (get_or us i 0)) (sym next) in
    let here = pair_here c.args.units.now n us j (omega (arith, next)) (omega (arith, next, c.requires.front.short)) same in
    ap (λ i. Some (get_or us j 0, get_or us i 0)) (sym next) ∙ sym here ∙ c.loop-place.invariant
    ∙ pair_of_front c.args.units.now c.requires.are c.args.values.now c.requires.count c.args.front.now c.requires.front (omega (arith, c.requires.front.short))

pub loop-place-preserved : goal.loop-place-preserved
loop-place-preserved c =
    let n = c.args.front.now.number in
    let us = c.args.front.now.units in
    let units = c.args.units.now in
    let j = c.loop-place.place - 1 in
    let next : j + 1 ≡ c.loop-place.place = omega arith in
    let ne : stratum units (get_or us j 0) ≢ stratum units (get_or us (j + 1) 0) =
    λ e. c.if-stratum.false (c.stratum.ensures ∙ e ∙ ap (λ i. stratum units (get_or us i 0)) next ∙ sym c.stratum-in-loop-place.ensures) in
    let step = pair_next units n us j (omega (arith, next)) (omega (arith, next, c.requires.front.short)) ne in
    let after : c.loop-place.place + 1 - 1 ≡ j + 1 = omega (arith, next) in
    ap (λ i. first_pair units (rest_of n us i)) after ∙ sym step ∙ c.loop-place.invariant

pub returns : goal.returns
returns c =
    let n = c.args.front.now.number in
    let us = c.args.front.now.units in
    let j = c.loop-place.place - 1 in
    sym (pair_none c.args.units.now n us j (omega arith)) ∙ c.loop-place.invariant
    ∙ pair_of_front c.args.units.now c.requires.are c.args.values.now c.requires.count c.args.front.now c.requires.front (omega (arith, c.requires.front.short))
