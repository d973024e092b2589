use Rattle.std.proofs.Common.{arith, sym, ap, ap₂, ◌∙◌}
use Rattle.smp_values.specs.Pairs.{pair_bound}
use Rattle.smp_stratcube.specs.Values.{stratum_common}
use Rattle.smp_stratcube.proofs.Written.{bound_is, lone_bound, some_front, unit_inside}
use Rattle.smp_stratcube.proofs.pairs.bound.Goals as goal

pub stratum-requires : goal.stratum-requires
stratum-requires c =
    omega (arith, unit_inside c.args.units.now c.args.values.now c.requires.pairing c.args.front.now c.requires.front (omega (arith, c.requires.front.short)) c.requires.going, c.requires.pairing.values.count)

pub stratum_common-requires-clause-within : goal.stratum_common-requires-clause-within
stratum_common-requires-clause-within c =
    record { place = 0; inside = some_front c.args.units.now c.args.values.now c.requires.pairing c.args.front.now c.requires.front (omega (arith, c.requires.front.short)) c.requires.going; is = sym c.stratum.ensures }

pub returns-in-Some : goal.returns-in-Some
returns-in-Some c =
    let two = c.meeting-two.ensures.is in
    c.pair_bound.ensures ∙ ap₂ (λ p q. pair_bound p q c.meeting-two.result.den) two.first two.second ∙ ap (pair_bound _ _) two.den
    ∙ sym (bound_is c.args.units.now c.args.values.now c.requires.pairing c.in-Some.pair.0 c.in-Some.pair.1 (sym c.in-Some.ensures))

pub returns-in-None : goal.returns-in-None
returns-in-None c =
    c.stratum_common.ensures ∙ ap (stratum_common c.args.units.now c.args.values.now) c.stratum.ensures ∙ sym (lone_bound c.args.units.now c.args.values.now c.requires.pairing c.args.front.now c.requires.front (omega (arith, c.requires.front.short)) c.requires.going (sym c.in-None.ensures))
