use Rattle.std.proofs.Common.{arith, ◌≤◌, sym, ap, ◌∙◌, subst}
use Rattle.smp_stratcube.specs.Values.{stratum_common}
use Rattle.smp_stratcube.proofs.Written.{settled_by, some_front, unit_inside, unit_some}
use Rattle.smp_stratcube.proofs.pairs.settled.Goals as goal

pub stratum-requires : goal.stratum-requires
stratum-requires c =
    omega (arith, unit_inside c.args.units.now c.args.values.now c.requires.pairing c.args.front.now c.requires.front (omega (arith, c.requires.front.short)) c.requires.going, c.requires.pairing.values.count)

pub stratum_common-den-requires-clause-within : goal.stratum_common-den-requires-clause-within
stratum_common-den-requires-clause-within c =
    record { place = 0; inside = some_front c.args.units.now c.args.values.now c.requires.pairing c.args.front.now c.requires.front (omega (arith, c.requires.front.short)) c.requires.going; is = sym c.stratum.ensures }

pub at-requires : goal.at-requires
at-requires c =
    unit_inside c.args.units.now c.args.values.now c.requires.pairing c.args.front.now c.requires.front (omega (arith, c.requires.front.short)) c.requires.going

pub value_over-requires : goal.value_over-requires
value_over-requires c =
    subst (λ m. 1 ≤ m) (sym (c.stratum_common-den.ensures ∙ ap (stratum_common c.args.units.now c.args.values.now) c.stratum.ensures)) (unit_some c.args.units.now c.args.values.now c.requires.pairing c.args.front.now c.requires.front (omega (arith, c.requires.front.short)) c.requires.going)

pub value_over-requires-else-draw-over : goal.value_over-requires-else-draw-over
value_over-requires-else-draw-over c =
    subst (λ m. 1 ≤ m) (sym (c.stratum_common-den.ensures ∙ ap (stratum_common c.args.units.now c.args.values.now) c.stratum.ensures)) (unit_some c.args.units.now c.args.values.now c.requires.pairing c.args.front.now c.requires.front (omega (arith, c.requires.front.short)) c.requires.going)

pub returns-then-draw-over : goal.returns-then-draw-over
returns-then-draw-over c =
    c.value_over.ensures
    ∙ (settled_by c.args.units.now c.args.values.now c.requires.pairing c.args.front.now c.requires.front (omega (arith, c.requires.front.short)) c.requires.going c.args.draw c.stratum_common-den.result c.over.result c.at.result c.over.ensures.is c.at.ensures (c.stratum_common-den.ensures ∙ ap (stratum_common c.args.units.now c.args.values.now) c.stratum.ensures)).0 (omega (arith, c.if-draw-over.true))

pub returns-else-draw-over : goal.returns-else-draw-over
returns-else-draw-over c =
    c.value_over-else-draw-over.ensures
    ∙ (settled_by c.args.units.now c.args.values.now c.requires.pairing c.args.front.now c.requires.front (omega (arith, c.requires.front.short)) c.requires.going c.args.draw c.stratum_common-den.result c.over.result c.at.result c.over.ensures.is c.at.ensures (c.stratum_common-den.ensures ∙ ap (stratum_common c.args.units.now c.args.values.now) c.stratum.ensures)).1 (omega (arith, c.if-draw-over.false))
