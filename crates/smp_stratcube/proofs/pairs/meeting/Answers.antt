use Rattle.std.proofs.Common.{arith, ◌≡◌, ℕ, ap, ◌∙◌}
use Rattle.smp_stratcube.specs.{Units.{stratum}, Values.{stratum_common}}
use Rattle.smp_stratcube.proofs.Written.{first_inside, first_open, meet_some, numer_read, second_inside, second_open, stratum_in_front}
use Rattle.smp_stratcube.proofs.pairs.meeting.Goals as goal

pub stratum-requires : goal.stratum-requires
stratum-requires c =
    (let b = first_inside c.args.units.now c.args.values.now c.requires.pairing c.args.pair.0 c.args.pair.1 c.requires.pair in omega (arith, b, c.requires.pairing.values.count))

pub stratum_common-den-requires-clause-within : goal.stratum_common-den-requires-clause-within
stratum_common-den-requires-clause-within c =
    stratum_in_front c.args.units.now c.requires.pairing.are c.args.values.now c.requires.pairing.values.count c.args.front.now c.requires.front (omega (arith, c.requires.front.short)) c.args.pair.0 c.args.pair.1 c.stratum.result (c.requires.pair) c.stratum.ensures

pub at-requires : goal.at-requires
at-requires c =
    first_inside c.args.units.now c.args.values.now c.requires.pairing c.args.pair.0 c.args.pair.1 c.requires.pair

pub at-requires-2 : goal.at-requires-2
at-requires-2 c =
    second_inside c.args.units.now c.args.values.now c.requires.pairing c.args.pair.0 c.args.pair.1 c.requires.pair

pub returns : goal.returns
returns c =
    let units = c.args.units.now in
    let values = c.args.values.now in
    let h : ℕ = stratum units c.args.pair.0 in
    let some = meet_some units values c.requires.pairing c.args.pair.0 c.args.pair.1 c.requires.pair in
    let d : c.stratum_common-den.result ≡ stratum_common units values h = c.stratum_common-den.ensures ∙ ap (stratum_common units values) c.stratum.ensures in
    let x = numer_read units values c.requires.pairing (stratum_common units values h) c.args.pair.0 c.stratum_common-den.result c.over.result c.at.result some c.over.ensures.is c.at.ensures d in
    let y = numer_read units values c.requires.pairing (stratum_common units values h) c.args.pair.1 c.stratum_common-den.result c.over-2.result c.at-2.result some c.over-2.ensures.is c.at-2.ensures d in
    let one = first_open units values c.requires.pairing c.args.pair.0 c.args.pair.1 c.requires.pair in
    let other = second_open units values c.requires.pairing c.args.pair.0 c.args.pair.1 c.requires.pair in
    let most = c.requires.pairing.narrow h in
    record {
      is = record { den = d; first = x; second = y };
      first = (omega (arith, x, one.0), omega (arith, x, d, one.1));
      second = (omega (arith, y, other.0), omega (arith, y, d, other.1));
      narrow = omega (arith, d, most);
    }
