use Rattle.std.proofs.Common.{◌<◌, sym, ap, ap₂, ◌∙◌, subst}
use Rattle.smp_values.specs.Pairs.{pair_bound}
use Rattle.smp_stratcube.proofs.Written.{bound_is}
use Rattle.smp_stratcube.proofs.pairs.met.Goals as goal

pub pair_apply-taken-requires-clause-within : goal.pair_apply-taken-requires-clause-within
pair_apply-taken-requires-clause-within c =
    let two = c.meeting-two.ensures.is in
    subst (λ m. c.args.draw < m)
    (bound_is c.args.units.now c.args.values.now c.requires.pairing c.args.pair.0 c.args.pair.1 c.requires.pair ∙ ap (pair_bound _ _) (sym two.den)
    ∙ ap₂ (λ p q. pair_bound p q c.meeting-two.result.den) (sym two.first) (sym two.second))
    c.requires.within
