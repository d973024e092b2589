use Rattle.std.proofs.Common.{◌+◌, sym, subst}
use Rattle.smp_minsup.specs.Kept.Ranked.{RankedUnits}
use Rattle.smp_minsup.proofs.Parting.{IsTaking, taking_more}
use Rattle.smp_minsup.proofs.ranked.Ranked.take_largest.Goals as goal

pub loop-i-preserved : goal.loop-i-preserved
loop-i-preserved c =
    subst (λ (v : RankedUnits). IsTaking c.args.self.now (c.loop-i._i + 1) v) (sym c.promote.ensures.placed)
    (taking_more c.args.self.now c.loop-i.self c.loop-i._i c.promote.result c.loop-i.invariant c.promote.ensures.most)
