use Rattle.std.proofs.{Common.{◌≡◌, ◌<◌, false, true, sym, subst, ap, ◌∙◌}, lemmas.Bool.{OnTrue_at}}
use Rattle.smp_minsup.specs.Kept.Ranked.{RankedUnits, IsMixed, IsLeastLarge, placed}
use Rattle.smp_minsup.proofs.Parting.{IsExchanged, disorder, mixed_fewer, exchange_falls, exchange_keeps, exchanged_trans}
use Rattle.smp_minsup.proofs.ranked.Ranked.part.Goals as goal

pub promote-requires-clause-some : goal.promote-requires-clause-some
promote-requires-clause-some c =
    let mixed : IsMixed c.loop-self.self = OnTrue_at c.loop-self-test.true c.is_mixed.ensures.mixed in
    mixed_fewer c.loop-self.self c.loop-self.invariant.paired mixed mixed.small mixed.most

-- the exchange, as it is made
module _ (c : goal.After-demote) where
  mixed : IsMixed c.loop-self.self
  mixed = OnTrue_at c.loop-self-test.true c.is_mixed.ensures.mixed

  least : IsLeastLarge (placed c.loop-self.self c.promote.result true) c.demote.result
  least = subst (λ (v : RankedUnits). IsLeastLarge v c.demote.result) c.promote.ensures.placed c.demote.ensures.least

  now : c.demote.new.self ≡ placed (placed c.loop-self.self c.promote.result true) c.demote.result false
  now = c.demote.ensures.placed ∙ ap (λ (v : RankedUnits). placed v c.demote.result false) c.promote.ensures.placed

pub loop-self-smaller : goal.loop-self-smaller
loop-self-smaller c =
    subst (λ (v : RankedUnits). disorder v < disorder c.loop-self.self) (sym (now c))
    (exchange_falls c.loop-self.self c.loop-self.invariant.paired (mixed c) c.promote.result c.promote.ensures.most c.demote.result (least c))

pub loop-self-preserved : goal.loop-self-preserved
loop-self-preserved c =
    exchanged_trans c.args.self.now c.loop-self.self c.demote.new.self c.loop-self.invariant
    (subst (IsExchanged c.loop-self.self) (sym (now c))
    (exchange_keeps c.loop-self.self c.loop-self.invariant.paired (mixed c) c.promote.result c.promote.ensures.most c.demote.result (least c)))
