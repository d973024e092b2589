use Rattle.std.proofs.Common.{◌≡◌, ℕ, ◌+◌, ◌^◌, ◌<◌, ◌≤◌, true, length, get_or, subst, ap, sym, ◌∙◌}
use Rattle.smp_minsup.specs.Kept.Ranked.{RankedUnits, is_in, lowered_by}
use Rattle.smp_minsup.proofs.Ranking.{lowered_kept, lowered_view}
use Rattle.smp_minsup.proofs.ranked.Ranked.lower.Goals as goal

pub invariant_of-self : goal.invariant_of-self
invariant_of-self c =
    let low = subst (λ (v : RankedUnits). v.lowered + c.args.by < 2 ^ 126) (sym c.self.view_is) c.requires.low in
    let above = subst (λ (v : RankedUnits). (unit : ℕ) → unit < length v.numer → is_in v.large unit ≡ true → c.args.by ≤ get_or v.numer unit 0) (sym c.self.view_is) c.requires.above in
    lowered_kept c.args.by c.self.invariant low above

pub returns : goal.returns
returns c =
    lowered_view c.args.by c.self.invariant ∙ ap (λ (v : RankedUnits). lowered_by v c.args.by) c.self.view_is
