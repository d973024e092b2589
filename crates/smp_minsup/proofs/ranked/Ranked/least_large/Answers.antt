use Rattle.std.proofs.Common.{◌≡◌, ℕ, ◌<◌, false, length, rules, subst}
use Rattle.smp_minsup.specs.Kept.Ranked.{RankedUnits, is_in, IsLeastLarge}
use Rattle.smp_minsup.proofs.Ranking.{least_large, none_large}
use Rattle.smp_minsup.proofs.ranked.Ranked.least_large.Goals as goal

pub returns-in-Some-clause-least : goal.returns-in-Some-clause-least
returns-in-Some-clause-least c =
    subst (λ (v : RankedUnits). IsLeastLarge v c.in-Some.field-0.now.0.1) c.self.view_is (least_large c.self.invariant c.in-Some.field-0.now (search rules) c.in-Some.ensures.lookup (c.in-Some.ensures.greatest c.self.invariant.large_order))

pub returns-in-None-clause-none : goal.returns-in-None-clause-none
returns-in-None-clause-none c = subst (λ (v : RankedUnits). (unit : ℕ) → unit < length v.numer → is_in v.large unit ≡ false) c.self.view_is (none_large c.self.invariant (λ some. search (rules, some)))
