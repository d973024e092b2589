use Rattle.std.proofs.Common.{◌≡◌, ℕ, ◌<◌, true, length, rules, subst}
use Rattle.smp_minsup.specs.Kept.Ranked.{RankedUnits, is_in, IsMostSmall}
use Rattle.smp_minsup.proofs.Ranking.{most_small, none_small}
use Rattle.smp_minsup.proofs.ranked.Ranked.most_small.Goals as goal

pub returns-in-Some-clause-most : goal.returns-in-Some-clause-most
returns-in-Some-clause-most c =
    subst (λ (v : RankedUnits). IsMostSmall v c.in-Some.field-0.now.1) c.self.view_is (most_small c.self.invariant c.in-Some.field-0.now (search rules) c.in-Some.ensures.lookup (c.in-Some.ensures.greatest c.self.invariant.small_order))

pub returns-in-None-clause-none : goal.returns-in-None-clause-none
returns-in-None-clause-none c = subst (λ (v : RankedUnits). (unit : ℕ) → unit < length v.numer → is_in v.large unit ≡ true) c.self.view_is (none_small c.self.invariant (λ some. search (rules, some)))
