use Rattle.std.proofs.Common.{min, ap, ◌∙◌}
use Rattle.smp_minsup.proofs.Parting.{least_large_is, least_large_none}
use Rattle.smp_minsup.proofs.ranked.Ranked.least_large_numer.Goals as goal

pub returns-in-Some : goal.returns-in-Some
returns-in-Some c = c.min.ensures ∙ ap (λ a. min a c.args.bound) c.numer.ensures ∙ least_large_is c.args.self.now c.args.bound c.in-Some.unit c.in-Some.ensures.least

pub returns-in-None : goal.returns-in-None
returns-in-None c = least_large_none c.args.self.now c.args.bound c.in-None.ensures.none
