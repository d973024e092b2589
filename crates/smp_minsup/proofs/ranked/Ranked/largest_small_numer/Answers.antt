use Rattle.std.proofs.Common.{◌∙◌}
use Rattle.smp_minsup.proofs.Parting.{largest_small_is, largest_small_none}
use Rattle.smp_minsup.proofs.ranked.Ranked.largest_small_numer.Goals as goal

pub returns-in-Some : goal.returns-in-Some
returns-in-Some c = c.numer.ensures ∙ largest_small_is c.args.self.now c.in-Some.unit c.in-Some.ensures.most

pub returns-in-None : goal.returns-in-None
returns-in-None c = largest_small_none c.args.self.now c.in-None.ensures.none
