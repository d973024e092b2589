use Rattle.std.proofs.Common.{◌-◌}
use Rattle.smp_near.proofs.searches.+search_within.Given as goal

abbrev pub decreases-search_within : goal.decreases-search_within
decreases-search_within g l = l.high - l.low
