use Rattle.std.proofs.Common.{◌-◌}
use Rattle.smp_near.proofs.counts.+strike.Given as goal

abbrev pub decreases-strike : goal.decreases-strike
decreases-strike l = l.high - l.low
