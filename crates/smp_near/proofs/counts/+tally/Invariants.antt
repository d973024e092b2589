use Rattle.std.proofs.Common.{◌-◌}
use Rattle.smp_near.proofs.counts.+tally.Given as goal

abbrev pub decreases-tally : goal.decreases-tally
decreases-tally l = l.high - l.low
