use Rattle.std.proofs.Common.{◌-◌}
use Rattle.smp_places.proofs.sums.+sum_up.Given as goal

abbrev pub decreases-sum_up : goal.decreases-sum_up
decreases-sum_up l = l.high - l.low
