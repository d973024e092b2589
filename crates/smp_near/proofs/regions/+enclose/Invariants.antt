use Rattle.std.proofs.Common.{◌-◌}
use Rattle.smp_near.proofs.regions.+enclose.Given as goal

abbrev pub decreases-enclose : goal.decreases-enclose
decreases-enclose g l = l.high - l.low
