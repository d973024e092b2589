use Rattle.std.proofs.Common.{length}
use Rattle.smp_near.proofs.orders.+arrange.Given as goal

abbrev pub decreases-arrange : goal.decreases-arrange
decreases-arrange g l = length l.points.now
