use Rattle.std.proofs.Common.{arith}
use Rattle.smp_localpiv.proofs.Coordinates.{point_is}
use Rattle.smp_localpiv.proofs.dimensions.point.Goals as goal

pub returns : goal.returns
returns g c = point_is g.row.K c.loop-k.point c.args.values.now c.loop-k.invariant.size (λ k l. c.loop-k.invariant.each k (omega arith))
