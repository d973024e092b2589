use Rattle.std.proofs.Common.{arith}
use Rattle.smp_split.proofs.Mirrors.{mirrored_frame}
use Rattle.smp_split.proofs.order.UnitOrder.undrawn.Goals as goal

pub invariant_of-result : goal.invariant_of-result
invariant_of-result c = (λ listed. absurd (cc), λ _. mirrored_frame _ _ c.args.units _ c.in_ok-numbers_below.ensures c.in_ok-numbers_below-2.ensures (omega arith))
