use Rattle.std.proofs.Common.{arith, refl}
use Rattle.smp_split.proofs.order.UnitOrder.in_frame.Goals as goal

pub invariant_of-result : goal.invariant_of-result
invariant_of-result c = (λ _. refl, λ going. absurd (omega (arith, going)))
