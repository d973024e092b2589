use Rattle.std.proofs.Common.{◌≡◌, ◌/◌, map, take}
use Rattle.smp_prob.proofs.shapes.shape_of.Given as goal

abbrev pub invariant-loop-size : goal.invariant-loop-size
invariant-loop-size l = l.shape.items ≡ map (λ size. size / l.divisor) (take l.size-index l.sizes)
