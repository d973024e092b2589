use Rattle.std.proofs.Common.{◌≡◌, ◌*◌, map, take}
use Rattle.smp_prob.proofs.requests.Request.numerators.Given as goal

abbrev pub invariant-loop-shape : goal.invariant-loop-shape
invariant-loop-shape l = l.list.items ≡ map (λ shape. shape * l.factor) (take l.shape-index l.shape-items)
