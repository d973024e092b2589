use Rattle.smp_brewer.specs.Kept.Orders.{IsRanked}
use Rattle.smp_brewer.proofs.orders.passed_over.Given as goal

-- the open units are among those that are left
abbrev pub invariant-loop-left : goal.invariant-loop-left
invariant-loop-left l = IsRanked l.sizes l.order l.left

abbrev pub decreases-loop-left : goal.decreases-loop-left
decreases-loop-left l = l.left
