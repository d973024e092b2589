use Rattle.std.proofs.{Common.{rules}, lemmas.List.Sorted.{IsPermutation-trans, IsPermutation-reverse}}
use Rattle.smp_prob.proofs.Sizes.{falling_reverse}
use Rattle.smp_prob.proofs.proportional.falling.Goals as goal

pub returns-clause-order : goal.returns-clause-order
returns-clause-order c = rw c.reverse.ensures.items (falling_reverse c.sort.new.self.items (search (rules, c.in_ok-sort.ensures.sorted)))

pub returns-clause-same : goal.returns-clause-same
returns-clause-same c =
    rw c.reverse.ensures.items (IsPermutation-trans _ _ _ (rw c.in_ok-order.ensures.items at c.sort.ensures.permutation) (IsPermutation-reverse c.sort.new.self.items))
