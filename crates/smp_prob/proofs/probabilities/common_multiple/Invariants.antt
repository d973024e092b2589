use Rattle.std.proofs.Common.{◌≡◌, ◌≤◌, take}
use Rattle.smp_prob.specs.Given.{common_multiple, largest_multiple}
use Rattle.smp_prob.proofs.probabilities.common_multiple.Given as goal

abbrev pub invariant-loop-prob : goal.invariant-loop-prob
invariant-loop-prob l = record {
  so_far : l.multiple ≡ common_multiple (take l.prob-index l.probs);
  some : 1 ≤ l.multiple;
  within : l.multiple ≤ largest_multiple;
}
