use Rattle.std.proofs.Common.{◌<◌, ◌≤◌, ◌^◌, ℕ, get_or}
use Rattle.smp_prob.proofs.proportional.largest_of.Given as goal

abbrev pub invariant-loop-size : goal.invariant-loop-size
invariant-loop-size l = record {
  most : (i : ℕ) → i < l.size-index → get_or l.sizes i 0 ≤ l.largest;
  small : l.largest < 2 ^ 31;
}
