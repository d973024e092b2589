use Rattle.std.proofs.Common.{◌≤◌}
use Rattle.smp_frac.specs.Limits.{most_denominator}
use Rattle.smp_flight.specs.Kept.Narrow.{IsLeastBelow}
use Rattle.smp_flight.proofs.bounds.multiple_of.Given as goal

-- the least multiple of the sizes so far
abbrev pub invariant-loop-unit : goal.invariant-loop-unit
invariant-loop-unit l = record {
  so_far : IsLeastBelow l.shape l.unit l.multiple;
  small : l.multiple ≤ most_denominator;
}
