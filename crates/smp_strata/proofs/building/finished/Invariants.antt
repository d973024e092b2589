use Rattle.std.proofs.Common.{◌≡◌}
use Rattle.smp_strata.proofs.building.finished.Given as goal

abbrev pub invariant-loop-stratum : goal.invariant-loop-stratum
invariant-loop-stratum l = l.strata.items ≡ l.yielded
