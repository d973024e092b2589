use Rattle.std.proofs.Common.{◌≡◌, take}
use Rattle.smp_strata.specs.Plans as Plans
use Rattle.smp_strata.proofs.sizes.second_sizes.Given as goal

abbrev pub invariant-loop-row : goal.invariant-loop-row
invariant-loop-row l = l.list.items ≡ Plans.second_sizes l.units (take l.row-index l.rows)
