use Rattle.std.proofs.Common.{◌≡◌, map, take, slice_index}
use Rattle.smp_strata.specs.Clusters.{first_row}
use Rattle.smp_strata.proofs.layout.at_first_rows.Given as goal

abbrev pub invariant-loop-group : goal.invariant-loop-group
invariant-loop-group l = l.homes.items ≡ map (λ rows. slice_index l.numbers (first_row rows)) (take l.group-index l.groups)
