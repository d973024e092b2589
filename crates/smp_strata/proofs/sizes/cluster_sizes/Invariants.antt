use Rattle.std.proofs.Common.{◌≡◌, map, take}
use Rattle.smp_strata.specs.Rows as Rows
use Rattle.smp_strata.proofs.sizes.cluster_sizes.Given as goal

abbrev pub invariant-loop-cluster : goal.invariant-loop-cluster
invariant-loop-cluster l = l.sizes.items ≡ map (Rows.size_of l.units) (take l.cluster l.clusters.rows)
