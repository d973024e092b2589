use Rattle.std.proofs.{Common.{◌<◌, [], arith, length, sym}, lemmas.List.{map_more}}
use Rattle.smp_strata.specs.Rows as Rows
use Rattle.smp_strata.proofs.sizes.cluster_sizes.Goals as goal

pub loop-cluster-preserved : goal.loop-cluster-preserved
loop-cluster-preserved c =
    let here : c.loop-cluster.cluster < length c.args.clusters.now.rows = omega (arith, c.loop-cluster-test.true, c.len-cluster-end.ensures) in
    rw (c.in_ok-push.ensures.items, c.loop-cluster.invariant, c.size_of.ensures, c.rows.ensures) (sym (map_more (Rows.size_of c.args.units.now) c.args.clusters.now.rows c.loop-cluster.cluster [] here))
