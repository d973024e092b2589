use Rattle.std.proofs.Common.{length, sym}
use Rattle.smp_strata.proofs.ClusterRows.{by_themselves}
use Rattle.smp_strata.proofs.layout.strata_homes.Goals as goal

pub returns-in-None : goal.returns-in-None
returns-in-None c =
    let in_order = rw c.in-None.is at c.clusters.invariant in
    let long = rw (← c.clusters.view_is) at c.requires.paired in
    rw (← c.clusters.view_is, c.in-None.is, in_order) (sym (by_themselves c.args.numbers.items (length c.clusters.inside.homes.items) long))
