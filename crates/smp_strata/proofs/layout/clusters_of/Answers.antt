use Rattle.std.proofs.{Common.{◌∙◌, None, ap, length, sym}, lemmas.List.FromFn.{length-map-range_with_len, length-range_with_len}}
use Rattle.std.specs.List.{range_with_len}
use Rattle.smp_strata.specs.Kept.Groups.{places_of}
use Rattle.smp_strata.proofs.ClusterRows.{alone_groups, are_rows, homes_within, psus_are}
use Rattle.smp_strata.proofs.layout.clusters_of.Goals as goal

pub invariant_of-result : goal.invariant_of-result
invariant_of-result c =
    c.in_ok-numbers_below-in-None.ensures
    ∙ ap (range_with_len 0) (sym (ap length c.in_ok-numbers_below-in-None.ensures ∙ length-range_with_len 0 (length c.args.units.now)))

pub returns-in_ok-numbers_below-in-None-clause-groups : goal.returns-in_ok-numbers_below-in-None-clause-groups
returns-in_ok-numbers_below-in-None-clause-groups c = rw c.in_ok-numbers_below-in-None.ensures (alone_groups c.args.units.now)

pub returns-in_ok-numbers_below-in-None-clause-all_rows : goal.returns-in_ok-numbers_below-in-None-clause-all_rows
returns-in_ok-numbers_below-in-None-clause-all_rows c =
    rw c.in_ok-numbers_below-in-None.ensures (are_rows c.args.units.now None c.requires.few)

pub groups_of-requires : goal.groups_of-requires
groups_of-requires c = rw (c.deref.ensures.value, c.in_ok-psus-in-Some.ensures.numbers, c.in_ok-psus-in-Some.ensures.count) (homes_within c.args.units.now)

pub returns-in_ok-groups-in-Some-clause-rows : goal.returns-in_ok-groups-in-Some-clause-rows
returns-in_ok-groups-in-Some-clause-rows c =
    rw c.in-Some.is (c.in_ok-groups-in-Some.ensures.each
    ∙ rw (c.deref.ensures.value, c.in_ok-psus-in-Some.ensures.numbers, c.in_ok-psus-in-Some.ensures.count) (psus_are c.args.units.now))

pub returns-in_ok-groups-in-Some-clause-groups : goal.returns-in_ok-groups-in-Some-clause-groups
returns-in_ok-groups-in-Some-clause-groups c =
    let groups = rw c.deref.ensures.value at c.in_ok-groups-in-Some.ensures in
    rw (ap length groups.each ∙ length-map-range_with_len (places_of c.in_ok-psus-in-Some.psus.numbers.items) 0 c.in_ok-psus-in-Some.psus.count) groups

pub returns-in_ok-groups-in-Some-clause-all_rows : goal.returns-in_ok-groups-in-Some-clause-all_rows
returns-in_ok-groups-in-Some-clause-all_rows c =
    rw (returns-in_ok-groups-in-Some-clause-rows c) (are_rows c.args.units.now c.args.second c.requires.few)
