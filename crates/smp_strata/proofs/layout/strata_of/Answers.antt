use Rattle.std.proofs.{Common.{◌≡◌, ◌∙◌, ap, sym, length, rules}, lemmas.List.FromFn.{length-map-range_with_len}}
use Rattle.std.specs.Vec.{vec_len}
use Rattle.smp_strata.specs.{Clusters.{stratum_number, stratum_names}, Kept.Layouts.{strata_homes}}
use Rattle.smp_strata.proofs.ClusterRows.{strata_homes_are, strata_homes_within}
use Rattle.smp_strata.proofs.layout.strata_of.Goals as goal

pub strata_homes-requires : goal.strata_homes-requires
strata_homes-requires c =
    let long = ap length c.in_ok-numbered.ensures.numbers ∙ length-map-range_with_len (stratum_number c.args.units.now) 0 (length c.args.units.now) in
    record { rows = rw long c.requires.rows; paired = c.requires.paired ∙ sym long }

pub returns-clause-homes : goal.returns-clause-homes
returns-clause-homes c =
    c.in_ok-homes.ensures
    ∙ rw c.in_ok-numbered.ensures.numbers (strata_homes_are c.args.units.now c.args.clusters.now.rows c.requires.rows)

pub groups_of-requires : goal.groups_of-requires
groups_of-requires c =
    let homes : c.in_ok-homes.homes.items ≡ strata_homes c.args.units.now c.args.clusters.now.rows =
    c.in_ok-homes.ensures
    ∙ rw c.in_ok-numbered.ensures.numbers (strata_homes_are c.args.units.now c.args.clusters.now.rows c.requires.rows) in
    let long : length c.in_ok-numbered.numbered.names.items ≡ vec_len c.in_ok-numbered.numbered.names = search rules in
    let count : c.len.result ≡ length (stratum_names c.args.units.now) = c.len.ensures ∙ sym long ∙ ap length c.in_ok-numbered.ensures.names in
    rw (c.deref.ensures.value, homes, count) (strata_homes_within c.args.units.now c.args.clusters.now.rows c.requires.rows)
