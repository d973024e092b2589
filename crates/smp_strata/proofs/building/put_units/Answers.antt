use Rattle.std.proofs.{Common.{◌≡◌, ◌∙◌, ◌<◌, ◌≤◌, [], Err, arith, ap, get_or, inl, inr, length, refl, rules, sym}, lemmas.Bool.{cases_eq}}
use Rattle.std.proofs.{lemmas.List.{drop_all, get_or_default, length-map}, lemmas.List.Elements.{All-from_get_or}}
use Rattle.std.proofs.lemmas.List.FromFn.{length-map-range_with_len}
use Rattle.smp_strata.specs.{Clusters.{clusters, first_row, stratum_names, stratum_number}, Misfits.{first_found}}
use Rattle.smp_strata.specs.{declared.strata.FirstUnit.{FirstUnit}, Kept.Built.{IsBuiltFirst, bare, second_short, so_far}}
use Rattle.smp_strata.specs.Kept.Layouts.{strata_homes}
use Rattle.smp_strata.proofs.{Founds.{found_from_place}, Laid.{all_rows}, Members.{none_large}, MisfitOrder.{or_first, passed}}
use Rattle.smp_strata.proofs.Serving.{all_put, built, put_next, seconds_are}
use Rattle.smp_strata.proofs.building.put_units.Goals as goal

pub loop-cluster-init : goal.loop-cluster-init
loop-cluster-init c = record { strata = c.requires.bare; firsts = λ j l. absurd (omega (arith, l)); none = refl }

pub first_of-requires-clause-rows : goal.first_of-requires-clause-rows
first_of-requires-clause-rows c =
    rw c.rows.ensures (c.requires.layout.all_rows c.loop-cluster.cluster [] (omega (arith, c.loop-cluster-test.true, c.len-cluster-end.ensures)))

pub first_of-requires-clause-small : goal.first_of-requires-clause-small
first_of-requires-clause-small c =
    rw (c.rows.ensures, c.requires.layout.rows) (none_large c.args.design.now c.args.units.now c.requires.small c.loop-cluster.cluster []
    (omega (arith, c.loop-cluster-test.true, c.len-cluster-end.ensures, ap length c.requires.layout.rows)))

pub index-requires : goal.index-requires
index-requires c =
    omega (arith, c.loop-cluster-test.true, c.len-cluster-end.ensures, ap length c.requires.layout.strata_homes, length-map c.args.clusters.now.rows (λ g. stratum_number c.args.units.now (first_row g)))

pub put-requires : goal.put-requires
put-requires c =
    let inside : c.loop-cluster.cluster < length c.args.strata.now.homes.items =
    omega (arith, c.loop-cluster-test.true, c.len-cluster-end.ensures, ap length c.requires.layout.strata_homes, length-map c.args.clusters.now.rows (λ g. stratum_number c.args.units.now (first_row g))) in
    let within = rw (← c.index.ensures) at (c.requires.layout.groups.within c.loop-cluster.cluster c.index.result.now inside) in
    omega (
      arith,
      within,
      ap length c.requires.layout.names,
      ap length c.loop-cluster.invariant.strata,
      length-map-range_with_len (so_far c.args.design.now c.args.units.now (strata_homes c.args.units.now c.args.clusters.now.rows) c.loop-cluster.cluster) 0 (length (stratum_names c.args.units.now)),
    )

pub returns-in_err-first-clause-misfit : goal.returns-in_err-first-clause-misfit
returns-in_err-first-clause-misfit c =
    let here : c.loop-cluster.cluster < length c.args.clusters.now.rows = omega (arith, c.loop-cluster-test.true, c.len-cluster-end.ensures) in
    let said = rw c.rows.ensures at c.in_err-first.ensures.misfit in
    let same : c.from_residual.result ≡ Err c.in_err-first.field-0.0 = search rules in
    rw same (passed FirstUnit (Unit {0}) c.in_err-first.field-0.0 _ _ said (λ m is.
    sym (seconds_are c.args.design.now.second c.args.units.now)
    ∙ rw c.requires.layout.rows at (sym c.loop-cluster.invariant.none
    ∙ found_from_place (second_short c.args.design.now.second c.args.units.now) c.args.clusters.now.rows c.loop-cluster.cluster [] here ∙ or_first _ _ m is)))

pub loop-cluster-preserved : goal.loop-cluster-preserved
loop-cluster-preserved c =
    let design = c.args.design.now in
    let units = c.args.units.now in
    let layout = c.requires.layout in
    let k = c.loop-cluster.cluster in
    let d = bare design units 0 in
    let here : k < length c.args.clusters.now.rows = omega (arith, c.loop-cluster-test.true, c.len-cluster-end.ensures) in
    let homes = layout.strata_homes ∙ ap (strata_homes units) layout.rows in
    let inside : k < length c.args.strata.now.homes.items =
    omega (arith, here, ap length layout.strata_homes, length-map c.args.clusters.now.rows (λ g. stratum_number units (first_row g))) in
    let number = c.index.ensures ∙ get_or_default c.args.strata.now.homes.items k c.index.result.now 0 inside ∙ ap (λ hs. get_or hs k 0) homes in
    let within = rw (← c.index.ensures, layout.names) at (layout.groups.within k c.index.result.now inside) in
    record {
      strata = rw layout.rows (c.in_ok-put.ensures d
          ∙ put_next design units (all_rows layout) k c.index.result.now c.in_ok-first.first c.loop-cluster.begun.items d number within
          (rw (c.rows.ensures, layout.rows) at c.in_ok-first.ensures.value) (rw layout.rows at c.loop-cluster.invariant.strata));
      firsts = λ j l. elim (cases_eq j k) [
        | inl e ↦ rw e (rw c.rows.ensures at c.in_ok-first.ensures.built)
        | inr e ↦ c.loop-cluster.invariant.firsts j (omega (arith, l, e))
      ];
      none = sym (found_from_place (second_short design.second units) c.args.clusters.now.rows k [] here
          ∙ rw (rw c.rows.ensures at c.in_ok-first.ensures.misfit) refl)
          ∙ c.loop-cluster.invariant.none;
    }

pub returns-clause-misfit : goal.returns-clause-misfit
returns-clause-misfit c =
    let past : length c.args.clusters.now.rows ≤ c.loop-cluster.cluster = omega (arith, c.loop-cluster-test.false, c.len-cluster-end.ensures) in
    sym (seconds_are c.args.design.now.second c.args.units.now)
    ∙ rw c.requires.layout.rows at (sym c.loop-cluster.invariant.none
    ∙ ap (first_found (second_short c.args.design.now.second c.args.units.now)) (drop_all c.loop-cluster.cluster c.args.clusters.now.rows past))

pub returns-clause-built : goal.returns-clause-built
returns-clause-built c =
    let design = c.args.design.now in
    let units = c.args.units.now in
    let layout = c.requires.layout in
    let all : c.loop-cluster.cluster ≡ length c.args.clusters.now.rows = omega (arith, c.loop-cluster.auto.cluster-end, c.loop-cluster-test.false, c.len-cluster-end.ensures) in
    let homes : c.loop-cluster.cluster ≡ length (strata_homes units (clusters design.second units)) =
    omega (arith, all, ap length layout.rows, length-map (clusters design.second units) (λ g. stratum_number units (first_row g))) in
    let firsts = rw layout.rows at (All-from_get_or (IsBuiltFirst design units) c.args.clusters.now.rows [] (λ j l. c.loop-cluster.invariant.firsts j (omega (arith, l, all)))) in
    record {
      are = all_put design units (all_rows layout) c.loop-cluster.begun.items c.loop-cluster.cluster homes (rw layout.rows at c.loop-cluster.invariant.strata);
      each = λ k l. built design units (all_rows layout) layout.frame.few firsts k (c.requires.requests k l);
    }
