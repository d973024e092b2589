use Rattle.std.proofs.{Common.{◌≡◌, ◌∙◌, ◌<◌, [], arith, length, refl, sym}, lemmas.List.{get_or-map}}
use Rattle.smp_frame.specs.declared.frame.Unit as unit
use Rattle.smp_strata.specs.{Clusters.{first_row}, Misfits.{when}, Rows.{is_large, psu_at}}
use Rattle.smp_strata.specs.declared.misfit.Misfit.TheVariants.{PsuTooLarge}
use Rattle.smp_strata.proofs.Founds.{found_from_place}
use Rattle.smp_strata.proofs.checks.none_too_large.Goals as goal

pub returns-then-is_large : goal.returns-then-is_large
returns-then-is_large c =
    let here : c.loop-cluster.cluster < length c.args.clusters.now.rows = omega (arith, c.loop-cluster-test.true, c.len-cluster-end.ensures) in
    let own = rw (← c.rows-rows.ensures) at (c.requires.rows c.loop-cluster.cluster [] here) in
    let first : first_row c.rows-rows.result.now < length c.args.units.now = own.within 0 0 (omega (arith, own.some)) in
    let psu : c.in_ok-copy.field-0 ≡ psu_at c.args.units.now (first_row c.rows-rows.result.now) =
    c.in_ok-copy.ensures ∙ sym (get_or-map (λ (u : unit.Unit). u.psu) c.args.units.now (first_row c.rows-rows.result.now) c.index-units-rows.result [] first) in
    sym c.loop-cluster.invariant
    ∙ found_from_place (λ rows. when (is_large c.args.units.now c.args.columns rows) (PsuTooLarge (psu_at c.args.units.now (first_row rows)))) c.args.clusters.now.rows c.loop-cluster.cluster [] here
    ∙ rw (← c.rows-rows.ensures, ← c.if-is_large.ensures, psu) refl

pub loop-cluster-preserved : goal.loop-cluster-preserved
loop-cluster-preserved c =
    let here : c.loop-cluster.cluster < length c.args.clusters.now.rows = omega (arith, c.loop-cluster-test.true, c.len-cluster-end.ensures) in
    sym (found_from_place (λ rows. when (is_large c.args.units.now c.args.columns rows) (PsuTooLarge (psu_at c.args.units.now (first_row rows)))) c.args.clusters.now.rows c.loop-cluster.cluster [] here
    ∙ rw (← c.rows-rows.ensures, ← c.if-is_large.ensures) refl)
    ∙ c.loop-cluster.invariant
