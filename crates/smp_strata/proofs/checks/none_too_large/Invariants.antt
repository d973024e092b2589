use Rattle.std.proofs.Common.{◌≡◌, drop}
use Rattle.smp_strata.specs.{Rows.{is_large, psu_at}, Clusters.{first_row}, Misfits.{first_found, when}}
use Rattle.smp_strata.specs.declared.misfit.Misfit.TheVariants.{PsuTooLarge}
use Rattle.smp_strata.proofs.checks.none_too_large.Given as goal

abbrev pub invariant-loop-cluster : goal.invariant-loop-cluster
invariant-loop-cluster l =
    first_found (λ rows. when (is_large l.units l.columns rows) (PsuTooLarge (psu_at l.units (first_row rows)))) (drop l.cluster l.clusters.rows)
    ≡ first_found (λ rows. when (is_large l.units l.columns rows) (PsuTooLarge (psu_at l.units (first_row rows)))) l.clusters.rows
