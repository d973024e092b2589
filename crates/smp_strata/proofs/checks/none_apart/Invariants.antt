use Rattle.std.proofs.Common.{◌≡◌, ◌<◌, ℕ, None}
use Rattle.std.specs.List.{range_with_len}
use Rattle.smp_strata.specs.{Clusters.{first_row, in_psu}, Rows.{psu_at, stratum_at}, Misfits.{first_found, is_apart, when}}
use Rattle.smp_strata.specs.declared.misfit.Misfit.TheVariants.{UnitInTwo}
use Rattle.smp_strata.proofs.checks.none_apart.Given as goal

abbrev pub invariant-loop-row : goal.invariant-loop-row
invariant-loop-row l = record {
  none : first_found (λ row. when (is_apart l.units row) (UnitInTwo (psu_at l.units row))) (range_with_len 0 l.row) ≡ None;
  together : (earlier : ℕ) → earlier < l.row → stratum_at l.units (first_row (in_psu l.units (psu_at l.units earlier))) ≡ stratum_at l.units earlier;
}
