use Rattle.std.proofs.Common.{◌≡◌, ℕ, ◌<◌, length}
use Rattle.std.specs.Prelude.{slice_index_or}
use Rattle.smp_twostage.specs.Selections.{place_of}
use Rattle.smp_joint.specs.{Rows.{StandsAt}, declared.row.Row.{Row}}
use Rattle.smp_joint.proofs.pairs.rows_of.Given as goal

abbrev pub invariant-loop-row : goal.invariant-loop-row
invariant-loop-row l =
    (length l.rows.items ≡ l.row)
    × ((k : ℕ) (d : Row) → k < l.row → StandsAt l.plan.strata (place_of l.plan.strata k) (slice_index_or l.rows.items k d))
