use Rattle.std.proofs.Common.{◌≡◌, ◌++◌, drop, map, Some, option_map}
use Rattle.std.specs.List.{flat_map}
use Rattle.smp_weights.specs.Sample.{sample_row_of}
use Rattle.smp_plan.specs.Planned.{plan_view}
use Rattle.smp_app.specs.{Kept.Stages.{selection_view}, Texts.{weighted_row, sample_text}}
use Rattle.smp_app.proofs.texts.sample_text.Given as goal

abbrev pub invariant-loop-row : goal.invariant-loop-row
invariant-loop-row l =
    option_map (λ text. text ++ flat_map sample_row_of (drop l.row-index (map (weighted_row (plan_view l.plan)) l.selection.rows.items))) l.rows
    ≡ Some (sample_text (selection_view (plan_view l.plan) l.selection))
