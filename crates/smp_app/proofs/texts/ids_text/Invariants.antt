use Rattle.std.proofs.Common.{◌≡◌, ◌++◌, drop, Some, option_map}
use Rattle.std.specs.List.{flat_map}
use Rattle.smp_plan.specs.Planned.{plan_view}
use Rattle.smp_app.specs.{Kept.Stages.{selection_view}, Texts.{id_row, ids_text}}
use Rattle.smp_app.proofs.texts.ids_text.Given as goal

abbrev pub invariant-loop-row : goal.invariant-loop-row
invariant-loop-row l =
    option_map (λ text. text ++ flat_map (id_row (plan_view l.plan)) (drop l.row-index l.selection.rows.items)) l.rows
    ≡ Some (ids_text (selection_view (plan_view l.plan) l.selection))
