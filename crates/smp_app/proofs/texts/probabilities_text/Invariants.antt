use Rattle.std.proofs.Common.{◌≡◌, ◌++◌, drop, length, Some, option_map}
use Rattle.std.specs.List.{flat_map, range_with_len}
use Rattle.smp_plan.specs.Planned.{plan_view}
use Rattle.smp_app.specs.Texts.{probability_row, probabilities_text}
use Rattle.smp_app.proofs.texts.probabilities_text.Given as goal

abbrev pub invariant-loop-row : goal.invariant-loop-row
invariant-loop-row l =
    option_map (λ text. text ++ flat_map (probability_row (plan_view l.plan)) (drop l.row (range_with_len 0 (length l.plan.frame)))) l.rows
    ≡ Some (probabilities_text (plan_view l.plan))
