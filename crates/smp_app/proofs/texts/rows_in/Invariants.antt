use Rattle.std.proofs.Common.{◌≡◌, ◌+◌, ◌-◌, ◌≤◌, Some}
use Rattle.std.specs.List.{count_by, range_with_len}
use Rattle.smp_twostage.specs.Selections.{is_of_section}
use Rattle.smp_plan.specs.{Plans.{survey_plan}, Planned.{plan_view}}
use Rattle.smp_app.specs.Drawn.{rows_by}
use Rattle.smp_app.proofs.texts.rows_in.Given as goal

-- the rows so far, and those among the others
abbrev pub invariant-loop-row : goal.invariant-loop-row
invariant-loop-row l = record {
  small : l.rows ≤ l.row;
  counted : l.rows + count_by (is_of_section (survey_plan (plan_view l.plan)) l.stratum) (range_with_len l.row (l.units - l.row)) ≡ rows_by (plan_view l.plan) (Some l.stratum);
}
