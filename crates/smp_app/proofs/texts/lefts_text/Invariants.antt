use Rattle.std.proofs.Common.{◌≡◌, ◌++◌, length}
use Rattle.std.specs.Prelude.{string_bytes}
use Rattle.smp_twostage.specs.Selections.{covers}
use Rattle.smp_app.specs.{Drawn.{covered}, Kept.Stages.{selection_view}, Texts.{left_text, lefts_text}}
use Rattle.smp_plan.specs.{Plans.{survey_plan}, Planned.{plan_view}}
use Rattle.smp_twostage.proofs.Numbers.{lines_from}
use Rattle.smp_app.proofs.texts.lefts_text.Given as goal

-- the text so far, and that of the other strata that are covered
abbrev pub invariant-loop-stratum : goal.invariant-loop-stratum
invariant-loop-stratum l =
    let drawn = selection_view (plan_view l.plan) l.selection in
    string_bytes l.text ++ lines_from (left_text drawn) (covers (covered drawn)) (length (survey_plan (plan_view l.plan)).strata) l.stratum
    ≡ lefts_text drawn
