-- What is put of a draw: its report.
use Rattle.std.specs.Prelude.{◌≡◌, ℕ, true, false, Bool, List, [], ◌∷◌, Some}
use Rattle.std.specs.List.{slice_get}
use Rattle.smp_io.specs.Sink.{with_bytes}
use Rattle.smp_values.specs.Values.{is_one}
use Rattle.smp_moves.specs.Cubes.{left_in, values_in}
use Rattle.smp_stratcube.specs.Values as together
use Rattle.smp_twostage.specs.Strata.{StratumUnits}
use Rattle.smp_twostage.specs.DrawnLines as balance
use Rattle.smp_twostage.specs.Reports.{TellsColumn}
use Rattle.smp_design.specs.Words.{balances, draws_together}
use Rattle.smp_strata.specs.declared.strata.Stratum.{Stratum}
use Rattle.smp_twostage.specs.Cubes.{balancing, frame_of, leaf_of}
use Rattle.smp_twostage.specs.Lines.{told}
use Rattle.smp_plan.specs.Plans.{survey_plan}
use Rattle.smp_app.specs.Drawn.{Drawn, covered}
use Rattle.smp_app.specs.Draws.{KeepsBalance}
use Rattle.smp_app.specs.Texts.{report_text}
use Rattle.smp_app.specs.Answers.{Outside}

-- What is told of a stratum, or of all strata together: of each column the estimate where these free units are selected, and the known
-- total; and how many units were fractional where the landing began.
pub record TellsSection (lines : balance.Drawn) (frame : List StratumUnits) (selected : ℕ → Bool)
    (fractional : ℕ) : Type 0 where
  pub columns : (column : ℕ) → TellsColumn lines frame selected column
  pub left : lines.left ≡ fractional

-- The report tells what was drawn where the method balances: of each stratum that is drawn by the cube or the local cube, or of all strata
-- together, the estimates at their leaf and what was left to its landing.
pub record TellsBalance (drawn : Drawn) (kept : KeepsBalance drawn) : Type 0 where
  pub cubes : (balanced : balances drawn.plan.design.procedure.method ≡ true)
      (apart : draws_together drawn.plan.design.procedure.method ≡ false) (h : ℕ) (s : Stratum)
      (is : slice_get (survey_plan drawn.plan).strata h ≡ Some s)
      → let leaf = leaf_of (kept.cubes balanced apart h s is).drawn_so in
      TellsSection (told (covered drawn) drawn.leaf.states h) (balancing s ∷ [])
      (is_one (values_in leaf)) (left_in leaf)
  pub together : (all : draws_together drawn.plan.design.procedure.method ≡ true)
      → let leaf = (kept.together all).drawn_so.leaf in
      TellsSection (told (covered drawn) drawn.leaf.states 0) (frame_of (survey_plan drawn.plan))
      (together.is_one (values_in leaf)) (left_in leaf)

-- The report of what is drawn was put, and it tells that.
pub record IsReported (drawn : Drawn) (kept : KeepsBalance drawn) (before now : Outside)
    : Type 0 where
  pub put : now.put ≡ with_bytes (report_text drawn) before.put
  pub tells : TellsBalance drawn kept
