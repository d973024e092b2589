-- All strata that are drawn together are a frame that can be, so what they balance is balanced.
use Rattle.std.proofs.{Common.{◌≡◌, ℕ, ◌≤◌, true, List, [], ◌∷◌, All, length, map, get_or, arith, sym, ◌∙◌}, lemmas.List.{length-map}}
use Rattle.std.proofs.{lemmas.List.Elements.{All-head, All-map}, lemmas.Option.{slice_get-get_or}}
use Rattle.smp_twostage.specs.{Totals.{IsBalancedFrame, IsFrame, columns_in}, Strata.{AreStratumUnits, StratumUnits, column_count}}
use Rattle.smp_twostage.proofs.{BalancedTogether.{each_frame_is_balanced}, Told.{balanced_count, is_stratum}}
use Rattle.smp_design.specs.Words.{row, draws_together}
use Rattle.smp_design.proofs.Rows.{balance_columns, together_balances}
use Rattle.smp_strata.specs.Plans.{Plan}
use Rattle.smp_twostage.specs.{Cubes.{balancing, frame_of}, Plans.{CanBeDrawn}}

first_columns : (columns : ℕ) (frame : List StratumUnits) → 1 ≤ length frame → All (λ s. column_count s ≡ columns) frame → columns_in frame ≡ columns
first_columns columns [] some all = absurd (omega (arith, some))
first_columns columns (s ∷ frame) some all = All-head (λ t. column_count t ≡ columns) s frame all

module _ (plan : Plan) (drawable : CanBeDrawn plan) (yes : draws_together plan.procedure.method ≡ true) where
  -- each stratum has as many balanced values a unit as the procedure says
  counted : All (λ s. column_count s ≡ plan.procedure.balance) (map balancing plan.strata)
  counted =
      All-map (λ s. column_count s ≡ plan.procedure.balance) balancing plan.strata
      (λ h d l. balanced_count plan drawable (together_balances plan.procedure.method yes) h (get_or plan.strata h d) (slice_get-get_or plan.strata h d l))

  pub is_frame : IsFrame (frame_of plan)
  is_frame =
      let together = drawable.together yes in
      let some = together.some in
      let rows = together.rows in
      let count = length-map plan.strata balancing in
      let balance = (balance_columns (row plan.procedure.method).needs plan.procedure.balance plan.procedure.near (together_balances plan.procedure.method yes) drawable.procedure.columns).0 in
      let columns : columns_in (frame_of plan) ≡ plan.procedure.balance = first_columns plan.procedure.balance (frame_of plan) (omega (arith, some, count)) counted in
      record {
        some = omega (arith, some, count);
        few = omega (arith, rows, balance, count);
        rows = omega (arith, rows, columns, count);
        each =
            All-map AreStratumUnits balancing plan.strata
            (λ h d l. is_stratum plan drawable (together_balances plan.procedure.method yes) h (get_or plan.strata h d) (slice_get-get_or plan.strata h d l));
        same = λ h d l. counted h d l ∙ sym columns;
      }

  pub is_balanced_frame : IsBalancedFrame (frame_of plan)
  is_balanced_frame = each_frame_is_balanced (frame_of plan) is_frame
