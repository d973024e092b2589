-- By every method that doesn't balance, the first stage of a stratum selects one of the whole numbers of units around the expected one.
use Rattle.std.proofs.{Common.{◌≡◌, ℕ, true, false, List, length, Some, arith, refl, subst}, lemmas.Option.{slice_get_within}}
use Rattle.std.specs.List.{slice_get}
use Rattle.smp_frac.specs.{Bounds.{IsAround}, Fractions.{Same, whole, times}}
use Rattle.smp_frac.proofs.{Around.{around_same}, Arithmetic.{same_sym, same_trans, one-times, sum_same}}
use Rattle.smp_prob.specs.Inclusions.{asked_fraction}
use Rattle.smp_split.specs.{Counts.{LeavesSelectAround, selected_count}, Means.{value_sum}, Paths.{AtEachLeaf}, Stages.{is_drawn, progress}}
use Rattle.smp_split.proofs.{RowsAround.{rows_around}, RowsAsked.{value_is_asked}}
use Rattle.smp_design.specs.Words.{balances}
use Rattle.smp_methods.specs.{declared.any.AnyState.{AnyState}, Methods.{method_of}}
use Rattle.smp_methods.proofs.Ways.{around_unless}
use Rattle.smp_split.specs.{StagePaths.{GoesByStages, IsStagePath}, Laws.Reads.{some_within}}
use Rattle.smp_strata.specs.{Draws.{expected_firsts}, Plans.{Plan}, declared.strata.Stratum.{Stratum}}
use Rattle.smp_twostage.specs.{Kept.Stages.{EachStarts, StageStarts}, Plans.{CanBeDrawn}, Strata.{free_values}}
use Rattle.smp_twostage.specs.Selections.{Selecting, balancing, first_number, first_stage, free_points, stages_of, tree_of}
use Rattle.smp_twostage.specs.Laws.Numbering.{first_there}
use Rattle.smp_twostage.proofs.{Columns.{is_planned}, StartsBy.{FirstSelectsAroundSo, tree_so}}

module _ (plan : Plan) (drawable : CanBeDrawn plan) (other : balances plan.procedure.method ≡ false) (states : List AnyState) (each : EachStarts (stages_of plan) states)
    (h : ℕ) (s : Stratum) (is : slice_get plan.strata h ≡ Some s) where
  abbrev at : ℕ
  at = first_number plan h

  abbrev own : Selecting
  own = (first_stage plan s).design

  there : slice_get (stages_of plan) at ≡ Some (first_stage plan s)
  there = first_there plan h s is

  abbrev first : (state : AnyState) × (slice_get states at ≡ Some state)
  first = some_within states at (let within = slice_get_within (stages_of plan) at (first_stage plan s) there in omega (arith, each.paired, within))

  starts : StageStarts own first.0
  starts = each.each at (first_stage plan s) first.0 there first.1

  -- the values of its units add up to the expected number
  expected : Same (value_sum (tree_of own) (λ _. whole 1) first.0) (expected_firsts s)
  expected =
      sum_same (length s.units) (λ k. times (whole 1) ((tree_of own).value first.0 k)) (asked_fraction s.request)
      (λ k _. same_trans (one-times ((tree_of own).value first.0 k)) (value_is_asked (length s.units) s.request (method_of own.design).tree first.0 starts.serves k))

  own_around : LeavesSelectAround (tree_of own) first.0
  own_around =
      let over = (is_planned plan drawable h s is).stratum.over in
      rows_around (length s.units) s.request (λ u l. over.free u 0 l) over.apart (method_of own.design).tree starts.member.paired (method_of own.design).belongs first.0
      (around_unless plan.procedure s.request (free_values (balancing s)) (free_points s) first.0 other starts.around)

  module _ (start_paths : AtEachLeaf (tree_so false plan) (progress tree_of (stages_of plan) states) (λ path leaf. GoesByStages tree_of (stages_of plan) states path leaf.states)) where
    pub firsts_around : FirstSelectsAroundSo false plan (progress tree_of (stages_of plan) states) h s
    firsts_around path leaf leads done =
        let goes = start_paths path leaf leads done in
        let within = slice_get_within (stages_of plan) at (first_stage plan s) there in
        let last = some_within leaf.states at (omega (arith, goes.paired, within)) in
        let drawn : is_drawn tree_of (stages_of plan) leaf.states at ≡ true = rw there refl in
        let part : IsStagePath true (tree_of own) first.0 (goes.part at) last.0 =
        subst (λ b. IsStagePath b (tree_of own) first.0 (goes.part at) last.0) drawn (goes.each at (first_stage plan s) first.0 last.0 there first.1 last.1) in
        let around : IsAround (selected_count (tree_of own) last.0) (expected_firsts s) =
        around_same (selected_count (tree_of own) last.0) (same_sym expected) (own_around (goes.part at) last.0 part.0 part.1) in
        rw (drawn, there, last.1) around
