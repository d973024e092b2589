-- What a selection of all strata together starts with, and one of its only section.
use Rattle.std.proofs.Common.{◌≡◌, ℕ, ◌<◌, true, true≢false, ℤ, [], ◌∷◌, length, Some, None, arith, refl, sym, ap, subst, ◌∙◌}
use Rattle.std.specs.{Prelude.{is_some}, List.{count_by, range_with_len, slice_get}}
use Rattle.std.proofs.{lemmas.Option.{slice_get_within}, lemmas.List.{length-map}}
use Rattle.smp_frac.specs.Fractions.{Fraction, Same, integer, sum_below, times}
use Rattle.smp_frac.proofs.Arithmetic.{same_trans, sum_same}
use Rattle.smp_design.specs.Words.{draws_together}
use Rattle.smp_design.proofs.Rows.{together_balances}
use Rattle.smp_methods.specs.{declared.any.AnyState.{AnyState}, Designs.{design_of_strata, first_state}, Starts.{AreStarted}}
use Rattle.smp_split.specs.{StageStarts.{StartsInStages}, Stages.{Progress, progress, seat_value, unit_value}}
use Rattle.smp_strata.specs.{Draws.{IsFor}, Plans.{Plan}, declared.strata.Stratum.{Stratum}}
use Rattle.smp_stratcube.specs.{Counts.{selected_in}, Kept.Layers.{first_of}}
use Rattle.smp_twostage.specs.{Covered.{StartsAlone}, Cubes.{units_together}, Plans.{CanBeDrawn}, Laws.Covered.{length_together}}
use Rattle.smp_twostage.specs.{Selections.{belongs_to, layers_of, seats_together, stage_of_strata, tree_of}, Laws.Staged.{none_in}}
use Rattle.smp_twostage.specs.Starts.{StartsWhole, known, row_fraction, weighted}
use Rattle.smp_twostage.proofs.{AloneBy.{AloneBy, starts_alone_by}, DrawnTogether.{chosen, drawn_together, selected_count_is}}
use Rattle.smp_twostage.proofs.{Firsts.{start_belongs}, Frames.{is_balanced_frame}, Starts.{weighs_row}}
use Rattle.smp_twostage.proofs.StartsBy.{FirstSelectsSo, StartsBy, starts_whole_by}
use Rattle.smp_twostage.proofs.Together.{layer_in, row_value_is, run_counts, stage_member, target_adds, together_part}

module _ (plan : Plan) (drawable : CanBeDrawn plan) (yes : draws_together plan.procedure.method ≡ true)
    (started : AreStarted (layers_of plan) (record { design = design_of_strata (layers_of plan); state = first_state (design_of_strata (layers_of plan)) }))
    (starts : StartsInStages tree_of belongs_to (stage_of_strata plan ∷ []) (seats_together plan) (first_state (stage_of_strata plan).design.design ∷ [])
    (progress tree_of (stage_of_strata plan ∷ []) (first_state (stage_of_strata plan).design.design ∷ []))) where
  abbrev start : Progress AnyState
  start = progress tree_of (stage_of_strata plan ∷ []) (first_state (stage_of_strata plan).design.design ∷ [])

  one_stage : plan.second ≡ None
  one_stage = (drawable.together yes).one_stage

  row_values : (row : ℕ) → row < plan.rows
      → Same (seat_value (unit_value tree_of (stage_of_strata plan ∷ []) (first_state (stage_of_strata plan).design.design ∷ [])) (slice_get (seats_together plan) row)) (row_fraction plan row)
  row_values row l = row_value_is plan drawable started.requested one_stage row l

  firsts : (h n : ℕ) (s : Stratum) → slice_get plan.strata h ≡ Some s → IsFor s.request (length s.units) n → FirstSelectsSo true plan start h s n
  firsts h n s is fills path leaf leads done =
      let goes = starts.paths path leaf leads done in
      let drawn = drawn_together plan path leaf.states goes (stage_member plan drawable started.means).paired in
      let inside : h < length (units_together plan).firsts = omega (arith, slice_get_within plan.strata h s is, length-map plan.strata layer_in, length-map (layers_of plan) first_of) in
      let adds = target_adds plan drawable started.requested h s is started.means.member.are fills.whole in
      let number : selected_in (units_together plan) h drawn.leaf ≡ s.request.r = started.counts h s.request.r inside adds (goes.part 0) drawn.leaf drawn.leads drawn.ended in
      let free : count_by (chosen plan drawable leaf.states drawn.leaf drawn.leaf_is h s is) (range_with_len 0 (length s.request.free)) ≡ s.request.r =
      sym (run_counts plan drawable started.requested h s is started.means.member.are drawn.leaf) ∙ number in
      selected_count_is plan drawable leaf.states drawn.leaf drawn.leaf_is h s is ∙ fills.fills (chosen plan drawable leaf.states drawn.leaf drawn.leaf_is h s is) free

  unbiased : (asked : ℕ → Fraction) → ((row : ℕ) → row < plan.rows → Same (asked row) (row_fraction plan row)) → (x : ℕ → ℤ)
      → Same (sum_below (length (seats_together plan)) (λ row. times (weighted (asked row) (x row)) (seat_value (unit_value tree_of (stage_of_strata plan ∷ []) (first_state (stage_of_strata plan).design.design ∷ [])) (slice_get (seats_together plan) row))))
      (sum_below plan.rows (λ row. integer (known (asked row) (x row))))
  unbiased asked same x =
      subst (λ n. Same (sum_below (length (seats_together plan)) (λ row. times (weighted (asked row) (x row)) (seat_value (unit_value tree_of (stage_of_strata plan ∷ []) (first_state (stage_of_strata plan).design.design ∷ [])) (slice_get (seats_together plan) row)))) (sum_below n (λ row. integer (known (asked row) (x row)))))
      (length_together plan drawable)
      (sum_same (length (seats_together plan)) _ _
      (λ row l. (let within : row < plan.rows = omega (arith, l, length_together plan drawable) in
      weighs_row plan row (asked row) (seat_value (unit_value tree_of (stage_of_strata plan ∷ []) (first_state (stage_of_strata plan).design.design ∷ [])) (slice_get (seats_together plan) row)) (x row) (same row within) (row_values row within))))

  starts_by : StartsBy true plan start
  starts_by = record {
    member = starts.member;
    values = row_values;
    probability = λ row l. same_trans (starts.probability row (omega (arith, l, length_together plan drawable))) (row_values row l);
    unbiased = λ asked same x. same_trans (starts.mean (λ row. weighted (asked row) (x row))) (unbiased asked same x);
    firsts = firsts;
    seconds = λ h k n s u request is_s is_u asks fills.
        absurd (let some : is_some u.second ≡ true = ap is_some asks in true≢false (sym some ∙ none_in plan drawable one_stage h k s u is_s is_u));
    around = λ other. absurd (true≢false (sym (together_balances plan.procedure.method yes) ∙ other));
    paths = starts.paths;
    cubes = λ balance apart. absurd (true≢false (sym yes ∙ apart));
    drawn = λ _ path ends goes. drawn_together plan path ends goes (stage_member plan drawable started.means).paired;
    balanced = λ _. is_balanced_frame plan drawable yes;
  }

  -- all strata
  pub whole_together : StartsWhole plan start
  whole_together = starts_whole_by plan drawable start (subst (λ b. StartsBy b plan start) (sym yes) starts_by)

  -- the one section
  alone_by : AloneBy true plan 0 start
  alone_by = record {
    member = starts.member;
    values = row_values;
    probability = λ row l. same_trans (starts.probability row (omega (arith, l, length_together plan drawable))) (row_values row l);
    others = λ row l other. absurd (true≢false other);
    part = together_part plan drawable yes;
    state = refl;
  }

  pub alone_together : (h : ℕ) → h ≡ 0 → StartsAlone plan h start
  alone_together h first =
      subst (λ n. StartsAlone plan n start) (sym first)
      (starts_alone_by plan (start_belongs plan drawable) 0 start (subst (λ b. AloneBy b plan 0 start) (sym yes) alone_by))
