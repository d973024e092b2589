-- A path of the one stage of all strata is one of the method's own paths, and which units are selected at its leaf.
use Rattle.std.proofs.Common.{◌≡◌, ℕ, ◌+◌, ◌<◌, Bool, true, false, List, [], ◌∷◌, length, get_or, Option, Some, None, All, arith, refl, sym, ap, ap₂, subst, ◌∙◌}
use Rattle.std.specs.{Prelude.{cond}, List.{count_by, range_with_len, slice_get}}
use Rattle.std.proofs.{lemmas.List.Elements.{All-from_get_or, All-head, All-tail}, lemmas.List.Sums.{sum_by-cons}}
use Rattle.std.proofs.lemmas.List.FromFn.{length-range_with_len, get_or-range_with_len}
use Rattle.smp_prob.specs.{declared.inclusions.Inclusion.{Inclusion}, declared.inclusions.Inclusion.TheVariants.{Certain, Free, Never}}
use Rattle.smp_prob.specs.Inclusions.{count_taken, inclusion, is_taken}
use Rattle.smp_split.specs.{Embeds.{embedded}, Lenses.{as_unit}, Paths.{Entry}, Trees.{Tree}, Laws.Lenses.{came_whole}, Rows.{rows_tree}}
use Rattle.smp_split.proofs.Embeds.{embedded_lens, embedded_closes}
use Rattle.smp_split.specs.{Laws.Rows.{row_view, rows_lens, rows_close}, StagePaths.{GoesByStages, IsStagePath}, Stages.{read}}
use Rattle.smp_methods.specs.{declared.any.AnyState.{AnyState}, Designs.{first_state}}
use Rattle.smp_methods.specs.declared.any.AnyState.TheVariants as states
use Rattle.smp_split.specs.Laws.Reads.{some_within}
use Rattle.smp_strata.specs.{Plans.{Plan}, declared.strata.Stratum.{Stratum}}
use Rattle.smp_moves.specs.Cubes.{values_in}
use Rattle.smp_stratcube.specs.{States.{Balancing, started}, Cube.{strat_tree}, Values.{is_one}}
use Rattle.smp_twostage.specs.{Cubes.{IsDrawnTogether, units_together}, Plans.{CanBeDrawn}}
use Rattle.smp_twostage.specs.Selections.{request_over, stage_of_strata, tree_of, unit_count, units_before}
use Rattle.smp_twostage.proofs.{Columns.{are_over}, OverAll.{free_before, stands_behind, stands_over}, StartsBy.{first_so}}

abbrev strata_out : AnyState → Option Balancing
strata_out = elim [ states.StratifiedCube state ↦ Some state | other ↦ None ]

module _ (plan : Plan) (path : List Entry) (ends : List AnyState)
    (goes : GoesByStages tree_of (stage_of_strata plan ∷ []) (first_state (stage_of_strata plan).design.design ∷ []) path ends) where
  abbrev last : (state : AnyState) × (slice_get ends 0 ≡ Some state)
  last = some_within ends 0 (omega (arith, goes.paired))

  own : IsStagePath true (tree_of (stage_of_strata plan).design) (first_state (stage_of_strata plan).design.design) (goes.part 0) last.0
  own = goes.each 0 (stage_of_strata plan) (first_state (stage_of_strata plan).design.design) last.0 refl refl last.1

  abbrev outer : Tree AnyState
  outer = embedded states.StratifiedCube strata_out (strat_tree (units_together plan))

  -- the path is one of the cube over all strata
  pub drawn_together : length (request_over plan.strata).free ≡ length (units_together plan).members → IsDrawnTogether plan (goes.part 0) ends
  drawn_together paired =
      let rows = came_whole outer (λ _. Unit {0}) (rows_tree (unit_count plan.strata) (request_over plan.strata) outer) (λ t. t) (λ row. row_view (inclusion (request_over plan.strata) row))
      (rows_lens (unit_count plan.strata) (request_over plan.strata) outer (λ _. Unit {0}) paired) (rows_close (unit_count plan.strata) (request_over plan.strata) outer (λ _. Unit {0}))
      (goes.part 0) (states.StratifiedCube (started (units_together plan))) last.0 own.0 in
      let cubes = came_whole (strat_tree (units_together plan)) (λ _. Unit {0}) outer states.StratifiedCube (λ k. as_unit k)
      (embedded_lens states.StratifiedCube strata_out (strat_tree (units_together plan)) (λ _. refl) (λ _. Unit {0}))
      (embedded_closes states.StratifiedCube strata_out (strat_tree (units_together plan)) (λ _. refl) (λ _. Unit {0}))
      (goes.part 0) (started (units_together plan)) rows.inside rows.leads in
      let same : last.0 ≡ states.StratifiedCube cubes.inside = rows.is ∙ cubes.is in
      record {
        leaf = cubes.inside;
        leaf_is = last.1 ∙ ap Some same;
        leads = cubes.leads;
        ended = subst (λ (t : AnyState). outer.done t ≡ true) same own.1;
      }

-- ---- which units are selected

pub taken_behind : (chosen : ℕ → Bool) (before : ℕ) (i : Inclusion) → is_taken chosen (stands_behind before i) ≡ is_taken (λ unit. chosen (before + unit)) i
taken_behind chosen before Certain = refl
taken_behind chosen before (Free unit) = refl
taken_behind chosen before Never = refl

counts_same : (p q : ℕ → Bool) (xs : List ℕ) → All (λ x. p x ≡ q x) xs → count_by p xs ≡ count_by q xs
counts_same p q [] same = refl
counts_same p q (x ∷ xs) same =
    sum_by-cons (λ (y : ℕ). cond (p y) 1 0) x xs
    ∙ ap₂ (λ (b : Bool) (n : ℕ). cond b 1 0 + n) (All-head (λ y. p y ≡ q y) x xs same) (counts_same p q xs (All-tail (λ y. p y ≡ q y) x xs same))
    ∙ sym (sum_by-cons (λ (y : ℕ). cond (q y) 1 0) x xs)

module _ (plan : Plan) (drawable : CanBeDrawn plan) (ends : List AnyState) (leaf : Balancing) (leaf_is : slice_get ends 0 ≡ Some (states.StratifiedCube leaf))
    (h : ℕ) (s : Stratum) (is : slice_get plan.strata h ≡ Some s) where
  -- the free units of the stratum that are selected
  abbrev pub chosen : ℕ → Bool
  chosen unit = is_one (values_in leaf) (free_before plan.strata h + unit)

  pub selected_at : (k : ℕ) → k < length s.units → first_so true plan ends h k ≡ is_taken chosen (inclusion s.request k)
  selected_at k l =
      ap (λ o. read tree_of false (λ tree t. tree.selected t (units_before plan.strata h + k)) (Some (stage_of_strata plan)) o) leaf_is
      ∙ ap (is_taken (is_one (values_in leaf))) (stands_over plan.strata (are_over plan drawable) h k s is l)
      ∙ taken_behind (is_one (values_in leaf)) (free_before plan.strata h) (inclusion s.request k)

  -- so many units of the stratum are selected as the request fills with them
  pub selected_count_is : count_by (first_so true plan ends h) (range_with_len 0 (length s.units)) ≡ count_taken s.request chosen (length s.units)
  selected_count_is =
      counts_same (first_so true plan ends h) (λ k. is_taken chosen (inclusion s.request k)) (range_with_len 0 (length s.units))
      (All-from_get_or (λ k. first_so true plan ends h k ≡ is_taken chosen (inclusion s.request k)) (range_with_len 0 (length s.units)) 0
      (λ i l. let within : i < length s.units = omega (arith, l, length-range_with_len 0 (length s.units)) in
      let number : i ≡ get_or (range_with_len 0 (length s.units)) i 0 = omega (arith, get_or-range_with_len 0 (length s.units) i 0 within) in
      subst (λ k. first_so true plan ends h k ≡ is_taken chosen (inclusion s.request k)) number (selected_at i within)))
