-- By any plan that can be drawn each stage starts in its first state, and the state before the first step is one of the selection.
use Rattle.std.proofs.Common.{◌≡◌, ℕ, zero, suc, ◌<◌, true, ℤ, List, [], ◌∷◌, length, map, get_or, take, drop, Option, Some, None, All, refl, sym, ap, subst, ◌∙◌, inl, inr}
use Rattle.std.specs.{Prelude.{IfSome, option_map}, List.{slice_get}}
use Rattle.std.proofs.{lemmas.Bool.{cases_Bool}, lemmas.List.{length-map}}
use Rattle.std.proofs.lemmas.List.Elements.{All-append, All-cons, All-drop, All-get_or, All-map, All-nil, All-take, All-weaker}
use Rattle.std.proofs.lemmas.Option.{get_or_from_slice_get, same_Some, slice_get-get_or, slice_get-map, slice_get_within}
use Rattle.smp_prob.specs.{declared.requests.Request.{Request}, Inclusions.{IsRising}}
use Rattle.smp_values.proofs.Requests.{adds_to_draws}
use Rattle.smp_design.specs.{declared.method.Method.{Method}, Procedures.{without_values}, Words.{draws_together}}
use Rattle.smp_design.proofs.Rows.{bare}
use Rattle.smp_design.specs.declared.procedure.Procedure.{Procedure}
use Rattle.smp_methods.specs.{Designs.{design_of, design_of_strata, first_state}, Methods.{method_of}, Starts.{AreStarted, IsStarted}}
use Rattle.smp_methods.proofs.{Columns.{takes_none}, Firsts.{is_first}, Starts.{are_started}, Wholes.{needs_of, needs_whole}}
use Rattle.smp_split.specs.{declared.places.Stage.{Stage}, Stages.{EachBelongs}}
use Rattle.smp_strata.specs.{Bounds.{IsFirst, DrawsWholeOver}, Plans.{Plan}, declared.strata.FirstUnit.{FirstUnit}}
use Rattle.smp_strata.specs.declared.strata.Stratum.{Stratum}
use Rattle.smp_twostage.specs.{Strata.{free_values}, Kept.Stages.{EachStarts, IsPlanned, StageStarts}, Plans.{CanBeDrawn, TakesRows}}
use Rattle.smp_stratcube.specs.{Layers.{IsLayer, no_layer}, Kept.Layers.{layer_of}, Units.{IsUnits, units_of}}
use Rattle.smp_stratcube.proofs.{Balances.{strat_balanced}, WholeStrata.{has_counts}, Layered.{units_are}, Starting.{are_requested, strat_means}}
use Rattle.smp_stratcube.proofs.Stored.{layer_is}
use Rattle.smp_twostage.specs.Selections.{BelongsToCovered, BelongsToWhole, Selecting, balancing, belongs_to, covered_stages, covered_start, covered_states, first_stage, free_points, layers_of, parts_by, second_stage, stage_by, stage_of_strata, stage_within, stages_below, stages_in, stages_of, stages_within, start_of, tree_of}
use Rattle.smp_twostage.specs.Kept.Sides.{states_of}
use Rattle.smp_twostage.proofs.{Columns.{is_planned, takes_free}, Layers.{are_layers, numbers, one_each}, Starts.{each_belongs}}
use Rattle.smp_twostage.proofs.Together.{stage_first}

-- a stage starts in its first state
abbrev Own : Stage Selecting → Type 0
Own stage = StageStarts stage.design (first_state stage.design.design)

-- as the design of its request starts
stage_starts : (way : Procedure) (units : ℕ) (request : Request) (values points : List (List ℤ)) → IsRising request
    → IsStarted way request values points (record { design = design_of way request values points; state = first_state (design_of way request values points) })
    → StageStarts (record { units = units; request = request; design = design_of way request values points }) (first_state (design_of way request values points))
stage_starts way units request values points rising starts = record {
  is = refl;
  member = record { member = starts.starts.means.member; ordered = rising; paired = sym starts.requested.units };
  serves = record { values = starts.requested.values; count = starts.starts.count };
  adds_up = adds_to_draws (method_of (design_of way request values points)).tree request (first_state (design_of way request values points)) starts.requested;
  around = starts.around;
}

module _ (plan : Plan) where
  -- ---- a stratum's first stage

  first_own : (s : Stratum) → IsPlanned plan s → Own (first_stage plan s)
  first_own s planned =
      stage_starts plan.procedure (length s.units) s.request (free_values (balancing s)) (free_points s) planned.stratum.over.rising
      (is_first plan.procedure s.request (free_values (balancing s)) (free_points s) planned.stratum.over.sound
      (needs_of plan.procedure s.request planned.whole) (takes_free plan s planned (free_values (balancing s)) (free_points s) (λ _. refl) (λ _. refl)))

  -- ---- a second stage

  second_own : (method : Method) (request : Request) (rows at k : ℕ) → TakesRows method → DrawsWholeOver rows request → Own (second_stage method request rows at k)
  second_own method request rows at k takes over =
      stage_starts (without_values method) rows request [] [] over.over.rising
      (is_first (without_values method) request [] [] over.over.sound
      (needs_whole (without_values method) request over.whole) (takes_none method request (bare method takes)))

  by_request : (method : Option Method) (request : Option Request) (rows at k : ℕ) → IfSome method TakesRows → IfSome request (DrawsWholeOver rows) → All Own (stage_by method request rows at k)
  by_request (Some method) (Some request) rows at k takes over =
      All-cons Own (second_stage method request rows at k) [] (second_own method request rows at k takes over) (All-nil Own)
  by_request (Some method) None rows at k takes over = All-nil Own
  by_request None request rows at k takes over = All-nil Own

  unit_own : (s : Stratum) → IsPlanned plan s → (at k : ℕ) (u : Option FirstUnit) → slice_get s.units k ≡ u → All Own (stage_within plan.second at k u)
  unit_own s planned at k None is = All-nil Own
  unit_own s planned at k (Some u) is =
      let within = slice_get_within s.units k u is in
      let first : IsFirst plan.second u = subst (IsFirst plan.second) (get_or_from_slice_get s.units k u u is) (All-get_or (IsFirst plan.second) s.units k u within planned.stratum.firsts) in
      by_request plan.second u.second (length u.rows) at k planned.second first.over

  within_own : (s : Stratum) → IsPlanned plan s → (at n : ℕ) → All Own (stages_within plan.second at s.units n)
  within_own s planned at zero = All-nil Own
  within_own s planned at (suc n) =
      All-append Own (stages_within plan.second at s.units n) (stage_within plan.second at n (slice_get s.units n)) (within_own s planned at n) (unit_own s planned at n (slice_get s.units n) refl)

  -- ---- all stages

  module _ (planned : All (IsPlanned plan) plan.strata) where
    stratum_own : (h at : ℕ) (s : Option Stratum) → slice_get plan.strata h ≡ s → All Own (stages_in plan at s)
    stratum_own h at None is = All-nil Own
    stratum_own h at (Some s) is =
        let here : IsPlanned plan s = subst (IsPlanned plan) (get_or_from_slice_get plan.strata h s s is) (All-get_or (IsPlanned plan) plan.strata h s (slice_get_within plan.strata h s is) planned) in
        All-cons Own (first_stage plan s) (stages_within plan.second at s.units (length s.units)) (first_own s here) (within_own s here at (length s.units))

    below_own : (n : ℕ) → All Own (stages_below plan n)
    below_own zero = All-nil Own
    below_own (suc n) =
        All-append Own (stages_below plan n) (stages_in plan (length (stages_below plan n)) (slice_get plan.strata n)) (below_own n) (stratum_own n (length (stages_below plan n)) (slice_get plan.strata n) refl)

    stages_own : All Own (stages_of plan)
    stages_own = below_own (length plan.strata)

each_own : (stages : List (Stage Selecting)) → All Own stages → EachStarts stages (map (λ stage. first_state stage.design.design) stages)
each_own stages all = record {
  paired = length-map stages (λ stage. first_state stage.design.design);
  each = λ i stage state is_stage is_state.
      (let own : Own stage = subst Own (get_or_from_slice_get stages i stage stage is_stage) (All-get_or Own stages i stage (slice_get_within stages i stage is_stage) all) in
      let first : slice_get (map (λ (t : Stage Selecting). first_state t.design.design) stages) i ≡ Some (first_state stage.design.design) =
      slice_get-map (λ (t : Stage Selecting). first_state t.design.design) stages i ∙ ap (option_map (λ (t : Stage Selecting). first_state t.design.design)) is_stage in
      subst (StageStarts stage.design) (same_Some (first_state stage.design.design) state (sym first ∙ is_state)) own);
}

module _ (plan : Plan) (drawable : CanBeDrawn plan) where
  all_planned : All (IsPlanned plan) plan.strata
  all_planned h d l = is_planned plan drawable h (get_or plan.strata h d) (slice_get-get_or plan.strata h d l)

  -- so are those of a part of the plan
  part_planned : (h : ℕ) → All (IsPlanned (parts_by plan (Some h))) (parts_by plan (Some h)).strata
  part_planned h =
      All-weaker (IsPlanned plan) (IsPlanned (parts_by plan (Some h))) (λ s p. record { procedure = p.procedure; second = p.second; stratum = p.stratum; whole = p.whole; counted = p.counted }) (take 1 (drop h plan.strata))
      (All-take (IsPlanned plan) 1 (drop h plan.strata) (All-drop (IsPlanned plan) h plan.strata all_planned))

  -- ---- the stage of all strata

  module _ (same : draws_together plan.procedure.method ≡ true) where
    stratum_layer : (h : ℕ) (s : Stratum) → slice_get plan.strata h ≡ Some s → IsLayer (layer_of s.request (free_values (balancing s)))
    stratum_layer h s is =
        layer_is s.request (is_planned plan drawable h s is).stratum.over.sound (free_values (balancing s)) (one_each plan drawable same h s is) (numbers plan drawable same h s is)

    each_layer : All IsLayer (layers_of plan)
    each_layer =
        All-map IsLayer (λ (s : Stratum). layer_of s.request (free_values (balancing s))) plan.strata
        (λ h d l. stratum_layer h (get_or plan.strata h d) (slice_get-get_or plan.strata h d l))

    each_is : (h : ℕ) → h < length (layers_of plan) → IsLayer (get_or (layers_of plan) h no_layer)
    each_is h l = All-get_or IsLayer (layers_of plan) h no_layer l each_layer

    are_units : IsUnits (units_of (layers_of plan))
    are_units = units_are (layers_of plan) (are_layers plan drawable same) each_is

    pub together_started : AreStarted (layers_of plan) (record { design = design_of_strata (layers_of plan); state = first_state (design_of_strata (layers_of plan)) })
    together_started =
        are_started (layers_of plan) (design_of_strata (layers_of plan)) (first_state (design_of_strata (layers_of plan))) refl
        (are_requested (layers_of plan) (are_layers plan drawable same) each_is) refl (strat_means (units_of (layers_of plan)) are_units).member
        (has_counts (units_of (layers_of plan)) are_units, strat_balanced (units_of (layers_of plan)) are_units)

    pub together_belongs : EachBelongs tree_of belongs_to (stage_of_strata plan ∷ []) (first_state (stage_of_strata plan).design.design ∷ [])
    together_belongs = (stage_first plan drawable together_started.means).belong

  -- ---- the start

  pub each_starts : EachStarts (stages_of plan) (states_of plan)
  each_starts = each_own (stages_of plan) (stages_own plan all_planned)

  part_starts : (h : ℕ) → EachStarts (stages_of (parts_by plan (Some h))) (states_of (parts_by plan (Some h)))
  part_starts h = each_own (stages_of (parts_by plan (Some h))) (stages_own (parts_by plan (Some h)) (part_planned h))

  covered_own : (only : Option ℕ) → EachBelongs tree_of belongs_to (covered_stages (record { plan = plan; only = only })) (covered_states (record { plan = plan; only = only }))
  covered_own only = elim (cases_Bool (draws_together plan.procedure.method)) [
    | inl same ↦ rw same (together_belongs same)
    | inr apart ↦ rw apart (by_number only)
  ]
    where
      by_number : (only : Option ℕ) → EachBelongs tree_of belongs_to (stages_of (parts_by plan only)) (states_of (parts_by plan only))
      by_number None = each_belongs (stages_of plan) (states_of plan) each_starts
      by_number (Some h) = each_belongs (stages_of (parts_by plan (Some h))) (states_of (parts_by plan (Some h))) (part_starts h)

  pub covered_belongs : (only : Option ℕ) → BelongsToCovered (record { plan = plan; only = only }) (covered_start (record { plan = plan; only = only }))
  covered_belongs only = record { drawable = drawable; member = record { states = covered_own only; at = refl } }

  -- a plan that can be drawn is drawn from a state of its own
  pub start_belongs : BelongsToWhole plan (start_of plan)
  start_belongs = covered_belongs None
