-- A selection by a method starts one among all methods.
use Rattle.std.proofs.Common.{◌≡◌, ℕ, false, ℤ, List, [], ◌∷◌, Option, Some, None, arith, refl, ap, sym, subst, ◌∙◌, inl, inr}
use Rattle.std.specs.Prelude.{IsTrue}
use Rattle.std.proofs.lemmas.Bool.{cases_Bool}
use Rattle.smp_frac.specs.Fractions.{Same, whole, over}
use Rattle.smp_frac.proofs.{Around.{around_over, around_same}, Arithmetic.{same_trans}}
use Rattle.smp_prob.specs.declared.requests.Request.{Request}
use Rattle.smp_split.specs.{Counts.{AddsUp, LeavesSelect, LeavesSelectAround}, Embeds.{embedded}, Methods.{HasCount, HasMeans, Starts}}
use Rattle.smp_split.specs.Trees.{Tree}
use Rattle.smp_split.proofs.{Embeds.{adds_up_inside, embedded_adds_up, embedded_around, embedded_count}, Methods.{has_means}}
use Rattle.smp_values.specs.Starts.{IsRequested, DrawsWhole}
use Rattle.smp_values.proofs.Requests.{adds_to_draws}
use Rattle.smp_design.specs.declared.method.Method as named
use Rattle.smp_stratcube.specs.{States.{started}, Layers.{Layer}, Kept.Layers.{layer_of}, Cube.{strat_tree}, Requests.{AreRequested}}
use Rattle.smp_stratcube.specs.Units.{units_of}
use Rattle.smp_design.specs.{Words.{row, balances, draws_together}, declared.method.Method.TheVariants.{StratifiedCube}}
use Rattle.smp_design.proofs.Rows.{is_together}
use Rattle.smp_methods.specs.{declared.any.AnyDesign.{AnyDesign}, declared.any.AnyState.{AnyState}, Methods.{method_of}}
use Rattle.smp_methods.specs.declared.any.AnyState.TheVariants as states
use Rattle.smp_design.specs.declared.procedure.Procedure.{Procedure}
use Rattle.smp_methods.specs.Designs.{Variant, design_by, design_of, design_of_strata, drawn_by, first_state, name_of, state_among, tree_among, variant, variant_of}
use Rattle.smp_methods.specs.{Kept.Alone.{AroundAlone, CountAlone, RequestedAlone, StrataAlone}, Procedures.{NeedsWhole}}
use Rattle.smp_methods.specs.Starts.{AreStarted, IsStarted, SelectsAround}
use Rattle.smp_methods.proofs.{OneStratum.{one_count}, Ways.{drawn_by_method}, Wholes.{is_needed}}

-- ---- what a method says of its start holds of the design among all methods

-- whatever states are its own
any_own : {State : Type 0} → State → Type 0
any_own state = Unit {0}

count_in : {State : Type 0} (into : State → AnyState) (out : AnyState → Option State) (back : (state : State) → out (into state) ≡ Some state) (tree : Tree State) (design : State)
    → HasCount tree design → HasCount (embedded into out tree) (into design)
count_in into out back tree design count n adds =
    embedded_count into out tree back any_own n design (count n (adds_up_inside into out tree back any_own n design adds))

count_among : (v : Variant) → CountAlone v (state_among v) → draws_together (name_of v) ≡ false → HasCount (tree_among v) (state_among v)
count_among (variant name tree design into out back) count apart = count_in into out back tree design ((rw (back design) at count) apart)

requested_among : (v : Variant) (request : Request) → RequestedAlone request v → IsRequested (tree_among v) request (state_among v)
requested_among (variant name tree design into out back) request here = record {
  units = here.units;
  values = λ unit within. rw (back design) (here.values unit within);
  whole = λ some whole. embedded_adds_up into out tree back any_own request.r design (here.whole some whole);
}

around_among : (v : Variant) → AroundAlone v (state_among v) → (row (name_of v)).draws_whole ≡ false → balances (name_of v) ≡ false → LeavesSelectAround (tree_among v) (state_among v)
around_among (variant name tree design into out back) around any unbalanced = embedded_around into out tree back any_own design ((rw (back design) at around) any unbalanced)

-- a whole number is around itself
select_around : {State : Type 0} (tree : Tree State) (n : ℕ) (state : State) → AddsUp tree n state → LeavesSelect tree n state → LeavesSelectAround tree state
select_around tree n state adds select path leaf leads done =
    let one : Same (whole n) (over n 1) = record { cross = refl } in
    rw (select path leaf leads done) (around_same n (same_trans adds one) (around_over n n 1 (omega arith) (omega arith) (omega arith)))

-- so each leaf selects one of the whole numbers around the sum where the units drawn are whole in number
module _ (request : Request) (design : AnyDesign) (starts : Starts (method_of design) (first_state design)) (asked : IsRequested (method_of design).tree request (first_state design)) where
  whole_around : DrawsWhole request → LeavesSelectAround (method_of design).tree (first_state design)
  whole_around whole =
      let adds = adds_to_draws (method_of design).tree request (first_state design) asked whole in
      select_around (method_of design).tree request.r (first_state design) adds (starts.count request.r adds)

  selects_around : (IsTrue (row (drawn_by design)).draws_whole → DrawsWhole request) → AroundAlone (variant_of design) (first_state design) → SelectsAround design (first_state design)
  selects_around whole around unbalanced = elim (cases_Bool (row (drawn_by design)).draws_whole) [
    | inl needed ↦ whole_around (whole needed)
    | inr any ↦ around_among (variant_of design) around any unbalanced
  ]

-- ---- how many units are selected

-- the design of one stratum alone
one_stratum : (layer : Layer) → (method_of (design_of_strata (layer ∷ []))).belongs (first_state (design_of_strata (layer ∷ []))) → StrataAlone (design_of_strata (layer ∷ [])) (first_state (design_of_strata (layer ∷ [])))
    → HasCount (method_of (design_of_strata (layer ∷ []))).tree (first_state (design_of_strata (layer ∷ [])))
one_stratum layer member strata =
    count_in states.StratifiedCube (elim [ states.StratifiedCube state ↦ Some state | other ↦ None ]) (λ _. refl)
    (strat_tree (units_of (layer ∷ []))) (started (units_of (layer ∷ []))) (one_count layer member.are strata.0)

module _ (way : Procedure) (request : Request) (values points : List (List ℤ)) (design : AnyDesign) (made : design ≡ design_of way request values points) (member : (method_of design).belongs (first_state design)) where
  by_strata : StrataAlone design (first_state design) → way.method ≡ StratifiedCube → HasCount (method_of design).tree (first_state design)
  by_strata strata is =
      let layer : Layer = layer_of request values in
      let same : design ≡ design_of_strata (layer ∷ []) = made ∙ ap (λ m. design_by m way request values points) is in
      subst (λ (d : AnyDesign). HasCount (method_of d).tree (first_state d)) (sym same)
      (one_stratum layer (subst (λ (d : AnyDesign). (method_of d).belongs (first_state d)) same member) (subst (λ (d : AnyDesign). StrataAlone d (first_state d)) same strata))

  starts_all : CountAlone (variant_of design) (first_state design) → StrataAlone design (first_state design) → Starts (method_of design) (first_state design)
  starts_all count strata = record {
    means = has_means (method_of design) (first_state design) member;
    count = elim (cases_Bool (draws_together way.method)) [
      | inl together ↦ by_strata strata (is_together way.method together)
      | inr apart ↦
          count_among (variant_of design) count
          (ap draws_together (ap drawn_by made ∙ drawn_by_method way.method way request values points) ∙ apart)
    ];
  }

-- the design of the request by the method, at its first state
pub is_started : (way : Procedure) (request : Request) (values points : List (List ℤ)) (design : AnyDesign) (state : AnyState)
    → NeedsWhole way request → design ≡ design_of way request values points → RequestedAlone request (variant_of design) → state ≡ first_state design → (method_of design).belongs state → CountAlone (variant_of design) state → StrataAlone design state
    → AroundAlone (variant_of design) state
    → IsStarted way request values points (record { design = design; state = state })
is_started way request values points design state whole made requested there member count strata around =
    let own : AnyDesign = design_of way request values points in
    let start : Starts (method_of own) (first_state own) = subst (λ (d : AnyDesign). Starts (method_of d) (first_state d)) made
    (starts_all way request values points design made (subst (λ (s : AnyState). (method_of design).belongs s) there member) (subst (CountAlone (variant_of design)) there count) (subst (StrataAlone design) there strata)) in
    let asked : IsRequested (method_of own).tree request (first_state own) =
    subst (λ (d : AnyDesign). IsRequested (method_of d).tree request (first_state d)) made (requested_among (variant_of design) request requested) in
    let same : state ≡ first_state own = there ∙ ap first_state made in
    let by_way : drawn_by own ≡ way.method = drawn_by_method way.method way request values points in
    record {
      design = made;
      state = same;
      starts = subst (λ (s : AnyState). Starts (method_of own) s) (sym same) start;
      requested = subst (λ (s : AnyState). IsRequested (method_of own).tree request s) (sym same) asked;
      around = subst (λ (s : AnyState). SelectsAround own s) (sym same) (selects_around request own start asked (subst (λ (m : named.Method). IsTrue (row m).draws_whole → DrawsWhole request) (sym by_way) (is_needed (row way.method).draws_whole (DrawsWhole request) whole)) (subst (λ (d : AnyDesign). AroundAlone (variant_of d) (first_state d)) made (subst (AroundAlone (variant_of design)) there around)));
    }

-- ---- all strata together

pub are_started : (layers : List Layer) (design : AnyDesign) (state : AnyState) → design ≡ design_of_strata layers → AreRequested layers (started (units_of layers)) → state ≡ first_state design
    → (method_of design).belongs state → StrataAlone design state → AreStarted layers (record { design = design; state = state })
are_started layers design state made requested there member strata =
    let own : AnyDesign = design_of_strata layers in
    let same : state ≡ first_state own = there ∙ ap first_state made in
    let its : HasMeans (method_of own) (first_state own) =
    has_means (method_of own) (first_state own) (subst (λ (d : AnyDesign). (method_of d).belongs (first_state d)) made (subst (λ (s : AnyState). (method_of design).belongs s) there member)) in
    let kept : StrataAlone own (first_state own) = subst (λ (d : AnyDesign). StrataAlone d (first_state d)) made (subst (StrataAlone design) there strata) in
    record {
      design = made;
      state = same;
      means = subst (λ (s : AnyState). HasMeans (method_of own) s) (sym same) its;
      requested = requested;
      counts = kept.0;
      balanced = kept.1;
    }
