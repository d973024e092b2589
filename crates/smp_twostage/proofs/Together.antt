-- What holds of a selection of all strata together from its start.
use Rattle.std.proofs.Common.{◌≡◌, ℕ, zero, suc, ◌+◌, ◌*◌, ◌<◌, Bool, true, false, List, [], ◌∷◌, length, map, get_or, Option, Some, None, All, arith, refl, sym, ap, ap₂, subst, true≢false, ◌∙◌, length-append}
use Rattle.std.specs.{Prelude.{◌&&◌, cond, is_some, nat_eq, nat_lt, option_map}, List.{count_by, range_with_len, slice_get}}
use Rattle.std.proofs.{lemmas.Bool.{lt-ltb}, lemmas.List.{length-map}, lemmas.List.FromFn.{length-map-range_with_len}}
use Rattle.std.proofs.lemmas.List.Elements.{All-get_or, All-head, All-tail}
use Rattle.std.proofs.lemmas.Option.{get_or_from_slice_get, same_Some, slice_get-map, slice_get_within}
use Rattle.smp_frac.specs.Fractions.{Fraction, Same, over, sum_below, times, whole}
use Rattle.smp_frac.proofs.Arithmetic.{one-times, same_refl, same_sym, same_trans, sum_same, times-one, zero-times}
use Rattle.smp_prob.specs.{declared.requests.Request.{Request}, declared.inclusions.Inclusion.{Inclusion}}
use Rattle.smp_prob.specs.declared.inclusions.Inclusion.TheVariants.{Certain, Free, Never}
use Rattle.smp_prob.specs.Inclusions.{asked_fraction, fraction_at, free_fraction, inclusion}
use Rattle.smp_prob.proofs.Fractions.{length-numerators, numerator_is_free_fraction}
use Rattle.smp_split.specs.{Trees.{Tree}, Rows.{row_value}, Laws.Rows.{free_within}, Methods.{HasMeans}, Sectioning.{IsPartOf}}
use Rattle.smp_split.proofs.{NumberSums.{sum_by-range, sums}, OwnStages.{is_part}}
use Rattle.smp_values.specs.Starts.{DrawsWhole}
use Rattle.smp_values.proofs.Requests.{adds_to_draws, requested_values}
use Rattle.smp_moves.specs.{Moves.{fraction_of}, Cubes.{values_in}}
use Rattle.smp_methods.specs.{declared.any.AnyState.{AnyState}, Designs.{design_of_strata, first_state}, Methods.{method_of}}
use Rattle.smp_design.specs.Words.{draws_together}
use Rattle.smp_split.specs.{declared.places.Seat.{Seat as Seat_in_stages}, declared.places.Seat.TheVariants.{Nowhere, First, Second}}
use Rattle.smp_split.specs.{declared.places.Stage.{Stage}, OwnStages.{AreTheirOwn, seat_later, sections_by}}
use Rattle.smp_split.specs.Stages.{IsUnderWay, seat_value, unit_value}
use Rattle.smp_strata.specs.{Bounds.{IsOver}, Plans.{Plan}, Seats.{stage_fraction}, declared.strata.Seat.{Seat}}
use Rattle.smp_strata.specs.declared.strata.Stratum.{Stratum}
use Rattle.smp_stratcube.specs.{Cube.{strat_tree}, declared.values.Value.{Value}, Balances.{addend, target}, Counts.{selected_in}}
use Rattle.smp_stratcube.specs.States as together
use Rattle.smp_stratcube.specs.{Layers.{Layer, no_layer}, Kept.Layers.{layer_of, first_of}, Requests.{AreRequested, offset}}
use Rattle.smp_stratcube.specs.{Units.{IsUnits, member_of, members_from, share, stratum}, Values.{is_one, value_at}}
use Rattle.smp_stratcube.proofs.{Balances.{first_at}, StratumSums.{whole_same, whole_sum}}
use Rattle.smp_twostage.specs.{Strata.{free_values}, Cubes.{balancing, units_together}, Plans.{CanBeDrawn}, Kept.Stages.{EachFirst}}
use Rattle.smp_twostage.specs.Selections.{BelongsToWhole, Selecting, all_of, belongs_to, layers_of, numbers_from, place_of, seat_together}
use Rattle.smp_twostage.specs.{Selections.{seats_together, stage_of_strata, tree_of, units_before}, Starts.{row_fraction}}
use Rattle.smp_twostage.specs.{Kept.Sides.{is_in_section, section_count_by, stages_before_by, stages_by}, Laws.Places.{StandsIn}}
use Rattle.smp_twostage.specs.{Laws.Covered.{made_at, sections_case, together_staged}, Laws.Staged.{first_is, place_stands}}
use Rattle.smp_twostage.proofs.{Columns.{are_over}, OverAll.{free_before, over_rises, stands_behind, stands_over}, LayerRuns.{run, term_of}}
use Rattle.smp_twostage.proofs.{AloneBy.{own_state, tree_alone}, StartsBy.{tree_so}, Values.{fraction_is}}

-- ---- the free units of a stratum

abbrev pub layer_in : Stratum → Layer
layer_in s = layer_of s.request (free_values (balancing s))

offset_is : (strata : List Stratum) → All (λ (s : Stratum). IsOver (length s.units) s.request) strata → (h : ℕ) → offset (map layer_in strata) h ≡ free_before strata h
offset_is [] over h = refl
offset_is (s ∷ strata) over zero = refl
offset_is (s ∷ strata) over (suc h) =
    let own : IsOver (length s.units) s.request = All-head (λ (t : Stratum). IsOver (length t.units) t.request) s strata over in
    ap₂ (λ (m n : ℕ). m + n) own.sound.paired (offset_is strata (All-tail (λ (t : Stratum). IsOver (length t.units) t.request) s strata over) h)

-- the free units of all strata are those of the design
free_count : (strata : List Stratum) → All (λ (s : Stratum). IsOver (length s.units) s.request) strata → (b count h : ℕ) → length (numbers_from (λ (r : Request). r.free) b strata) ≡ length (members_from count h (map layer_in strata))
free_count [] over b count h = refl
free_count (s ∷ strata) over b count h =
    let own : IsOver (length s.units) s.request = All-head (λ (t : Stratum). IsOver (length t.units) t.request) s strata over in
    let rest = free_count strata (All-tail (λ (t : Stratum). IsOver (length t.units) t.request) s strata over) (b + length s.units) count (suc h) in
    omega (
      arith,
      rest,
      own.sound.paired,
      length-append (map (λ u. b + u) s.request.free) (numbers_from (λ (r : Request). r.free) (b + length s.units) strata),
      length-map s.request.free (λ u. b + u),
      length-append (map (member_of count h (layer_in s)) (range_with_len 0 (length s.request.shape))) (members_from count (suc h) (map layer_in strata)),
      length-map-range_with_len (member_of count h (layer_in s)) 0 (length s.request.shape),
    )

module _ (plan : Plan) (drawable : CanBeDrawn plan) (asked : AreRequested (layers_of plan) (together.started (units_together plan))) where
  abbrev start_value : ℕ → Fraction
  start_value unit = value_at (values_in (together.started (units_together plan))) unit

  module _ (h : ℕ) (s : Stratum) (is : slice_get plan.strata h ≡ Some s) where
    own : IsOver (length s.units) s.request
    own =
        let here : get_or plan.strata h s ≡ s = get_or_from_slice_get plan.strata h s s is in
        subst (λ (t : Stratum). IsOver (length t.units) t.request) here
        (All-get_or (λ (t : Stratum). IsOver (length t.units) t.request) plan.strata h s (slice_get_within plan.strata h s is) (are_over plan drawable))

    layer_is : get_or (layers_of plan) h no_layer ≡ layer_in s
    layer_is =
        get_or_from_slice_get (layers_of plan) h (layer_in s) no_layer (slice_get-map layer_in plan.strata h ∙ ap (option_map layer_in) is)

    -- each free unit has the value that its stratum's request asks for it
    free_value : (j : ℕ) → j < length s.request.free → Same (start_value (free_before plan.strata h + j)) (free_fraction s.request j)
    free_value j l =
        let within : h < length (layers_of plan) = omega (arith, slice_get_within plan.strata h s is, length-map plan.strata layer_in) in
        let inside : j < length (get_or (layers_of plan) h no_layer).request.shape = subst (λ (t : Layer). j < length t.request.shape) (sym layer_is) (omega (arith, l, own.sound.paired)) in
        subst (λ n. Same (start_value (n + j)) (free_fraction s.request j)) (offset_is plan.strata (are_over plan drawable) h)
        (subst (λ (t : Layer). Same (start_value (offset (layers_of plan) h + j)) (over (get_or t.request.shape j 0 * t.request.r) t.request.total)) layer_is (asked h j within inside))

    stand_value : (i : Inclusion) → ((j : ℕ) → i ≡ Free j → j < length s.request.free) → Same (row_value start_value (stands_behind (free_before plan.strata h) i)) (fraction_at s.request i)
    stand_value Certain within = same_refl (whole 1)
    stand_value (Free j) within = free_value j (within j refl)
    stand_value Never within = same_refl (whole 0)

    -- and each unit the probability that it asks for it
    unit_value_is : (k : ℕ) → k < length s.units
        → Same (unit_value tree_of (stage_of_strata plan ∷ []) (first_state (stage_of_strata plan).design.design ∷ []) (record { stage = 0; unit = units_before plan.strata h + k })) (asked_fraction s.request k)
    unit_value_is k l =
        subst (λ (i : Inclusion). Same (row_value start_value i) (asked_fraction s.request k)) (sym (stands_over plan.strata (are_over plan drawable) h k s is l))
        (stand_value (inclusion s.request k) (λ j free. free_within s.request k j free))

    -- where what is asked of the stratum is whole, the probabilities of its free units add up to it
    module _ (are : IsUnits (units_together plan)) where
      abbrev run_tree : Tree together.Balancing
      run_tree = record (strat_tree (units_together plan)) {
        units = length s.request.free;
        value = λ t j. value_at (values_in t) (free_before plan.strata h + j);
      }

      adds_run : DrawsWhole s.request → Same (sum_below (length s.request.free) (λ j. times (whole 1) (start_value (free_before plan.strata h + j)))) (whole s.request.r)
      adds_run whole =
          adds_to_draws run_tree s.request (together.started (units_together plan))
          (requested_values s.request own.sound run_tree (together.started (units_together plan)) (sym (length-numerators s.request own.sound))
          (λ j l. (let within : j < length s.request.free = omega (arith, l, length-numerators s.request own.sound) in
          same_trans (free_value j within) (same_sym (numerator_is_free_fraction s.request own.sound j within))))) whole

      in_layers : h < length (layers_of plan)
      in_layers = omega (arith, slice_get_within plan.strata h s is, length-map plan.strata layer_in)

      addend_is : (k : ℕ) → addend (units_together plan) h k ≡ term_of (units_together plan).members h (λ i. fraction_of (share (units_together plan) i)) k
      addend_is k =
          let inside : nat_lt h (length (units_together plan).firsts) ≡ true = lt-ltb h (length (units_together plan).firsts) (omega (arith, in_layers, length-map (layers_of plan) first_of)) in
          rw inside refl

      run_size : length (get_or (layers_of plan) h no_layer).request.shape ≡ length s.request.free
      run_size = ap (λ (t : Layer). length t.request.shape) layer_is ∙ own.sound.paired

      pub run_here : (f : ℕ → Fraction) → Same (sum_below (length (units_together plan).members) (term_of (units_together plan).members h f)) (sum_below (length s.request.free) (λ j. f (free_before plan.strata h + j)))
      run_here f =
          let none : 0 + h ≡ h = omega arith in
          subst (λ n. Same (sum_below (length (units_together plan).members) (term_of (units_together plan).members h f)) (sum_below (length s.request.free) (λ j. f (n + j)))) (offset_is plan.strata (are_over plan drawable) h)
          (subst (λ n. Same (sum_below (length (units_together plan).members) (term_of (units_together plan).members h f)) (sum_below n (λ j. f (offset (layers_of plan) h + j)))) run_size
          (subst (λ g. Same (sum_below (length (units_together plan).members) (term_of (units_together plan).members g f)) (sum_below (length (get_or (layers_of plan) h no_layer).request.shape) (λ j. f (offset (layers_of plan) h + j)))) none
          (run (length (layers_of plan)) 0 (layers_of plan) h f in_layers)))

      pub target_adds : DrawsWhole s.request → Same (target (units_together plan) h) (whole s.request.r)
      target_adds whole_sum =
          same_trans
          (sum_same (length (units_together plan).members) (addend (units_together plan) h) (term_of (units_together plan).members h (λ i. fraction_of (share (units_together plan) i)))
          (λ k l. subst (λ (f : Fraction). Same (addend (units_together plan) h k) f) (addend_is k) (same_refl (addend (units_together plan) h k))))
          (same_trans (run_here (λ i. fraction_of (share (units_together plan) i)))
          (same_trans
          (sum_same (length s.request.free) (λ j. fraction_of (share (units_together plan) (free_before plan.strata h + j))) (λ j. times (whole 1) (start_value (free_before plan.strata h + j)))
          (λ j l. subst (λ (v : Value). Same (fraction_of (share (units_together plan) (free_before plan.strata h + j))) (times (whole 1) (fraction_of v.at))) (sym (first_at (units_together plan) are (free_before plan.strata h + j)))
          (same_sym (one-times (fraction_of (share (units_together plan) (free_before plan.strata h + j)))))))
          (adds_run whole_sum)))

      -- and as many of them are selected as units of the stratum
      module _ (leaf : together.Balancing) where
        abbrev one_at : ℕ → ℕ
        one_at k = cond (is_one (values_in leaf) k) 1 0

        abbrev counts_at : ℕ → ℕ
        counts_at k = cond (nat_eq (stratum (units_together plan) k) h && is_one (values_in leaf) k) 1 0

        counts_term : (k : ℕ) → Same (term_of (units_together plan).members h (λ i. whole (one_at i)) k) (whole (counts_at k))
        counts_term k =
            by_test (nat_eq (stratum (units_together plan) k) h)
          where
            by_test : (b : Bool) → Same (times (whole (cond b 1 0)) (whole (one_at k))) (whole (cond (b && is_one (values_in leaf) k) 1 0))
            by_test true = one-times (whole (one_at k))
            by_test false = zero-times (whole (one_at k))

        pub run_counts : selected_in (units_together plan) h leaf ≡ count_by (λ j. is_one (values_in leaf) (free_before plan.strata h + j)) (range_with_len 0 (length s.request.free))
        run_counts =
            let n : ℕ = length (units_together plan).members in
            let m : ℕ = length s.request.free in
            let all : Same (whole (sums n counts_at)) (whole (sums m (λ j. one_at (free_before plan.strata h + j)))) =
            same_trans (same_sym (whole_sum n counts_at))
            (same_trans (same_sym (sum_same n (term_of (units_together plan).members h (λ i. whole (one_at i))) (λ k. whole (counts_at k)) (λ k l. counts_term k)))
            (same_trans (run_here (λ i. whole (one_at i))) (whole_sum m (λ j. one_at (free_before plan.strata h + j))))) in
            sum_by-range n counts_at ∙ whole_same (sums n counts_at) (sums m (λ j. one_at (free_before plan.strata h + j))) all
            ∙ sym (sum_by-range m (λ j. one_at (free_before plan.strata h + j)))

  -- ---- a row

  no_second : (request : Option Request) (place : ℕ) → is_some request ≡ false → stage_fraction request place ≡ whole 1
  no_second None place none = refl
  no_second (Some request) place none = absurd (cc)

  module _ (one_stage : plan.second ≡ None) where
    pub row_value_is : (row : ℕ) → row < plan.rows
        → Same (seat_value (unit_value tree_of (stage_of_strata plan ∷ []) (first_state (stage_of_strata plan).design.design ∷ [])) (slice_get (seats_together plan) row)) (row_fraction plan row)
    row_value_is row l =
        let p : Seat = place_of plan.strata row in
        let here : StandsIn plan.strata row p = place_stands plan drawable row l in
        let staged = (first_is plan drawable p.stratum p.unit here.stratum here.unit here.is_stratum here.is_unit).staged in
        let alone : stage_fraction here.unit.second p.place ≡ whole 1 = no_second here.unit.second p.place (staged ∙ ap is_some one_stage) in
        let value = unit_value_is p.stratum here.stratum here.is_stratum p.unit (slice_get_within here.stratum.units p.unit here.unit here.is_unit) in
        let asks : row_fraction plan row ≡ times (asked_fraction here.stratum.request p.unit) (whole 1) =
        fraction_is plan.strata row p here ∙ ap (times (asked_fraction here.stratum.request p.unit)) alone in
        rw (made_at (seat_together plan) plan.rows row l, asks)
        (same_trans value (same_sym (times-one (asked_fraction here.stratum.request p.unit))))

-- ---- the stage

module _ (plan : Plan) (drawable : CanBeDrawn plan) (means : HasMeans (method_of (design_of_strata (layers_of plan))) (first_state (design_of_strata (layers_of plan)))) where
  -- the state from which it starts is one of its own
  pub stage_member : belongs_to (stage_of_strata plan).design (first_state (stage_of_strata plan).design.design)
  stage_member = record {
    member = means.member;
    ordered = over_rises plan.strata (are_over plan drawable);
    paired = free_count plan.strata (are_over plan drawable) 0 (length (layers_of plan)) 0;
  }

  pub stage_first : EachFirst (stage_of_strata plan ∷ []) (first_state (stage_of_strata plan).design.design ∷ [])
  stage_first = record { are = refl; belong = record { paired = refl; each = own_member } }
    where
      own_member : (i : ℕ) (stage : Stage Selecting) (state : AnyState) → slice_get (stage_of_strata plan ∷ []) i ≡ Some stage
          → slice_get (first_state (stage_of_strata plan).design.design ∷ []) i ≡ Some state → belongs_to stage.design state
      own_member zero stage state is_stage is_state =
          let stage_is : stage_of_strata plan ≡ stage = same_Some (stage_of_strata plan) stage is_stage in
          let state_is : first_state (stage_of_strata plan).design.design ≡ state = same_Some (first_state (stage_of_strata plan).design.design) state is_state in
          subst (λ (t : Stage Selecting). belongs_to t.design state) stage_is
          (subst (belongs_to (stage_of_strata plan).design) state_is stage_member)
      own_member (suc i) stage state is_stage is_state = absurd (cc)

-- ---- the one section is the whole

seat_same : (seat : Seat_in_stages) → seat_later 0 seat ≡ seat
seat_same Nowhere = refl
seat_same (First place) = ap (λ n. First (record { stage = n; unit = place.unit })) (omega arith)
seat_same (Second first second) =
    ap₂ (λ (m n : ℕ). Second (record { stage = m; unit = first.unit }) (record { stage = n; unit = second.unit })) (omega arith) (omega arith)

seat_same_at : (o : Option Seat_in_stages) → o ≡ option_map (seat_later 0) o
seat_same_at None = refl
seat_same_at (Some seat) = ap Some (sym (seat_same seat))

their_own : (plan : Plan) → AreTheirOwn (stage_of_strata plan ∷ []) (seats_together plan) 0 (stage_of_strata plan ∷ []) (seats_together plan) (λ row. true)
their_own plan = record {
  run = refl;
  seated = λ row l own. seat_same_at (slice_get (seats_together plan) row);
  others = λ row l other. absurd (true≢false other);
}

pub together_part : (plan : Plan) → CanBeDrawn plan → draws_together plan.procedure.method ≡ true
    → IsPartOf (tree_so true plan) (BelongsToWhole plan) (sections_by (stages_before_by true (all_of plan)) (section_count_by true (all_of plan))) 0 (tree_alone true plan 0) (own_state true plan 0) (is_in_section true plan 0)
together_part plan drawable together =
    is_part tree_of belongs_to (stage_of_strata plan ∷ []) (seats_together plan) (BelongsToWhole plan)
    (λ state here. subst (λ b. IsUnderWay tree_of belongs_to (stages_by b (all_of plan)) state) together here.member)
    (λ h. h) 1 (sections_case true (all_of plan)) 0 (omega arith)
    (stage_of_strata plan ∷ []) (seats_together plan) (λ row. true) (their_own plan) (together_staged plan drawable) (omega arith)
