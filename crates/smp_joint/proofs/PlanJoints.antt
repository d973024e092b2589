-- The joint probabilities of the rows of a plan that draws systematically, in the order of the frame and in one stage.
use Rattle.std.proofs.Common.{◌≡◌, ◌≢◌, ℕ, zero, suc, ◌<◌, ◌≤◌, Bool, false, ℤ, cond, List, [], ◌∷◌, ◌++◌, length, map, take, Option, Some, None, arith, refl, sym, ap, subst, ◌∙◌, inl, inr}
use Rattle.std.specs.{Prelude.{option_map}, List.{slice_get}}
use Rattle.std.proofs.{Math.Seq.{take-suc, take-length}, lemmas.Bool.{cases_eq, eq-eqb, ne_eqb}}
use Rattle.std.proofs.lemmas.List.{length-map, length-take-le, map-append}
use Rattle.std.proofs.lemmas.Option.{get_or_from_slice_get, same_Some, slice_get-map, slice_get_within}
use Rattle.smp_frac.specs.Fractions.{Fraction, Same, times}
use Rattle.smp_frac.proofs.Arithmetic.{same_trans, times_same}
use Rattle.smp_prob.specs.{declared.orders.Order.{Order}, declared.orders.Order.TheVariants.{Frame}, declared.requests.Request.{Request}}
use Rattle.smp_split.specs.{Means.{joint_probability}, declared.places.Place.{Place}, declared.places.Stage.{Stage}}
use Rattle.smp_design.specs.{declared.method.Method.{Method}, declared.method.Method.TheVariants.{Systematic}, Words.{draws_together}}
use Rattle.smp_design.specs.declared.procedure.Procedure.{Procedure}
use Rattle.smp_design.proofs.Rows.{systematic_apart}
use Rattle.smp_methods.specs.{declared.any.AnyDesign.{AnyDesign}, declared.any.AnyState.{AnyState}, Methods.{method_of}}
use Rattle.smp_values.proofs.Requests.{adds_to_draws}
use Rattle.smp_values.specs.InOrder.{started}
use Rattle.smp_methods.specs.declared.any.AnyDesign.TheVariants as designs
use Rattle.smp_methods.specs.Designs.{design_by, design_of, first_state}
use Rattle.smp_split.specs.declared.places.Seat.TheVariants as seat
use Rattle.smp_split.specs.{Laws.Reads.{some_within}, Stages.{IsUnderWay, Progress, progress, seat_value, unit_value}}
use Rattle.smp_strata.specs.{Plans.{Plan}, Seats.{first_fraction, unit_fraction}, declared.strata.FirstUnit.{FirstUnit}}
use Rattle.smp_prob.specs.Inclusions.{asked_fraction}
use Rattle.smp_strata.specs.{declared.strata.Seat.{Seat}, declared.strata.Stratum.{Stratum}}
use Rattle.smp_twostage.specs.{Kept.Stages.{EachStarts, IsPlanned, StageStarts}, Plans.{CanBeDrawn}, Kept.Sides.{states_of}}
use Rattle.smp_twostage.specs.Selections.{Selecting, belongs_to, first_number, first_stage, place_of, seat_by, seats_of, stage_within, stages_below, stages_in, stages_of, stages_within, tree_of}
use Rattle.smp_twostage.specs.{Laws.Numbering.{first_there}, Laws.Places.{StandsIn}, Laws.Staged.{place_stands, seat_at, whole_staged}}
use Rattle.smp_twostage.specs.Laws.Wholes.{stage_lawful}
use Rattle.smp_twostage.proofs.{Columns.{is_planned}, Starts.{each_belongs}, StartsBy.{stages_so, states_so, tree_so}}
use Rattle.smp_twostage.proofs.Values.{unit_value_is}
use Rattle.smp_joint.specs.{JointRows.{joint_in, HasJoints, IsSystematicPlan, joint_fraction}, Joints.{joint_of}}
use Rattle.smp_joint.proofs.StageJoints.{stage_together, stages_apart}
use Rattle.smp_joint.proofs.StratumJoints.{all_member, around, requested, serves, unit_joint, unit_sum}

-- ---- with one stage, the stages are the strata

none_within : (at : ℕ) (units : List FirstUnit) (n : ℕ) → stages_within None at units n ≡ []
none_within at units zero = refl
none_within at units (suc n) = ap (λ xs. xs ++ stage_within None at n (slice_get units n)) (none_within at units n) ∙ none_at (slice_get units n)
  where
    none_at : (u : Option FirstUnit) → stage_within None at n u ≡ []
    none_at (Some u) = refl
    none_at None = refl

module _ (plan : Plan) (one : plan.second ≡ None) where
  alone_in : (at : ℕ) (s : Stratum) → stages_in plan at (Some s) ≡ first_stage plan s ∷ []
  alone_in at s =
      ap (λ m. first_stage plan s ∷ stages_within m at s.units (length s.units)) one ∙ ap (λ xs. first_stage plan s ∷ xs) (none_within at s.units (length s.units))

  below_is : (n : ℕ) → n ≤ length plan.strata → stages_below plan n ≡ map (first_stage plan) (take n plan.strata)
  below_is zero l = refl
  below_is (suc n) l =
      let s = some_within plan.strata n (omega (arith, l)) in
      let more : stages_in plan (first_number plan n) (slice_get plan.strata n) ≡ first_stage plan s.0 ∷ [] = ap (stages_in plan (first_number plan n)) s.1 ∙ alone_in (first_number plan n) s.0 in
      let last : take (suc n) plan.strata ≡ take n plan.strata ++ s.0 ∷ [] = take-suc plan.strata n s.0 (omega (arith, l)) ∙ ap (λ x. take n plan.strata ++ x ∷ []) (get_or_from_slice_get plan.strata n s.0 s.0 s.1) in
      ap (λ xs. stages_below plan n ++ xs) more ∙ ap (λ xs. xs ++ first_stage plan s.0 ∷ []) (below_is n (omega (arith, l)))
      ∙ sym (map-append (first_stage plan) (take n plan.strata) (s.0 ∷ [])) ∙ ap (map (first_stage plan)) (sym last)

  number_is : (h : ℕ) → h ≤ length plan.strata → first_number plan h ≡ h
  number_is h l = ap length (below_is h l) ∙ length-map (take h plan.strata) (first_stage plan) ∙ length-take-le h plan.strata l

  stages_are : stages_of plan ≡ map (first_stage plan) plan.strata
  stages_are = below_is (length plan.strata) (omega arith) ∙ ap (map (first_stage plan)) (take-length plan.strata)

  -- the stratum of a stage
  record OfStratum (i : ℕ) (stage : Stage Selecting) : Type 0 where
    stratum : Stratum
    there : slice_get plan.strata i ≡ Some stratum
    is : stage ≡ first_stage plan stratum

  of_stratum : (i : ℕ) (stage : Stage Selecting) → slice_get (stages_of plan) i ≡ Some stage → OfStratum i stage
  of_stratum i stage is =
      let within : i < length plan.strata = omega (arith, slice_get_within (stages_of plan) i stage is, ap length stages_are, length-map plan.strata (first_stage plan)) in
      let s = some_within plan.strata i within in
      record {
        stratum = s.0;
        there = s.1;
        is = same_Some stage (first_stage plan s.0) (sym is ∙ ap (λ xs. slice_get xs i) stages_are ∙ slice_get-map (first_stage plan) plan.strata i ∙ ap (option_map (first_stage plan)) s.1);
      }

-- by systematic selection in the order of the frame, the design takes no values
systematic_is : (way : Procedure) (request : Request) (values points : List (List ℤ)) → way.method ≡ Systematic → way.order ≡ Frame
    → design_of way request values points ≡ designs.Systematic (started request Frame)
systematic_is way request values points method order =
    ap (λ (m : Method). design_by m way request values points) method ∙ ap (λ (o : Order). designs.Systematic (started request o)) order

module _ (plan : Plan) (drawable : CanBeDrawn plan) (so : IsSystematicPlan plan) where
  -- ---- the stage of a stratum

  -- so many units and a request for them, drawn systematically in the order of the frame
  abbrev systematic : ℕ → Request → Selecting
  systematic units request = record { units = units; request = request; design = designs.Systematic (started request Frame) }

  abbrev drawn_by : Stratum → AnyDesign → Selecting
  drawn_by s design = record { units = length s.units; request = s.request; design = design }

  design_is : (s : Stratum) → (first_stage plan s).design ≡ systematic (length s.units) s.request
  design_is s = ap (drawn_by s) (systematic_is plan.procedure s.request _ _ so.method so.order)

  module _ (h : ℕ) (s : Stratum) (is : slice_get plan.strata h ≡ Some s) where
    abbrev own : Selecting
    own = systematic (length s.units) s.request

    planned : IsPlanned plan s
    planned = is_planned plan drawable h s is

    starts : StageStarts own (first_state own.design)
    starts =
        let over = planned.stratum.over in
        record {
          is = refl;
          member = all_member s.request over.sound over.rising (length s.units);
          serves = serves s.request over.sound;
          adds_up = adds_to_draws (method_of own.design).tree s.request (first_state own.design) (requested s.request over.sound);
          around = λ _. around s.request over.sound;
        }

    starts_first : StageStarts (first_stage plan s).design (first_state (first_stage plan s).design.design)
    starts_first = subst (λ (d : Selecting). StageStarts d (first_state d.design)) (sym (design_is s)) starts

    joint_in_stage : (j k : ℕ) → Same (joint_probability (tree_of (first_stage plan s).design) (first_state (first_stage plan s).design.design) j k) (joint_of s.request j k)
    joint_in_stage j k =
        subst (λ (d : Selecting). Same (joint_probability (tree_of d) (first_state d.design) j k) (joint_of s.request j k)) (sym (design_is s))
        (unit_joint s.request planned.stratum.over.sound planned.stratum.over.rising (length s.units) j k)

  -- ---- the states of all stages

  state_at : (i : ℕ) (stage : Stage Selecting) → slice_get (stages_of plan) i ≡ Some stage → slice_get (states_of plan) i ≡ Some (first_state stage.design.design)
  state_at i stage is =
      slice_get-map (λ (t : Stage Selecting). first_state t.design.design) (stages_of plan) i ∙ ap (option_map (λ (t : Stage Selecting). first_state t.design.design)) is

  each : EachStarts (stages_of plan) (states_of plan)
  each = record {
    paired = length-map (stages_of plan) (λ stage. first_state stage.design.design);
    each = λ i stage state is_stage is_state.
        (let its = of_stratum plan so.second i stage is_stage in
        let same : state ≡ first_state stage.design.design = same_Some state (first_state stage.design.design) (sym is_state ∙ state_at i stage is_stage) in
        subst (StageStarts stage.design) (sym same)
        (subst (λ (t : Stage Selecting). StageStarts t.design (first_state t.design.design)) (sym its.is) (starts_first i its.stratum its.there)));
  }

  -- the start, where the strata are drawn one by one
  abbrev strata_start : Progress AnyState
  strata_start = progress tree_of (stages_of plan) (states_of plan)

  under_way : IsUnderWay tree_of belongs_to (stages_of plan) (strata_start)
  under_way = record { states = each_belongs (stages_of plan) (states_of plan) each; at = refl }

  -- ---- two rows

  -- the seat of a row in its stage
  abbrev in_stage : Seat → Place
  in_stage p = record { stage = first_number plan p.stratum; unit = p.unit }

  sits : (row : ℕ) → row < plan.rows → slice_get (seats_of plan) row ≡ Some (seat.First (in_stage (place_of plan.strata row)))
  sits row l = seat_at plan drawable row l ∙ ap (λ m. Some (seat_by m (first_number plan (place_of plan.strata row).stratum) (place_of plan.strata row))) so.second

  -- the value of a row before the first step
  value_is : (row : ℕ) → row < plan.rows → Same ((tree_so false plan).value (strata_start) row) (first_fraction plan.strata (place_of plan.strata row).stratum (place_of plan.strata row).unit)
  value_is row l =
      let place = place_of plan.strata row in
      let here : StandsIn plan.strata row place = place_stands plan drawable row l in
      let value : (tree_so false plan).value (strata_start) row ≡ unit_value tree_of (stages_of plan) (states_of plan) (in_stage place) = ap (seat_value (unit_value tree_of (stages_of plan) (states_of plan))) (sits row l) in
      let asked : first_fraction plan.strata place.stratum place.unit ≡ asked_fraction here.stratum.request place.unit = ap (λ o. unit_fraction o place.unit) here.is_stratum in
      subst (λ (f : Fraction). Same ((tree_so false plan).value (strata_start) row) f) (sym asked)
      (subst (λ (f : Fraction). Same f (asked_fraction here.stratum.request place.unit)) (sym value)
      (unit_value_is (stages_of plan) (states_of plan) each (first_number plan place.stratum) place.unit (first_stage plan here.stratum) (first_there plan place.stratum here.stratum here.is_stratum)))

  module _ (j k : ℕ) (hj : j < plan.rows) (hk : k < plan.rows) where
    abbrev p : Seat
    p = place_of plan.strata j

    abbrev q : Seat
    q = place_of plan.strata k

    p_stands : StandsIn plan.strata j p
    p_stands = place_stands plan drawable j hj

    q_stands : StandsIn plan.strata k q
    q_stands = place_stands plan drawable k hk

    abbrev of_two : Fraction
    of_two = times (first_fraction plan.strata p.stratum p.unit) (first_fraction plan.strata q.stratum q.unit)

    abbrev IsJoint : Fraction → Type 0
    IsJoint f = Same (joint_probability (tree_so false plan) (strata_start) j k) f

    joint_one : p.stratum ≡ q.stratum → IsJoint (joint_fraction plan j k)
    joint_one same =
        let s = p_stands.stratum in
        let there = first_there plan p.stratum s p_stands.is_stratum in
        let asked : joint_fraction plan j k ≡ joint_of s.request p.unit q.unit =
        ap (λ (b : Bool). cond b (joint_in (slice_get plan.strata p.stratum) p.unit q.unit) of_two) (eq-eqb p.stratum q.stratum same) ∙ ap (λ o. joint_in o p.unit q.unit) p_stands.is_stratum in
        subst IsJoint (sym asked)
        (same_trans
        (stage_together tree_of belongs_to stage_lawful (stages_of plan) (seats_of plan) (whole_staged plan drawable) j k (in_stage p) (in_stage q) (sits j hj) (sits k hk)
        (first_number plan p.stratum) (first_stage plan s) there refl (ap (first_number plan) (sym same)) (strata_start) (first_state (first_stage plan s).design.design) under_way (state_at (first_number plan p.stratum) (first_stage plan s) there))
        (joint_in_stage p.stratum s p_stands.is_stratum p.unit q.unit))

    joint_two : p.stratum ≢ q.stratum → IsJoint (joint_fraction plan j k)
    joint_two differ =
        let p_in : p.stratum < length plan.strata = slice_get_within plan.strata p.stratum p_stands.stratum p_stands.is_stratum in
        let q_in : q.stratum < length plan.strata = slice_get_within plan.strata q.stratum q_stands.stratum q_stands.is_stratum in
        let asked : joint_fraction plan j k ≡ of_two = ap (λ (b : Bool). cond b (joint_in (slice_get plan.strata p.stratum) p.unit q.unit) of_two) (ne_eqb p.stratum q.stratum differ) in
        subst IsJoint (sym asked)
        (same_trans
        (stages_apart tree_of belongs_to stage_lawful (stages_of plan) (seats_of plan) (whole_staged plan drawable) j k (in_stage p) (in_stage q) (sits j hj) (sits k hk)
        (λ e. differ (sym (number_is plan so.second p.stratum (omega (arith, p_in))) ∙ e ∙ number_is plan so.second q.stratum (omega (arith, q_in)))) (strata_start) under_way)
        (times_same (value_is j hj) (value_is k hk)))

    joint_rows : IsJoint (joint_fraction plan j k)
    joint_rows = elim (cases_eq p.stratum q.stratum) [ inl same ↦ joint_one same | inr differ ↦ joint_two differ ]

  -- systematic selection draws each stratum by itself
  apart : draws_together plan.procedure.method ≡ false
  apart = systematic_apart plan.procedure.method so.method

  pub has_joints : HasJoints plan
  has_joints = record {
    joint = λ j k hj hk.
        subst (λ b. Same (joint_probability (tree_so b plan) (progress tree_of (stages_so b plan) (states_so b plan)) j k) (joint_fraction plan j k)) (sym apart) (joint_rows j k hj hk);
    sums = λ h n s is sum unit l.
        (let over = (planned h s is).stratum.over in
        unit_sum s.request over.sound over.rising (length s.units) (λ u m. over.free u 0 m) over.apart n unit l sum);
  }
