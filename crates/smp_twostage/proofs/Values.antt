-- Where each stage starts from its request, each row has the value that its plan gives it.
use Rattle.std.proofs.Common.{◌≡◌, ℕ, true, false, suc, ◌+◌, ◌<◌, List, length, Option, Some, None, arith, refl, sym, ap, subst, ◌∙◌}
use Rattle.std.specs.{Prelude.{is_some, option_and_then}, List.{slice_get}}
use Rattle.std.proofs.lemmas.Option.{slice_get_within}
use Rattle.smp_split.specs.{Laws.Reads.{some_within}, declared.places.Place.{Place}, declared.places.Stage.{Stage}}
use Rattle.smp_frac.specs.Fractions.{Fraction, Same, whole, times}
use Rattle.smp_frac.proofs.Arithmetic.{same_sym, same_trans, times_same, times-one}
use Rattle.smp_prob.specs.{declared.requests.Request.{Request}, Inclusions.{asked_fraction}}
use Rattle.smp_design.specs.declared.method.Method.{Method}
use Rattle.smp_split.proofs.RowsAsked.{value_is_asked}
use Rattle.smp_methods.specs.{declared.any.AnyState.{AnyState}, Methods.{method_of}}
use Rattle.smp_split.specs.Stages.{seat_value, unit_value, read}
use Rattle.smp_strata.specs.{Plans.{Plan}, Seats.{place_fraction, seat_fraction, stage_fraction, unit_fraction}}
use Rattle.smp_strata.specs.{declared.strata.FirstUnit.{FirstUnit}, declared.strata.Seat.{Seat}, declared.strata.Stratum.{Stratum}}
use Rattle.smp_twostage.specs.{Plans.{CanBeDrawn}, Starts.{row_fraction}, Kept.Stages.{EachStarts}, Laws.Covered.{its_place}}
use Rattle.smp_twostage.specs.Selections.{Selecting, tree_of, stages_of, first_number, first_stage, is_of_stratum, parts_by, second_stage, seat_by, place_of, seats_of}
use Rattle.smp_twostage.specs.{Laws.Numbering.{HaveSeconds, first_there, second_there}, Laws.Places.{StandsIn}}
use Rattle.smp_twostage.specs.Laws.Staged.{first_is, place_stands, seat_at, seconds_in}

-- the value of a unit in its stage
module _ (stages : List (Stage Selecting)) (states : List AnyState) (each : EachStarts stages states) where
  stage_value : (i unit : ℕ) (stage : Stage Selecting) (state : Option AnyState) → slice_get stages i ≡ Some stage → slice_get states i ≡ state → Same (read tree_of (whole 0) (λ tree s. tree.value s unit) (Some stage) state) (asked_fraction stage.design.request unit)
  stage_value i unit stage (Some state) is_stage is_state =
      value_is_asked stage.design.units stage.design.request (method_of stage.design.design).tree state (each.each i stage state is_stage is_state).serves unit
  stage_value i unit stage None is_stage is_state =
      let some = some_within states i (omega (arith, each.paired, slice_get_within stages i stage is_stage)) in
      absurd (let none : None ≡ Some some.0 = sym is_state ∙ some.1 in cc)

  pub unit_value_is : (i unit : ℕ) (stage : Stage Selecting) → slice_get stages i ≡ Some stage → Same (unit_value tree_of stages states (record { stage = i; unit = unit })) (asked_fraction stage.design.request unit)
  unit_value_is i unit stage is = rw is (stage_value i unit stage (slice_get states i) is refl)

-- ---- a row that stands in stratum h

module _ (plan : Plan) (states : List AnyState) (each : EachStarts (stages_of plan) states) (h : ℕ) (place : Seat) (s : Stratum) (u : FirstUnit) (is_stratum : slice_get plan.strata h ≡ Some s) (is_unit : slice_get s.units place.unit ≡ Some u) (staged : is_some u.second ≡ is_some plan.second)
    (seconds : (method : Method) → plan.second ≡ Some method → HaveSeconds s.units) where
  abbrev at : ℕ
  at = first_number plan h

  abbrev unit_values : Place → Fraction
  unit_values = unit_value tree_of (stages_of plan) states

  first_value : Same (unit_values (record { stage = at; unit = place.unit })) (asked_fraction s.request place.unit)
  first_value = unit_value_is (stages_of plan) states each at place.unit (first_stage plan s) (first_there plan h s is_stratum)

  alone : (request : Option Request) → is_some request ≡ false → stage_fraction request place.place ≡ whole 1
  alone None none = refl
  alone (Some request) none = absurd (cc)

  second_value : (method : Method) → plan.second ≡ Some method → (request : Option Request) → u.second ≡ request → is_some request ≡ true
      → Same (unit_values (record { stage = suc (at + place.unit); unit = place.place })) (stage_fraction request place.place)
  second_value method second (Some request) asks some =
      unit_value_is (stages_of plan) states each (suc (at + place.unit)) place.place (second_stage method request (length u.rows) at place.unit)
      (second_there plan h s is_stratum method second (seconds method second) place.unit u is_unit request asks)
  second_value method second None asks some = absurd (cc)

  by_method : (method : Option Method) → plan.second ≡ method → Same (seat_value unit_values (Some (seat_by method at place))) (times (asked_fraction s.request place.unit) (stage_fraction u.second place.place))
  by_method None second =
      subst (λ (f : Fraction). Same (unit_values (record { stage = at; unit = place.unit })) (times (asked_fraction s.request place.unit) f)) (sym (alone u.second (staged ∙ ap is_some second)))
      (same_trans first_value (same_sym (times-one (asked_fraction s.request place.unit))))
  by_method (Some method) second = times_same first_value (second_value method second u.second refl (seconds method second place.unit u is_unit))

  pub place_value : Same (seat_value unit_values (Some (seat_by plan.second at place))) (times (asked_fraction s.request place.unit) (stage_fraction u.second place.place))
  place_value = by_method plan.second refl

-- the probability that a plan gives the row
module _ (strata : List Stratum) (row : ℕ) (place : Seat) (here : StandsIn strata row place) where
  pub fraction_is : seat_fraction strata place ≡ times (asked_fraction here.stratum.request place.unit) (stage_fraction here.unit.second place.place)
  fraction_is =
      ap (λ o. times (unit_fraction o place.unit) (place_fraction (option_and_then (λ s. slice_get s.units place.unit) o) place.place)) here.is_stratum
      ∙ ap (λ o. times (asked_fraction here.stratum.request place.unit) (place_fraction o place.place)) here.is_unit

module _ (plan : Plan) (drawable : CanBeDrawn plan) where
  -- in the whole selection
  pub row_value_is : (states : List AnyState) → EachStarts (stages_of plan) states → (row : ℕ) → row < plan.rows → Same (seat_value (unit_value tree_of (stages_of plan) states) (slice_get (seats_of plan) row)) (row_fraction plan row)
  row_value_is states each row l =
      let place = place_of plan.strata row in
      let here = place_stands plan drawable row l in
      rw (seat_at plan drawable row l, fraction_is plan.strata row place here)
      (place_value plan states each place.stratum place here.stratum here.unit here.is_stratum here.is_unit (first_is plan drawable place.stratum place.unit here.stratum here.unit here.is_stratum here.is_unit).staged
      (λ method second. seconds_in plan drawable method second place.stratum here.stratum here.is_stratum))

  -- and in that of its stratum alone
  pub alone_value_is : (h : ℕ) (states : List AnyState) → EachStarts (stages_of (parts_by plan (Some h))) states → (row : ℕ) → row < plan.rows → is_of_stratum plan h row ≡ true
      → Same (seat_value (unit_value tree_of (stages_of (parts_by plan (Some h))) states) (Some (seat_by plan.second 0 (place_of plan.strata row)))) (row_fraction plan row)
  alone_value_is h states each row l its =
      let place = place_of plan.strata row in
      let here = place_stands plan drawable row l in
      rw (fraction_is plan.strata row place here)
      (place_value (parts_by plan (Some h)) states each 0 place here.stratum here.unit (its_place plan drawable h row here its) here.is_unit (first_is plan drawable place.stratum place.unit here.stratum here.unit here.is_stratum here.is_unit).staged
      (λ method second. seconds_in plan drawable method second place.stratum here.stratum here.is_stratum))
