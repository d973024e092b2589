-- Only rows that can be selected are selected.
use Rattle.std.proofs.Common.{◌≡◌, ℕ, zero, suc, ◌+◌, ◌*◌, ◌<◌, ◌≤◌, mul-pos, Bool, true, false, true≢false, ℤ, pos, negsuc, List, [], ◌∷◌, length, Option, Some, None, arith, refl, sym, ap, subst, ◌∙◌, inl, inr}
use Rattle.std.specs.{Prelude.{is_some, slice_index, option_and_then}, List.{slice_get}}
use Rattle.std.proofs.{lemmas.Bool.{and_parts, cases_Bool}, lemmas.Option.{slice_get_within}}
use Rattle.smp_frac.specs.Fractions.{Fraction, times}
use Rattle.smp_prob.specs.{declared.requests.Request.{Request}, declared.inclusions.Inclusion.{Inclusion}, Requests.{IsRequest}}
use Rattle.smp_prob.specs.declared.inclusions.Inclusion.TheVariants.{Certain, Free, Never}
use Rattle.smp_prob.specs.Inclusions.{asked_fraction, fraction_at, is_taken, inclusion}
use Rattle.smp_design.specs.{declared.method.Method.{Method}, Words.{draws_together}}
use Rattle.smp_split.specs.{Laws.Rows.{free_within}, declared.places.Place.{Place}, declared.places.Stage.{Stage}}
use Rattle.smp_methods.specs.{declared.any.AnyState.{AnyState}, Methods.{method_of}}
use Rattle.smp_split.specs.Stages.{Progress, read, seat_selected, staged_tree, unit_selected}
use Rattle.smp_strata.specs.{Bounds.{DrawsWholeOver}, Plans.{Plan}, declared.strata.Seat.{Seat}}
use Rattle.smp_strata.specs.Seats.{first_at, first_fraction, place_fraction, stage_fraction, unit_fraction}
use Rattle.smp_twostage.specs.{Plans.{CanBeDrawn}, Selections.{second_stage, stage_of_strata, stages_of, units_before}}
use Rattle.smp_twostage.specs.Selections.{Coverage, Selecting, tree_of, covered_tree, first_number, first_stage, is_of_stratum, is_together, parts_by, place_of, seat_alone, seat_by, seat_together}
use Rattle.smp_twostage.specs.{Kept.Sides.{seats_in, stages_by}, Starts.{is_positive, row_fraction}, Laws.Covered.{its_place, made_at}}
use Rattle.smp_twostage.specs.{Laws.Numbering.{first_there, second_there}, Laws.Places.{StandsIn}}
use Rattle.smp_twostage.specs.Laws.Staged.{first_is, none_in, place_stands, seat_at, seconds_in}
use Rattle.smp_twostage.proofs.{Columns.{are_over, is_planned}, DrawnTogether.{taken_behind}, OverAll.{free_before, stands_over}}

positive_number : (n : ℕ) → 1 ≤ n → is_positive (pos n) ≡ true
positive_number zero some = absurd (omega (arith, some))
positive_number (suc n) some = refl

abbrev IsAbove : ℤ → Type 0
IsAbove z = (n : ℕ) × (z ≡ pos (suc n))

above : (z : ℤ) → is_positive z ≡ true → IsAbove z
above (pos zero) is = absurd (true≢false (sym is))
above (pos (suc n)) is = (n, refl)
above (negsuc n) is = absurd (true≢false (sym is))

-- a product of two positive fractions
positive_times : (a b : Fraction) → is_positive a.num ≡ true → is_positive b.num ≡ true → is_positive (times a b).num ≡ true
positive_times a b first second =
    let m = above a.num first in
    let n = above b.num second in
    rw (m.1, n.1) (positive_number (suc m.0 * suc n.0) (mul-pos (omega arith) (omega arith)))

-- a unit that is taken has a positive probability
module _ (request : Request) (sound : IsRequest request) (chosen : ℕ → Bool) where
  taken_at : (stands : Inclusion) → ((unit : ℕ) → stands ≡ Free unit → unit < length request.free) → is_taken chosen stands ≡ true → is_positive (fraction_at request stands).num ≡ true
  taken_at Certain within taken = refl
  taken_at (Free unit) within taken =
      let here : unit < length request.free = within unit refl in
      positive_number (slice_index request.shape unit * request.r) (mul-pos (sound.positive unit (omega (arith, here, sound.paired))) (sound.drawn (omega (arith, here))))
  taken_at Never within taken = absurd (true≢false (sym taken))

  taken_positive : (unit : ℕ) → is_taken chosen (inclusion request unit) ≡ true → is_positive (asked_fraction request unit).num ≡ true
  taken_positive unit = taken_at (inclusion request unit) (free_within request unit)

-- what the second stage does to the probability of a row
module _ (plan : Plan) (row : ℕ) (here : StandsIn plan.strata row (place_of plan.strata row)) where
  abbrev seat : Seat
  seat = place_of plan.strata row

  place_is : place_fraction (first_at plan.strata seat.stratum seat.unit) seat.place ≡ stage_fraction here.unit.second seat.place
  place_is =
      ap (λ o. place_fraction (option_and_then (λ s. slice_get s.units seat.unit) o) seat.place) here.is_stratum
      ∙ ap (λ o. place_fraction o seat.place) here.is_unit

  without : (request : Option Request) → is_some request ≡ false → is_positive (stage_fraction request seat.place).num ≡ true
  without None none = refl
  without (Some request) none = absurd (cc)

-- ---- a row that is selected, where all strata are drawn or one alone

-- the strata that are drawn, of which that of the row has this number
module _ (plan : Plan) (drawable : CanBeDrawn plan) (drawn : Plan) (second_same : drawn.second ≡ plan.second) (number : ℕ) (states : List AnyState) where
  -- a unit that is selected in its stage
  selected_at : (stage : Stage Selecting) (unit : ℕ) (state : Option AnyState) → IsRequest stage.design.request → read tree_of false (λ tree s. tree.selected s unit) (Some stage) state ≡ true → is_positive (asked_fraction stage.design.request unit).num ≡ true
  selected_at stage unit (Some state) sound selected = taken_positive stage.design.request sound ((method_of stage.design.design).tree.selected state) unit selected
  selected_at stage unit None sound selected = absurd (true≢false (sym selected))

  selected_unit : (i unit : ℕ) (stage : Stage Selecting) → slice_get (stages_of drawn) i ≡ Some stage → IsRequest stage.design.request → unit_selected tree_of (stages_of drawn) states (record { stage = i; unit = unit }) ≡ true → is_positive (asked_fraction stage.design.request unit).num ≡ true
  selected_unit i unit stage is sound selected =
      selected_at stage unit (slice_get states i) sound (ap (λ o. read tree_of false (λ tree s. tree.selected s unit) o (slice_get states i)) (sym is) ∙ selected)

  module _ (row : ℕ) (here : StandsIn plan.strata row (place_of plan.strata row)) (found : slice_get drawn.strata number ≡ Some here.stratum) where
    abbrev place : Seat
    place = place_of plan.strata row

    abbrev at : ℕ
    at = first_number drawn number

    abbrev is_selected : Place → Bool
    is_selected = unit_selected tree_of (stages_of drawn) states

    first_positive : is_selected (record { stage = at; unit = place.unit }) ≡ true → is_positive (first_fraction plan.strata place.stratum place.unit).num ≡ true
    first_positive selected =
        subst (λ o. is_positive (unit_fraction o place.unit).num ≡ true) (sym here.is_stratum)
        (selected_unit at place.unit (first_stage drawn here.stratum) (first_there drawn number here.stratum found) (is_planned plan drawable place.stratum here.stratum here.is_stratum).stratum.over.sound selected)

    second_positive : (method : Method) → plan.second ≡ Some method → (request : Option Request) → here.unit.second ≡ request → is_some request ≡ true → is_selected (record { stage = suc (at + place.unit); unit = place.place }) ≡ true
        → is_positive (stage_fraction request place.place).num ≡ true
    second_positive method second (Some request) asks some selected =
        let over : DrawsWholeOver (length here.unit.rows) request = rw asks at (first_is plan drawable place.stratum place.unit here.stratum here.unit here.is_stratum here.is_unit).over in
        selected_unit (suc (at + place.unit)) place.place (second_stage method request (length here.unit.rows) at place.unit)
        (second_there drawn number here.stratum found method (second_same ∙ second) (seconds_in plan drawable method second place.stratum here.stratum here.is_stratum) place.unit here.unit here.is_unit request asks)
        over.over.sound selected
    second_positive method second None asks some selected = absurd (cc)

    by_method : (method : Option Method) → plan.second ≡ method → seat_selected is_selected (Some (seat_by method at place)) ≡ true → is_positive (row_fraction plan row).num ≡ true
    by_method None second selected =
        positive_times (first_fraction plan.strata place.stratum place.unit) (place_fraction (first_at plan.strata place.stratum place.unit) place.place) (first_positive selected)
        (ap (λ (f : Fraction). is_positive f.num) (place_is plan row here) ∙ without plan row here here.unit.second (none_in plan drawable second place.stratum place.unit here.stratum here.unit here.is_stratum here.is_unit))
    by_method (Some method) second selected =
        let both = and_parts _ _ selected in
        positive_times (first_fraction plan.strata place.stratum place.unit) (place_fraction (first_at plan.strata place.stratum place.unit) place.place) (first_positive both.0)
        (ap (λ (f : Fraction). is_positive f.num) (place_is plan row here)
        ∙ second_positive method second here.unit.second refl (seconds_in plan drawable method second place.stratum here.stratum here.is_stratum place.unit here.unit here.is_unit) both.1)

-- ---- a row that is selected, where all strata are drawn together

module _ (plan : Plan) (drawable : CanBeDrawn plan) (row : ℕ) (here : StandsIn plan.strata row (place_of plan.strata row)) where
  abbrev its : Seat
  its = place_of plan.strata row

  taken_over : (state : Option AnyState) → read tree_of false (λ tree s. tree.selected s (units_before plan.strata its.stratum + its.unit)) (Some (stage_of_strata plan)) state ≡ true → is_positive (first_fraction plan.strata its.stratum its.unit).num ≡ true
  taken_over (Some state) selected =
      let chosen : ℕ → Bool = (method_of (stage_of_strata plan).design.design).tree.selected state in
      let before : ℕ = free_before plan.strata its.stratum in
      let is : is_taken chosen (inclusion (stage_of_strata plan).design.request (units_before plan.strata its.stratum + its.unit)) ≡ is_taken (λ unit. chosen (before + unit)) (inclusion here.stratum.request its.unit) =
      ap (is_taken chosen) (stands_over plan.strata (are_over plan drawable) its.stratum its.unit here.stratum here.is_stratum (slice_get_within here.stratum.units its.unit here.unit here.is_unit))
      ∙ taken_behind chosen before (inclusion here.stratum.request its.unit) in
      subst (λ o. is_positive (unit_fraction o its.unit).num ≡ true) (sym here.is_stratum)
      (taken_positive here.stratum.request (is_planned plan drawable its.stratum here.stratum here.is_stratum).stratum.over.sound (λ unit. chosen (before + unit)) its.unit (sym is ∙ selected))
  taken_over None selected = absurd (true≢false (sym selected))

  positive_together : (states : List AnyState) → plan.second ≡ None → seat_selected (unit_selected tree_of (stage_of_strata plan ∷ []) states) (Some (seat_together plan row)) ≡ true → is_positive (row_fraction plan row).num ≡ true
  positive_together states one_stage selected =
      positive_times (first_fraction plan.strata its.stratum its.unit) (place_fraction (first_at plan.strata its.stratum its.unit) its.place) (taken_over (slice_get states 0) selected)
      (ap (λ (f : Fraction). is_positive f.num) (place_is plan row here)
      ∙ without plan row here here.unit.second (none_in plan drawable one_stage its.stratum its.unit here.stratum here.unit here.is_stratum here.is_unit))

-- ---- by the plan

module _ (plan : Plan) (drawable : CanBeDrawn plan) (leaf : Progress AnyState) (row : ℕ) (l : row < plan.rows) where
  abbrev stands : StandsIn plan.strata row (place_of plan.strata row)
  stands = place_stands plan drawable row l

  abbrev IsSelected : Bool → Option ℕ → Type 0
  IsSelected together only =
      (staged_tree tree_of (stages_by together (record { plan = plan; only = only })) (seats_in together (record { plan = plan; only = only }))).selected leaf row ≡ true

  one_by_one : (only : Option ℕ) → IsSelected false only → is_positive (row_fraction plan row).num ≡ true
  one_by_one None selected =
      by_method plan drawable plan refl (place_of plan.strata row).stratum leaf.states row stands stands.is_stratum plan.second refl
      (ap (seat_selected (unit_selected tree_of (stages_of plan) leaf.states)) (sym (seat_at plan drawable row l)) ∙ selected)
  one_by_one (Some h) selected =
      let test = seat_selected (unit_selected tree_of (stages_of (parts_by plan (Some h))) leaf.states) in
      let seated : test (Some (seat_alone plan h row)) ≡ true = ap test (sym (made_at (seat_alone plan h) plan.rows row l)) ∙ selected in
      elim (cases_Bool (is_of_stratum plan h row)) [
        | inl its ↦ by_method plan drawable (parts_by plan (Some h)) refl 0 leaf.states row stands (its_place plan drawable h row stands its) plan.second refl (rw its at seated)
        | inr other ↦ absurd (true≢false (sym (let no : false ≡ true = rw other at seated in no)))
      ]

  by_test : (together : Bool) → draws_together plan.procedure.method ≡ together → (only : Option ℕ) → IsSelected together only → is_positive (row_fraction plan row).num ≡ true
  by_test true is only selected =
      positive_together plan drawable row stands leaf.states (drawable.together is).one_stage
      (ap (seat_selected (unit_selected tree_of (stage_of_strata plan ∷ []) leaf.states)) (sym (made_at (seat_together plan) plan.rows row l)) ∙ selected)
  by_test false is only selected = one_by_one only selected

-- a row that is selected has a positive probability
pub covered_positive : (c : Coverage) → CanBeDrawn c.plan → (leaf : Progress AnyState) (row : ℕ) → row < c.plan.rows → (covered_tree c).selected leaf row ≡ true → is_positive (row_fraction c.plan row).num ≡ true
covered_positive c drawable leaf row l selected = by_test c.plan drawable leaf row l (is_together c) refl c.only selected
