-- The strata that a selection covers: their stages are stages in their order, and sections of all of them.
use Rattle.std.proofs.Common.{◌≡◌, ℕ, zero, suc, ◌+◌, ◌<◌, ◌≤◌, Bool, true, false, List, [], ◌∷◌, length, map}
use Rattle.std.proofs.Common.{get_or, take, drop, Option, Some, None, arith, refl, sym, ap, subst, ◌∙◌, inl, inr, length-append}
use Rattle.std.specs.Prelude.{option_map}
use Rattle.std.specs.List.{range_with_len, slice_get}
use Rattle.std.proofs.lemmas.Bool.{cases_Bool, eqb-true}
use Rattle.std.proofs.lemmas.List.{length-map, length-take}
use Rattle.std.proofs.lemmas.List.FromFn.{length-range_with_len, get_or-range_with_len}
use Rattle.std.proofs.lemmas.Option.{slice_get_within, slice_get-map, slice_get-get_or, same_Some}
use Rattle.smp_split.specs.declared.places.Place.{Place}
use Rattle.smp_split.specs.declared.places.Seat as seats
use Rattle.smp_split.specs.declared.places.Seat.TheVariants as seat
use Rattle.smp_split.specs.OwnStages.{AreSections}
use Rattle.smp_split.specs.Stages.{IsFirstUnit, IsStaged, IsUnitWithin, within_of}
use Rattle.smp_split.proofs.OwnStages.{run_at}
use Rattle.smp_strata.specs.Plans.{Plan}
use Rattle.smp_strata.specs.declared.strata.Stratum.{Stratum}
use Rattle.smp_twostage.specs.Plans.{CanBeDrawn}
use Rattle.smp_twostage.specs.Selections.{Coverage, count_by, covered_seats, covered_stages, first_number, is_of_stratum, is_together}
use Rattle.smp_twostage.specs.Selections.{parts_by, place_of, place_together, seat_alone, seat_together, seats_by}
use Rattle.smp_twostage.specs.Selections.{seats_together, section_count, stage_of_strata, stages_before}
use Rattle.smp_twostage.specs.Selections.{stages_below, stages_in, stages_of, tree_of, unit_count, units_before}
use Rattle.smp_twostage.specs.Kept.Sides.{seats_in, section_count_by, stages_before_by, stages_by}
use Rattle.smp_twostage.specs.Laws.Places.{StandsIn}
use Rattle.smp_twostage.specs.Laws.Staged.{first_seat, place_stands, second_seat, seconds_in, staged_below, whole_staged}

-- ---- the sections of the strata

module _ (plan : Plan) where
  pub number_rises : (h : ℕ) → first_number plan h ≤ first_number plan (suc h)
  number_rises h = omega (
    arith,
    length-append (stages_below plan h)
        (stages_in plan (length (stages_below plan h)) (slice_get plan.strata h)),
  )

  one_section : (strata : List Stratum) → length strata ≤ 1
      → first_number (record plan { strata = strata }) 1 ≡ length (stages_of (record plan { strata = strata }))
  one_section [] few = refl
  one_section (s ∷ []) few = refl
  one_section (s ∷ t ∷ strata) few = absurd (omega (arith, few))

  pub strata_are : (only : Option ℕ) → AreSections (stages_of (parts_by plan only)) (first_number (parts_by plan only))
      (count_by only (length plan.strata))
  strata_are None = record { first = refl; rises = λ h _. number_rises h; last = refl }
  strata_are (Some h) = record {
    first = refl;
    rises = λ i _. omega (
      arith,
      length-append (stages_below (parts_by plan (Some h)) i)
          (stages_in (parts_by plan (Some h)) (length (stages_below (parts_by plan (Some h)) i))
          (slice_get (parts_by plan (Some h)).strata i)),
    );
    last = one_section (take 1 (drop h plan.strata)) (simp length-take (omega arith));
  }

pub sections_case : (together : Bool) (c : Coverage)
    → AreSections (stages_by together c) (stages_before_by together c) (section_count_by together c)
sections_case true c = record { first = refl; rises = λ h l. omega arith; last = refl }
sections_case false c = strata_are c.plan c.only

pub strata_are_sections : (c : Coverage) → AreSections (covered_stages c) (stages_before c) (section_count c)
strata_are_sections c = sections_case (is_together c) c

-- ---- one stratum alone

module _ (plan : Plan) (h : ℕ) (s : Stratum) (is : slice_get plan.strata h ≡ Some s) where
  -- it is the first of those that are drawn
  pub alone_there : slice_get (parts_by plan (Some h)).strata 0 ≡ Some s
  alone_there = let same : h + 0 ≡ h = omega arith in run_at plan.strata h 1 0 (omega arith) ∙ ap (slice_get plan.strata) same ∙ is

-- an element of a list that is made of the numbers below n
pub made_at : {X : Type 0} (f : ℕ → X) (n row : ℕ) → row < n → slice_get (map f (range_with_len 0 n)) row ≡ Some (f row)
made_at f n row l =
    let within : row < length (range_with_len 0 n) = omega (arith, l, length-range_with_len 0 n) in
    let number : get_or (range_with_len 0 n) row 0 ≡ row = omega (arith, get_or-range_with_len 0 n row 0 l) in
    slice_get-map f (range_with_len 0 n) row
    ∙ ap (option_map f) (slice_get-get_or (range_with_len 0 n) row 0 within ∙ ap Some number)

module _ (plan : Plan) (drawable : CanBeDrawn plan) (h : ℕ) where
  abbrev alone : Plan
  alone = parts_by plan (Some h)

  -- the seat of a row is that of its place, where the row is in the stratum
  pub record SitsAlone (row : ℕ) (seat : seats.Seat) : Type 0 where
    pub inside : row < plan.rows
    pub is : seat ≡ seat_alone plan h row
    pub place : StandsIn plan.strata row (place_of plan.strata row)

  pub length_alone : length (seats_by plan (Some h)) ≡ plan.rows
  length_alone = length-map (range_with_len 0 plan.rows) (seat_alone plan h) ∙ length-range_with_len 0 plan.rows

  sits : (row : ℕ) (seat : seats.Seat) → slice_get (seats_by plan (Some h)) row ≡ Some seat → SitsAlone row seat
  sits row seat at =
      let inside : row < plan.rows = omega (arith, slice_get_within (seats_by plan (Some h)) row seat at, length_alone) in
      record {
        inside = inside;
        is = same_Some seat (seat_alone plan h row)
            (sym at ∙ made_at (seat_alone plan h) plan.rows row inside);
        place = place_stands plan drawable row inside;
      }

  module _ (row : ℕ) (here : StandsIn plan.strata row (place_of plan.strata row)) (its : is_of_stratum plan h row ≡ true) where
    pub its_stratum : slice_get plan.strata h ≡ Some here.stratum
    its_stratum = ap (slice_get plan.strata) (sym (eqb-true (place_of plan.strata row).stratum h its)) ∙ here.is_stratum

    pub its_place : slice_get alone.strata 0 ≡ Some here.stratum
    its_place = alone_there plan h here.stratum its_stratum

  first_alone : (row : ℕ) → StandsIn plan.strata row (place_of plan.strata row) → (unit : Place)
      → seat.First unit ≡ seat_alone plan h row → IsFirstUnit tree_of (stages_of alone) unit
  first_alone row here unit is =
      elim (cases_Bool (is_of_stratum plan h row)) [
        | inl its ↦
            first_seat alone 0 (place_of plan.strata row) here.stratum here.unit row (its_place row here its) here.is_unit here.is_row
            (λ method second. seconds_in plan drawable method second h here.stratum (its_stratum row here its))
            plan.second refl unit (rw its at is)
        | inr other ↦ absurd (let nowhere : seat.First unit ≡ seat.Nowhere = rw other at is in cc)
      ]

  second_alone : (row : ℕ) → StandsIn plan.strata row (place_of plan.strata row) → (first second : Place)
      → seat.Second first second ≡ seat_alone plan h row → IsUnitWithin tree_of (stages_of alone) first second
  second_alone row here first second is =
      elim (cases_Bool (is_of_stratum plan h row)) [
        | inl its ↦
            second_seat alone 0 (place_of plan.strata row) here.stratum here.unit row (its_place row here its) here.is_unit here.is_row
            (λ method asks. seconds_in plan drawable method asks h here.stratum (its_stratum row here its))
            plan.second refl first second (rw its at is)
        | inr other ↦ absurd (let nowhere : seat.Second first second ≡ seat.Nowhere = rw other at is in cc)
      ]

  pub alone_staged : IsStaged tree_of (stages_of alone) (seats_by plan (Some h))
  alone_staged = record {
    within = (staged_below alone (length alone.strata)).within;
    first = λ row unit at. let is = sits row (seat.First unit) at in first_alone row is.place unit is.is;
    second = λ row first second at. let is = sits row (seat.Second first second) at in second_alone row is.place first second is.is;
  }

-- ---- all strata together

-- a unit stands among all units
pub before_within : (strata : List Stratum) (h k : ℕ) (s : Stratum) → slice_get strata h ≡ Some s → k < length s.units
    → units_before strata h + k < unit_count strata
before_within [] h k s is l = absurd (cc)
before_within (t ∷ strata) zero k s is l =
    let same : t ≡ s = same_Some t s is in
    let here : k < length t.units = subst (λ (u : Stratum). k < length u.units) (sym same) l in
    omega (arith, here)
before_within (t ∷ strata) (suc h) k s is l = omega (arith, before_within strata h k s is l)

module _ (plan : Plan) (drawable : CanBeDrawn plan) where
  pub length_together : length (seats_together plan) ≡ plan.rows
  length_together = length-map (range_with_len 0 plan.rows) (seat_together plan) ∙ length-range_with_len 0 plan.rows

  pub seat_is_together : (row : ℕ) (seat : seats.Seat) → slice_get (seats_together plan) row ≡ Some seat
      → (row < plan.rows) × (seat ≡ seat_together plan row)
  seat_is_together row seat at =
      let inside : row < plan.rows = omega (arith, slice_get_within (seats_together plan) row seat at, length_together) in
      (inside, same_Some seat (seat_together plan row) (sym at ∙ made_at (seat_together plan) plan.rows row inside))

  first_together : (row : ℕ) (unit : Place) → slice_get (seats_together plan) row ≡ Some (seat.First unit)
      → IsFirstUnit tree_of (stage_of_strata plan ∷ []) unit
  first_together row unit at =
      let is = seat_is_together row (seat.First unit) at in
      let here : StandsIn plan.strata row (place_of plan.strata row) = place_stands plan drawable row is.0 in
      let own : Place = place_together plan.strata (place_of plan.strata row).stratum (place_of plan.strata row).unit in
      let same : seat.First unit ≡ seat.First own = is.1 in
      let place : own ≡ unit = cc in
      subst (IsFirstUnit tree_of (stage_of_strata plan ∷ [])) place (record {
        unit = before_within plan.strata (place_of plan.strata row).stratum (place_of plan.strata row).unit here.stratum here.is_stratum
            (slice_get_within here.stratum.units (place_of plan.strata row).unit here.unit here.is_unit);
        first = refl;
      })

  none_within : (i : ℕ) (place : Place) → within_of (slice_get (stage_of_strata plan ∷ []) i) ≡ Some place → ⊥
  none_within zero place is = absurd (cc)
  none_within (suc i) place is = absurd (cc)

  pub together_staged : IsStaged tree_of (stage_of_strata plan ∷ []) (seats_together plan)
  together_staged = record {
    within = λ i place is. absurd (none_within i place is);
    first = first_together;
    second = λ row first second at.
        absurd (let same : seat.Second first second ≡ seat_together plan row =
        (seat_is_together row (seat.Second first second) at).1 in cc);
  }

-- ---- the stages of those that are covered

staged_by : (plan : Plan) → CanBeDrawn plan → (only : Option ℕ)
    → IsStaged tree_of (stages_of (parts_by plan only)) (seats_by plan only)
staged_by plan drawable None = whole_staged plan drawable
staged_by plan drawable (Some h) = alone_staged plan drawable h

staged_case : (together : Bool) (c : Coverage) → CanBeDrawn c.plan → IsStaged tree_of (stages_by together c) (seats_in together c)
staged_case true c drawable = together_staged c.plan drawable
staged_case false c drawable = staged_by c.plan drawable c.only

pub covered_staged : (c : Coverage) → CanBeDrawn c.plan → IsStaged tree_of (covered_stages c) (covered_seats c)
covered_staged c drawable = staged_case (is_together c) c drawable
