-- The stages of a plan are stages in their order, and each row has a seat in them.
use Rattle.std.proofs.Common.{◌≡◌, ℕ, true, false, zero, suc, ◌+◌, ◌<◌, ◌≤◌, List, [], ◌∷◌, ◌++◌, length}
use Rattle.std.proofs.Common.{get_or, Option, Some, None, arith, refl, sym, ap, subst, ◌∙◌, append_assoc, append-nil}
use Rattle.std.specs.Prelude.{is_some, option_map}
use Rattle.std.specs.List.{slice_get, range_with_len}
use Rattle.std.proofs.lemmas.List.{length-map}
use Rattle.std.proofs.lemmas.List.FromFn.{length-range_with_len, get_or-range_with_len}
use Rattle.std.proofs.lemmas.List.Elements.{All-get_or}
use Rattle.std.proofs.lemmas.Option.{slice_get_within, slice_get-map, slice_get-get_or, get_or_from_slice_get, same_Some}
use Rattle.smp_split.specs.Laws.Reads.{some_within}
use Rattle.smp_prob.specs.declared.requests.Request.{Request}
use Rattle.smp_design.specs.declared.method.Method.{Method}
use Rattle.smp_split.specs.declared.places.Place.{Place}
use Rattle.smp_split.specs.declared.places.Seat as seats
use Rattle.smp_split.specs.declared.places.Seat.TheVariants as seat
use Rattle.smp_split.specs.declared.places.Stage.{Stage}
use Rattle.smp_split.specs.Stages.{IsStaged, IsFirstUnit, IsUnitWithin, within_of}
use Rattle.smp_split.proofs.Grown.{none_staged, one_more_stage}
use Rattle.smp_strata.specs.Bounds.{IsFirst, IsStratum}
use Rattle.smp_strata.specs.Plans.{Plan}
use Rattle.smp_strata.specs.declared.strata.FirstUnit.{FirstUnit}
use Rattle.smp_strata.specs.declared.strata.Seat.{Seat}
use Rattle.smp_strata.specs.declared.strata.Stratum.{Stratum}
use Rattle.smp_twostage.specs.Plans.{CanBeDrawn}
use Rattle.smp_twostage.specs.Selections.{Selecting, tree_of, belongs_to, first_stage, second_stage, stage_by, stage_within, stages_within}
use Rattle.smp_twostage.specs.Selections.{stages_in, stages_below, stages_of, first_number, seat_by, seat_of, place_of, seats_of}
use Rattle.smp_twostage.specs.Laws.Lists.{slice_get_right}
use Rattle.smp_twostage.specs.Laws.Numbering.{HaveSeconds, first_there, second_there}
use Rattle.smp_twostage.specs.Laws.Places.{StandsIn, stands_in, place_is_seat}

-- ---- the stages are in their order

module _ (plan : Plan) (xs : List (Stage Selecting)) (s : Stratum) where
  abbrev with_first : ℕ → List (Stage Selecting)
  with_first n = xs ++ first_stage plan s ∷ stages_within plan.second (length xs) s.units n

  first_unit : (n k : ℕ) → k < length s.units → IsFirstUnit tree_of (with_first n) (record { stage = length xs; unit = k })
  first_unit n k l =
      let there : slice_get (with_first n) (length xs) ≡ Some (first_stage plan s) =
      slice_get_right xs (first_stage plan s ∷ stages_within plan.second (length xs) s.units n) 0 (length xs)
      (omega arith) in
      record { unit = rw there l; first = ap within_of there }

  one_more : (n : ℕ) → IsStaged tree_of (with_first n) [] → n < length s.units
      → (u : FirstUnit) (method : Option Method) (request : Option Request)
      → IsStaged tree_of (with_first n ++ stage_by method request (length u.rows) (length xs) n) []
  one_more n staged l u (Some method) (Some request) =
      one_more_stage tree_of belongs_to (with_first n) (second_stage method request (length u.rows) (length xs) n) [] staged
      (λ place is. subst (IsFirstUnit tree_of (with_first n))
      (same_Some (record { stage = length xs; unit = n }) place is) (first_unit n n l))
  one_more n staged l u (Some method) None = subst (λ stages. IsStaged tree_of stages []) (sym (append-nil (with_first n))) staged
  one_more n staged l u None request = subst (λ stages. IsStaged tree_of stages []) (sym (append-nil (with_first n))) staged

  unit_more : (n : ℕ) → IsStaged tree_of (with_first n) [] → (u : Option FirstUnit) → slice_get s.units n ≡ u
      → n < length s.units → IsStaged tree_of (with_first n ++ stage_within plan.second (length xs) n u) []
  unit_more n staged (Some u) is l = one_more n staged l u plan.second u.second
  unit_more n staged None is l = let some = some_within s.units n l in absurd (let none : None ≡ Some some.0 = sym is ∙ some.1 in cc)

  staged_within : IsStaged tree_of xs [] → (n : ℕ) → n ≤ length s.units → IsStaged tree_of (with_first n) []
  staged_within staged zero l = one_more_stage tree_of belongs_to xs (first_stage plan s) [] staged (λ place is. absurd (cc))
  staged_within staged (suc n) l =
      subst (λ stages. IsStaged tree_of stages [])
      (append_assoc xs (first_stage plan s ∷ stages_within plan.second (length xs) s.units n)
      (stage_within plan.second (length xs) n (slice_get s.units n)))
      (unit_more n (staged_within staged n (omega (arith, l))) (slice_get s.units n) refl l)

module _ (plan : Plan) where
  staged_in : (xs : List (Stage Selecting)) → IsStaged tree_of xs [] → (s : Option Stratum)
      → IsStaged tree_of (xs ++ stages_in plan (length xs) s) []
  staged_in xs staged (Some s) = staged_within plan xs s staged (length s.units) (omega arith)
  staged_in xs staged None = subst (λ stages. IsStaged tree_of stages []) (sym (append-nil xs)) staged

  pub staged_below : (n : ℕ) → IsStaged tree_of (stages_below plan n) []
  staged_below zero = none_staged tree_of
  staged_below (suc n) = staged_in (stages_below plan n) (staged_below n) (slice_get plan.strata n)

-- ---- the seat of a row that stands in stratum h

module _ (plan : Plan) (h : ℕ) (place : Seat) (s : Stratum) (u : FirstUnit) (row : ℕ)
    (is_stratum : slice_get plan.strata h ≡ Some s) (is_unit : slice_get s.units place.unit ≡ Some u)
    (is_row : slice_get u.rows place.place ≡ Some row)
    (seconds : (method : Method) → plan.second ≡ Some method → HaveSeconds s.units) where
  abbrev at : ℕ
  at = first_number plan h

  pub first_seat : (method : Option Method) → plan.second ≡ method → (unit : Place)
      → seat.First unit ≡ seat_by method at place → IsFirstUnit tree_of (stages_of plan) unit
  first_seat None second unit is =
      let there = first_there plan h s is_stratum in
      let same : ◌≡◌ {A = Place} unit (record { stage = at; unit = place.unit }) = cc in
      subst (IsFirstUnit tree_of (stages_of plan)) (sym same)
      (record { unit = rw there (slice_get_within s.units place.unit u is_unit); first = ap within_of there })
  first_seat (Some method) second unit is = absurd (cc)

  within_seat : (method : Method) → plan.second ≡ Some method → (request : Option Request) → u.second ≡ request
      → is_some request ≡ true
      → IsUnitWithin tree_of (stages_of plan) (record { stage = at; unit = place.unit })
      (record { stage = suc (at + place.unit); unit = place.place })
  within_seat method second (Some request) asks some =
      let there = second_there plan h s is_stratum method second (seconds method second) place.unit u is_unit request asks in
      record { unit = rw there (slice_get_within u.rows place.place row is_row); within = ap within_of there }
  within_seat method second None asks some = absurd (cc)

  pub second_seat : (method : Option Method) → plan.second ≡ method → (first second : Place)
      → seat.Second first second ≡ seat_by method at place → IsUnitWithin tree_of (stages_of plan) first second
  second_seat (Some method) is_method first second is =
      let same_first : ◌≡◌ {A = Place} first (record { stage = at; unit = place.unit }) = cc in
      let same_second : ◌≡◌ {A = Place} second (record { stage = suc (at + place.unit); unit = place.place }) = cc in
      subst (λ f. IsUnitWithin tree_of (stages_of plan) f second) (sym same_first)
      (subst (IsUnitWithin tree_of (stages_of plan) (record { stage = at; unit = place.unit })) (sym same_second)
      (within_seat method is_method u.second refl (seconds method is_method place.unit u is_unit)))
  second_seat None is_method first second is = absurd (cc)

-- ---- and the rows have seats in them

module _ (plan : Plan) (drawable : CanBeDrawn plan) where
  stratum_is : (h : ℕ) (s : Stratum) → slice_get plan.strata h ≡ Some s → IsStratum plan.second s
  stratum_is h s is =
      subst (IsStratum plan.second) (get_or_from_slice_get plan.strata h s s is)
      (All-get_or (IsStratum plan.second) plan.strata h s (slice_get_within plan.strata h s is)
      drawable.sound.strata)

  pub first_is : (h k : ℕ) (s : Stratum) (u : FirstUnit) → slice_get plan.strata h ≡ Some s
      → slice_get s.units k ≡ Some u → IsFirst plan.second u
  first_is h k s u is_s is_u =
      subst (IsFirst plan.second) (get_or_from_slice_get s.units k u u is_u)
      (All-get_or (IsFirst plan.second) s.units k u (slice_get_within s.units k u is_u)
      (stratum_is h s is_s).firsts)

  pub seconds_in : (method : Method) → plan.second ≡ Some method → (h : ℕ) (s : Stratum)
      → slice_get plan.strata h ≡ Some s → HaveSeconds s.units
  seconds_in method second h s is k u is_u = (first_is h k s u is is_u).staged ∙ ap is_some second

  pub none_in : plan.second ≡ None → (h k : ℕ) (s : Stratum) (u : FirstUnit) → slice_get plan.strata h ≡ Some s
      → slice_get s.units k ≡ Some u → is_some u.second ≡ false
  none_in second h k s u is_s is_u = (first_is h k s u is_s is_u).staged ∙ ap is_some second

  -- the seat of a row is that of its place in the plan
  pub record Sits (row : ℕ) (seat : seats.Seat) : Type 0 where
    pub inside : row < plan.rows
    pub is : seat ≡ seat_of plan (place_of plan.strata row)
    pub place : StandsIn plan.strata row (place_of plan.strata row)

  pub place_stands : (row : ℕ) → row < plan.rows → StandsIn plan.strata row (place_of plan.strata row)
  place_stands row l =
      let seated = drawable.sound.seated.seats row l in
      stands_in plan.strata row (place_of plan.strata row) (place_is_seat plan.strata row seated.seat seated.is)

  pub length_seats : length (seats_of plan) ≡ plan.rows
  length_seats = length-map (range_with_len 0 plan.rows) (λ row. seat_of plan (place_of plan.strata row))
      ∙ length-range_with_len 0 plan.rows

  pub seat_at : (row : ℕ) → row < plan.rows → slice_get (seats_of plan) row ≡ Some (seat_of plan (place_of plan.strata row))
  seat_at row l =
      let within : row < length (range_with_len 0 plan.rows) = omega (arith, l, length-range_with_len 0 plan.rows) in
      let number : get_or (range_with_len 0 plan.rows) row 0 ≡ row = omega (arith, get_or-range_with_len 0 plan.rows row 0 l) in
      slice_get-map (λ r. seat_of plan (place_of plan.strata r)) (range_with_len 0 plan.rows) row
      ∙ ap (option_map (λ r. seat_of plan (place_of plan.strata r)))
      (slice_get-get_or (range_with_len 0 plan.rows) row 0 within ∙ ap Some number)

  sits : (row : ℕ) (seat : seats.Seat) → slice_get (seats_of plan) row ≡ Some seat → Sits row seat
  sits row seat at =
      let inside : row < plan.rows = omega (arith, slice_get_within (seats_of plan) row seat at, length_seats) in
      record {
        inside = inside;
        is = same_Some seat (seat_of plan (place_of plan.strata row))
            (sym at ∙ seat_at row inside);
        place = place_stands row inside;
      }

module _ (plan : Plan) (drawable : CanBeDrawn plan) where
  module _ (row : ℕ) (here : StandsIn plan.strata row (place_of plan.strata row)) where
    first_in : (unit : Place) → seat.First unit ≡ seat_of plan (place_of plan.strata row) → IsFirstUnit tree_of (stages_of plan) unit
    first_in =
        first_seat plan (place_of plan.strata row).stratum (place_of plan.strata row) here.stratum here.unit row
        here.is_stratum here.is_unit here.is_row
        (λ method second. seconds_in plan drawable method second (place_of plan.strata row).stratum here.stratum
        here.is_stratum) plan.second refl

    second_in : (first second : Place) → seat.Second first second ≡ seat_of plan (place_of plan.strata row)
        → IsUnitWithin tree_of (stages_of plan) first second
    second_in =
        second_seat plan (place_of plan.strata row).stratum (place_of plan.strata row) here.stratum here.unit row
        here.is_stratum here.is_unit here.is_row
        (λ method asks. seconds_in plan drawable method asks (place_of plan.strata row).stratum here.stratum
        here.is_stratum) plan.second refl

  pub whole_staged : IsStaged tree_of (stages_of plan) (seats_of plan)
  whole_staged = record {
    within = (staged_below plan (length plan.strata)).within;
    first = λ row unit at. let is = sits plan drawable row (seat.First unit) at in first_in row is.place unit is.is;
    second = λ row first second at. let is = sits plan drawable row (seat.Second first second) at in
        second_in row is.place first second is.is;
  }
