-- The seat of each row, from its place in the plan.
use Rattle.std.proofs.Common.{◌≡◌, ◌≢◌, ℕ, suc, ◌+◌, ◌<◌, true, false, List, [], ◌∷◌, ◌++◌, length, map, Option, Some, None, arith, refl, sym, ap, subst, ◌∙◌}
use Rattle.std.specs.{Prelude.{is_some}, List.{range_with_len, slice_get}}
use Rattle.std.proofs.{lemmas.Bool.{eq-eqb, ne_eqb}, lemmas.List.FromFn.{map-range_with_len_more}, lemmas.Option.{slice_get_within}}
use Rattle.smp_prob.specs.declared.requests.Request.{Request}
use Rattle.smp_design.specs.declared.method.Method.{Method}
use Rattle.smp_split.specs.declared.places.Seat as seats
use Rattle.smp_split.specs.declared.places.Seat.TheVariants.{First, Nowhere}
use Rattle.smp_strata.specs.{Plans.{Plan}, Seats.{IsSeat}, declared.strata.Seat.{Seat}}
use Rattle.smp_twostage.specs.{Plans.{CanBeDrawn}, Laws.Covered.{alone_there}, Laws.Numbering.{second_there}}
use Rattle.smp_twostage.specs.Selections.{first_number, is_of_stratum, parts_by, place_of, place_together, seat_alone, seat_by, seat_of, seat_together, stages_of, units_before}
use Rattle.smp_twostage.specs.{Laws.Places.{StandsIn, place_is_seat}, Laws.Staged.{place_stands, seconds_in}}
use Rattle.smp_twostage.proofs.Columns.{is_planned}

module _ (plan : Plan) (drawable : CanBeDrawn plan) (row : ℕ) (l : row < plan.rows) (p : Seat) (once : (s : Seat) → IsSeat plan.strata row s → s ≡ p) where
  place_is : place_of plan.strata row ≡ p
  place_is = let seated = drawable.sound.seated.seats row l in once (place_of plan.strata row) (place_is_seat plan.strata row seated.seat seated.is)

  stands : StandsIn plan.strata row p
  stands = subst (StandsIn plan.strata row) place_is (place_stands plan drawable row l)

  pub inside : p.stratum < length plan.strata
  inside = slice_get_within plan.strata p.stratum stands.stratum stands.is_stratum

  room_for : (method : Method) → plan.second ≡ Some method → (request : Option Request) → stands.unit.second ≡ request → is_some request ≡ true → suc (first_number plan p.stratum + p.unit) < length (stages_of plan)
  room_for method second (Some request) asks some =
      slice_get_within (stages_of plan) (suc (first_number plan p.stratum + p.unit)) _
      (second_there plan p.stratum stands.stratum stands.is_stratum method second (seconds_in plan drawable method second p.stratum stands.stratum stands.is_stratum) p.unit stands.unit stands.is_unit request asks)
  room_for method second None asks some = absurd (cc)

  room_by : (method : Option Method) → plan.second ≡ method → is_some method ≡ true → suc (first_number plan p.stratum + p.unit) < length (stages_of plan)
  room_by (Some method) second some = room_for method second stands.unit.second refl (seconds_in plan drawable method second p.stratum stands.stratum stands.is_stratum p.unit stands.unit stands.is_unit)
  room_by None second some = absurd (cc)

  -- the number of the second stage within the unit is that of a stage
  pub room : is_some plan.second ≡ true → suc (first_number plan p.stratum + p.unit) < length (stages_of plan)
  room = room_by plan.second refl

  -- the seats of one more row
  pub next_seat : (done new : List seats.Seat) (seat : seats.Seat) → done ≡ map (λ r. seat_of plan (place_of plan.strata r)) (range_with_len 0 row) → seat ≡ seat_by plan.second (first_number plan p.stratum) p
      → new ≡ done ++ seat ∷ [] → new ≡ map (λ r. seat_of plan (place_of plan.strata r)) (range_with_len 0 (row + 1))
  next_seat done new seat so_far is more =
      let here : seat ≡ seat_of plan (place_of plan.strata row) = is ∙ ap (seat_of plan) (sym place_is) in
      more ∙ ap (λ xs. xs ++ seat ∷ []) so_far ∙ ap (λ s. map (λ r. seat_of plan (place_of plan.strata r)) (range_with_len 0 row) ++ s ∷ []) here
      ∙ sym (map-range_with_len_more (λ r. seat_of plan (place_of plan.strata r)) 0 row row (omega arith))

  -- ---- where all strata are drawn together

  pub unit_few : p.unit < 200000
  unit_few =
      let stratum = (is_planned plan drawable p.stratum stands.stratum stands.is_stratum).stratum in
      omega (arith, slice_get_within stands.stratum.units p.unit stands.unit stands.is_unit, stratum.few)

  pub next_together : (done new : List seats.Seat) (before : ℕ) → done ≡ map (seat_together plan) (range_with_len 0 row) → before ≡ units_before plan.strata p.stratum
      → new ≡ done ++ First (record { stage = 0; unit = before + p.unit }) ∷ [] → new ≡ map (seat_together plan) (range_with_len 0 (row + 1))
  next_together done new before so_far is more =
      let here : First (record { stage = 0; unit = before + p.unit }) ≡ seat_together plan row =
      ap (λ n. First (record { stage = 0; unit = n + p.unit })) is ∙ ap (λ (q : Seat). First (place_together plan.strata q.stratum q.unit)) (sym place_is) in
      more ∙ ap (λ xs. xs ++ First (record { stage = 0; unit = before + p.unit }) ∷ []) so_far ∙ ap (λ (s : seats.Seat). map (seat_together plan) (range_with_len 0 row) ++ s ∷ []) here
      ∙ sym (map-range_with_len_more (seat_together plan) 0 row row (omega arith))

  -- ---- where stratum h is drawn alone

  module _ (h : ℕ) where
    its : p.stratum ≡ h → is_of_stratum plan h row ≡ true
    its is = eq-eqb (place_of plan.strata row).stratum h (ap (λ (place : Seat). place.stratum) place_is ∙ is)

    other : p.stratum ≢ h → is_of_stratum plan h row ≡ false
    other ne = ne_eqb (place_of plan.strata row).stratum h (λ e. ne (ap (λ (place : Seat). place.stratum) (sym place_is) ∙ e))

    alone_room_for : p.stratum ≡ h → (method : Method) → plan.second ≡ Some method → (request : Option Request) → stands.unit.second ≡ request → is_some request ≡ true → suc (0 + p.unit) < length (stages_of (parts_by plan (Some h)))
    alone_room_for is method second (Some request) asks some =
        slice_get_within (stages_of (parts_by plan (Some h))) (suc (0 + p.unit)) _
        (second_there (parts_by plan (Some h)) 0 stands.stratum (alone_there plan h stands.stratum (ap (slice_get plan.strata) (sym is) ∙ stands.is_stratum)) method second
        (seconds_in plan drawable method second p.stratum stands.stratum stands.is_stratum) p.unit stands.unit stands.is_unit request asks)
    alone_room_for is method second None asks some = absurd (cc)

    alone_room_by : p.stratum ≡ h → (method : Option Method) → plan.second ≡ method → is_some method ≡ true → suc (0 + p.unit) < length (stages_of (parts_by plan (Some h)))
    alone_room_by is (Some method) second some = alone_room_for is method second stands.unit.second refl (seconds_in plan drawable method second p.stratum stands.stratum stands.is_stratum p.unit stands.unit stands.is_unit)
    alone_room_by is None second some = absurd (cc)

    pub alone_room : p.stratum ≡ h → is_some plan.second ≡ true → suc (0 + p.unit) < length (stages_of (parts_by plan (Some h)))
    alone_room is = alone_room_by is plan.second refl

    next_made : (done new : List seats.Seat) (seat : seats.Seat) → done ≡ map (seat_alone plan h) (range_with_len 0 row) → seat ≡ seat_alone plan h row → new ≡ done ++ seat ∷ [] → new ≡ map (seat_alone plan h) (range_with_len 0 (row + 1))
    next_made done new seat so_far is more =
        more ∙ ap (λ xs. xs ++ seat ∷ []) so_far ∙ ap (λ s. map (seat_alone plan h) (range_with_len 0 row) ++ s ∷ []) is
        ∙ sym (map-range_with_len_more (seat_alone plan h) 0 row row (omega arith))

    pub next_its : (done new : List seats.Seat) (seat : seats.Seat) → done ≡ map (seat_alone plan h) (range_with_len 0 row) → p.stratum ≡ h → seat ≡ seat_by plan.second 0 p
        → new ≡ done ++ seat ∷ [] → new ≡ map (seat_alone plan h) (range_with_len 0 (row + 1))
    next_its done new seat so_far stratum is more =
        let here : seat_alone plan h row ≡ seat_by plan.second 0 (place_of plan.strata row) = rw (its stratum) refl in
        next_made done new seat so_far (is ∙ ap (seat_by plan.second 0) (sym place_is) ∙ sym here) more

    pub next_other : (done new : List seats.Seat) (seat : seats.Seat) → done ≡ map (seat_alone plan h) (range_with_len 0 row) → p.stratum ≢ h → seat ≡ Nowhere
        → new ≡ done ++ seat ∷ [] → new ≡ map (seat_alone plan h) (range_with_len 0 (row + 1))
    next_other done new seat so_far stratum is more =
        let here : seat_alone plan h row ≡ Nowhere = rw (other stratum) refl in
        next_made done new seat so_far (is ∙ sym here) more
