-- Each row stands at one seat of a plan, and gets the probability that is asked for it.
use Rattle.std.proofs.Common.{◌≡◌, ℕ, zero, suc, ◌+◌, ◌<◌, ◌≤◌, Bool, true, List, [], ◌∷◌, length, map, filter, get_or, nat_eq, Option, Some, None, inl, inr, arith, refl, sym, ap, ◌∙◌}
use Rattle.std.specs.{Prelude.{All, slice_get, option_map}, List.{range_with_len}}
use Rattle.std.proofs.{lemmas.Bool.{cases_Bool, eqb-true}, lemmas.List.{length-map}}
use Rattle.std.proofs.lemmas.List.FromFn.{length-range_with_len, get_or-range_with_len, get_or-map-range_with_len}
use Rattle.std.proofs.lemmas.Option.{slice_get-map, slice_get_within, slice_get-get_or, option_and_then_some, same_Some}
use Rattle.smp_frac.specs.Fractions.{times}
use Rattle.smp_design.specs.declared.design.Design.{Design}
use Rattle.smp_frame.specs.declared.frame.Unit as unit
use Rattle.smp_prob.specs.Inclusions.{asked_fraction}
use Rattle.smp_strata.specs.{Clusters.{clusters, clusters_in, stratum_names}, Plans.{first_of, stratum_of}, Kept.Built.{AreSeats, seat_by}}
use Rattle.smp_strata.specs.{Seats.{IsSeat, seat_fraction, stage_fraction}, Kept.Groups.{places_of}, Kept.Layouts.{AreRows, AreGroups}}
use Rattle.smp_strata.specs.declared.strata.FirstUnit as first
use Rattle.smp_strata.specs.declared.strata.Seat as seat
use Rattle.smp_strata.specs.declared.strata.Stratum as stratum
use Rattle.smp_strata.proofs.Members.{homes, members_are}

some_map : {A B : Type 0} (f : A → B) (o : Option A) (y : B) → option_map f o ≡ Some y → {P : Type 0} → ((x : A) → o ≡ Some x → f x ≡ y → P) → P
some_map f None y e h = absurd (none e)
  where
    none : {C : Type 0} {z : C} → None ≡ Some z → ⊥
    none e = cc
some_map f (Some x) y e h = h x refl (same_Some (f x) y e)

-- ---- places by numbers

abbrev Within : (ℕ → Bool) → ℕ → ℕ → ℕ → Type 0
Within p a n x = (p x ≡ true) × (a ≤ x) × (x < a + n)

no_some : {A : Type 0} (x : A) → None ≡ Some x → ⊥
no_some x e = cc

inside : (p : ℕ → Bool) (a n i x : ℕ) → slice_get (filter p (range_with_len a n)) i ≡ Some x → Within p a n x
inside p a zero i x e = absurd (no_some x e)
inside p a (suc n) i x e =
    elim (cases_Bool (p a)) [
      | inr f ↦ wider (inside p (a + 1) n i x (rw f at e))
      | inl t ↦ at_head i (inside p (a + 1) n) (rw t at e) t
    ]
  where
    wider : Within p (a + 1) n x → Within p a (suc n) x
    wider h = (h.0, omega (arith, h.1), omega (arith, h.2))

    at_head : (j : ℕ) → ((i x : ℕ) → slice_get (filter p (range_with_len (a + 1) n)) i ≡ Some x → Within p (a + 1) n x)
        → slice_get (a ∷ filter p (range_with_len (a + 1) n)) j ≡ Some x → p a ≡ true → Within p a (suc n) x
    at_head zero later e t = (let same : a ≡ x = same_Some a x e in (ap p (sym same) ∙ t, omega (arith, same), omega (arith, same)))
    at_head (suc j) later e t = wider (later j x e)

one_place_each : (p : ℕ → Bool) (a n i j x : ℕ) → slice_get (filter p (range_with_len a n)) i ≡ Some x → slice_get (filter p (range_with_len a n)) j ≡ Some x → i ≡ j
one_place_each p a zero i j x e f = absurd (no_some x e)
one_place_each p a (suc n) i j x e f =
    elim (cases_Bool (p a)) [
      | inr g ↦ one_place_each p (a + 1) n i j x (rw g at e) (rw g at f)
      | inl t ↦ heads i j (λ i j. one_place_each p (a + 1) n i j x) (rw t at e) (rw t at f)
    ]
  where
    heads : (i j : ℕ) → ((i j : ℕ) → slice_get (filter p (range_with_len (a + 1) n)) i ≡ Some x → slice_get (filter p (range_with_len (a + 1) n)) j ≡ Some x → i ≡ j)
        → slice_get (a ∷ filter p (range_with_len (a + 1) n)) i ≡ Some x → slice_get (a ∷ filter p (range_with_len (a + 1) n)) j ≡ Some x → i ≡ j
    heads zero zero later e f = refl
    heads zero (suc j) later e f = absurd (omega (arith, same_Some a x e, (inside p (a + 1) n j x f).1))
    heads (suc i) zero later e f = absurd (omega (arith, same_Some a x f, (inside p (a + 1) n i x e).1))
    heads (suc i) (suc j) later e f = ap suc (later i j e f)

-- what stands at a place of a group has its number, and that place
pub in_group : (numbers : List ℕ) (count : ℕ) (groups : List (List ℕ)) (among : List ℕ) → AreGroups numbers count groups among → (k i x : ℕ) → slice_get (places_of numbers k) i ≡ Some x
    → (x < length numbers) × (get_or numbers x 0 ≡ k) × (get_or among x 0 ≡ i)
in_group numbers count groups among are k i x e =
    let h = inside (λ p. nat_eq (get_or numbers p 0) k) 0 (length numbers) i x e in
    let here : x < length numbers = omega (arith, h.2) in
    let number : get_or numbers x 0 ≡ k = eqb-true (get_or numbers x 0) k h.0 in
    (here, number, one_place_each (λ p. nat_eq (get_or numbers p 0) k) 0 (length numbers) (get_or among x 0) i x (rw number at (are.seated x here)) e)

-- ---- the strata of a plan

pub seat_fraction_is : (strata : List stratum.Stratum) (s : seat.Seat) (st : stratum.Stratum) (f : first.FirstUnit) → slice_get strata s.stratum ≡ Some st → slice_get st.units s.unit ≡ Some f
    → seat_fraction strata s ≡ times (asked_fraction st.request s.unit) (stage_fraction f.second s.place)
seat_fraction_is strata s st f e g = rw (e, g) refl

pub seat_within : (strata : List stratum.Stratum) (row : ℕ) (s : seat.Seat) → IsSeat strata row s → s.stratum < length strata
seat_within strata row s is =
    option_and_then_some (λ (f : first.FirstUnit). slice_get f.rows s.place) _ row is.there
    (λ f chosen place. option_and_then_some (λ (st : stratum.Stratum). slice_get st.units s.unit) (slice_get strata s.stratum) f chosen
    (λ st at unit. slice_get_within strata s.stratum st at))

pub unit_within : (strata : List stratum.Stratum) (row : ℕ) (s : seat.Seat) (st : stratum.Stratum) → IsSeat strata row s → slice_get strata s.stratum ≡ Some st → s.unit < length st.units
unit_within strata row s st is at =
    option_and_then_some (λ (f : first.FirstUnit). slice_get f.rows s.place) _ row is.there
    (λ f chosen place. slice_get_within st.units s.unit f (rw at at chosen))

-- what is asked of a row, by the stratum and the first stage unit that are read where its seat says
module _ (strata : List stratum.Stratum) (row : ℕ) (s : seat.Seat) (there : IsSeat strata row s) (st : stratum.Stratum) (read : st ≡ get_or strata s.stratum st) (f : first.FirstUnit) (unit_read : f ≡ get_or st.units s.unit f) where
  in_strata : slice_get strata s.stratum ≡ Some st
  in_strata = slice_get-get_or strata s.stratum st (seat_within strata row s there) ∙ ap Some (sym read)

  in_units : slice_get st.units s.unit ≡ Some f
  in_units = slice_get-get_or st.units s.unit f (unit_within strata row s st there in_strata) ∙ ap Some (sym unit_read)

  pub read_fraction : seat_fraction strata s ≡ times (asked_fraction st.request s.unit) (stage_fraction f.second s.place)
  read_fraction = seat_fraction_is strata s st f in_strata in_units

module _ (design : Design) (units : List unit.Unit) (rows : All (AreRows (length units)) (clusters design.second units))
    (strata : List stratum.Stratum) (strata_are : strata ≡ map (stratum_of design units) (range_with_len 0 (length (stratum_names units)))) where
  abbrev all : List (List ℕ)
  all = clusters design.second units

  pub stratum_is : (k : ℕ) → k < length (stratum_names units) → slice_get strata k ≡ Some (stratum_of design units k)
  stratum_is k l =
      ap (λ ss. slice_get ss k) strata_are ∙ slice_get-map (stratum_of design units) (range_with_len 0 (length (stratum_names units))) k
      ∙ ap (option_map (stratum_of design units)) (slice_get-get_or (range_with_len 0 (length (stratum_names units))) k 0 (omega (arith, l, length-range_with_len 0 (length (stratum_names units)))))
      ∙ ap (λ j. Some (stratum_of design units j)) (get_or-range_with_len 0 (length (stratum_names units)) k 0 l ∙ omega arith)

  stratum_from : (k : ℕ) (st : stratum.Stratum) → slice_get strata k ≡ Some st → (k < length (stratum_names units)) × (stratum_of design units k ≡ st)
  stratum_from k st e =
      let within : k < length strata = slice_get_within strata k st e in
      let long : length strata ≡ length (stratum_names units) = ap length strata_are ∙ length-map (range_with_len 0 (length (stratum_names units))) (stratum_of design units) ∙ length-range_with_len 0 (length (stratum_names units)) in
      let here : k < length (stratum_names units) = omega (arith, within, long) in
      (here, same_Some (stratum_of design units k) st (sym (stratum_is k here) ∙ e))

  pub first_is : (k : ℕ) → k < length (stratum_names units) → (u i : ℕ) → slice_get (places_of (homes design units rows) k) u ≡ Some i
      → slice_get (stratum_of design units k).units u ≡ Some (first_of design units (get_or all i []))
  first_is k l u i e =
      slice_get-map (first_of design units) (clusters_in design units k) u
      ∙ ap (λ gs. option_map (first_of design units) (slice_get gs u)) (sym (members_are design units rows k l))
      ∙ ap (option_map (first_of design units)) (slice_get-map (λ j. get_or all j []) (places_of (homes design units rows) k) u ∙ ap (option_map (λ j. get_or all j [])) e)

  -- where the row of a seat is found
  module _ (row_homes : List ℕ) (row_places : List ℕ) (row_groups : AreGroups row_homes (length all) all row_places)
      (members : List (List ℕ)) (places : List ℕ) (groups : AreGroups (homes design units rows) (length (stratum_names units)) members places) where
    abbrev by : ℕ → seat.Seat
    by row = seat_by (homes design units rows) places row_homes row_places row

    cluster_is : (i : ℕ) → i < length all → get_or all i [] ≡ places_of row_homes i
    cluster_is i l = ap (λ gs. get_or gs i []) row_groups.each ∙ get_or-map-range_with_len (places_of row_homes) 0 (length all) i i [] l (omega arith)

    pub home_within : (row : ℕ) → row < length row_homes → get_or row_homes row 0 < length all
    home_within row l = row_groups.within row 0 l

    long_homes : length (homes design units rows) ≡ length all
    long_homes = length-map all _

    pub stratum_at_home : (i : ℕ) → i < length all → get_or (homes design units rows) i 0 < length (stratum_names units)
    stratum_at_home i l = groups.within i 0 (omega (arith, l, long_homes))

    pub place_is : (row : ℕ) → row < length row_homes → slice_get (get_or all (get_or row_homes row 0) []) (get_or row_places row 0) ≡ Some row
    place_is row l = rw (cluster_is (get_or row_homes row 0) (home_within row l)) (row_groups.seated row l)

    pub unit_is : (row : ℕ) → row < length row_homes
        → slice_get (stratum_of design units (by row).stratum).units (by row).unit ≡ Some (first_of design units (get_or all (get_or row_homes row 0) []))
    unit_is row l =
        let home = home_within row l in
        first_is (by row).stratum (stratum_at_home (get_or row_homes row 0) home) (by row).unit (get_or row_homes row 0) (groups.seated (get_or row_homes row 0) (omega (arith, home, long_homes)))

    pub seat_here : (row : ℕ) → row < length row_homes → IsSeat strata row (by row)
    seat_here row l = record {
      there = rw (stratum_is (by row).stratum (stratum_at_home (get_or row_homes row 0) (home_within row l))) (rw (unit_is row l) (place_is row l));
    }

    seat_of_place : (s : seat.Seat) (row i : ℕ) → slice_get (places_of (homes design units rows) s.stratum) s.unit ≡ Some i → slice_get (get_or all i []) s.place ≡ Some row
        → (row < length row_homes) × (by row ≡ s)
    seat_of_place s row i e f =
        let unit = in_group (homes design units rows) (length (stratum_names units)) members places groups s.stratum s.unit i e in
        let place = in_group row_homes (length all) all row_places row_groups i s.place row (rw (cluster_is i (omega (arith, unit.0, long_homes))) at f) in
        (place.0, rw (place.1, unit.1, unit.2, place.2) refl)

    pub seat_only : (row : ℕ) (s : seat.Seat) → IsSeat strata row s → (row < length row_homes) × (by row ≡ s)
    seat_only row s is =
        option_and_then_some (λ (f : first.FirstUnit). slice_get f.rows s.place) _ row is.there
        (λ f chosen place. option_and_then_some (λ (st : stratum.Stratum). slice_get st.units s.unit) (slice_get strata s.stratum) f chosen
        (λ st at unit. (let from = stratum_from s.stratum st at in
        let unit_of : slice_get (stratum_of design units s.stratum).units s.unit ≡ Some f = ap (λ (x : stratum.Stratum). slice_get x.units s.unit) from.1 ∙ unit in
        let in_stratum : option_map (λ j. first_of design units (get_or all j [])) (slice_get (places_of (homes design units rows) s.stratum) s.unit) ≡ Some f =
        sym (slice_get-map (λ j. first_of design units (get_or all j [])) (places_of (homes design units rows) s.stratum) s.unit)
        ∙ ap (λ fs. slice_get fs s.unit) (sym (map_both (places_of (homes design units rows) s.stratum)) ∙ ap (map (first_of design units)) (members_are design units rows s.stratum from.0)) ∙ unit_of in
        some_map (λ j. first_of design units (get_or all j [])) (slice_get (places_of (homes design units rows) s.stratum) s.unit) f in_stratum
        (λ i e is_first. seat_of_place s row i e (ap (λ (x : first.FirstUnit). slice_get x.rows s.place) is_first ∙ place)))))
      where
        map_both : (js : List ℕ) → map (first_of design units) (map (λ j. get_or all j []) js) ≡ map (λ j. first_of design units (get_or all j [])) js
        map_both [] = refl
        map_both (j ∷ js) = ap (λ fs. first_of design units (get_or all j []) ∷ fs) (map_both js)

    pub are_seats : (seats : List seat.Seat) → length seats ≡ length row_homes → ((row : ℕ) (d : seat.Seat) → row < length row_homes → get_or seats row d ≡ by row) → AreSeats strata seats
    are_seats seats long each = record {
      here = λ row d l. (let h : row < length row_homes = omega (arith, l, long) in rw (each row d h) (seat_here row h));
      only = λ row s d is. (let h = seat_only row s is in (omega (arith, h.0, long), each row d h.0 ∙ h.1));
    }
