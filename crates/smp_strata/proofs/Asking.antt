-- The plan of a frame that serves a design: it is sound, and gives each row the probability that is asked for it.
use Rattle.std.proofs.Common.{◌≡◌, ℕ, ◌+◌, ◌<◌, List, [], ◌∷◌, length, get_or, Option, Some, None, arith, refl, sym, ap, ◌∙◌}
use Rattle.std.specs.{Prelude.{All, IsTrue, slice_get, option_map}, List.{range_with_len, position_or_len}, Str.{bytes_eq}}
use Rattle.std.proofs.{lemmas.List.{get_or-map, length-map}, lemmas.List.Elements.{All-map}}
use Rattle.std.proofs.lemmas.List.FromFn.{length-range_with_len, get_or-range_with_len, get_or-map-range_with_len, length-map-range_with_len}
use Rattle.std.proofs.lemmas.Option.{slice_get-map, slice_get_within, get_or_from_slice_get}
use Rattle.smp_frac.specs.Fractions.{Same}
use Rattle.smp_frac.proofs.Arithmetic.{times_same}
use Rattle.smp_values.specs.Starts.{DrawsWhole}
use Rattle.smp_design.specs.{declared.design.Design.{Design}, Words.{row}}
use Rattle.smp_design.specs.declared.design.Second as second
use Rattle.smp_frame.specs.declared.frame.Unit as unit
use Rattle.smp_prob.specs.Inclusions.{asked_fraction}
use Rattle.smp_strata.specs.{Asked.{cluster_of, fraction_by, fraction_in_psu, fraction_in_stratum, row_fraction}, Draws.{DrawsInStratum}}
use Rattle.smp_strata.specs.{Bounds.{AreSeated, IsStratum}, Clusters.{clusters, clusters_in, first_row, stratum_names, stratum_number}}
use Rattle.smp_strata.specs.{Misfits.{unit_in_two}, Plans.{first_of, second_request, second_sizes, stratum_of}, Kept.Groups.{places_of}}
use Rattle.smp_strata.specs.{Rows.{second_size_at, stratum_at, value_of}, Seats.{IsSeat, seat_fraction, stage_fraction}}
use Rattle.smp_strata.specs.declared.strata.FirstUnit as first
use Rattle.smp_strata.specs.declared.strata.Seat as seat
use Rattle.smp_strata.specs.declared.strata.Stratum as stratum
use Rattle.smp_strata.specs.Kept.Built.{AreBuilt, AreSeats, SecondAsks, second_method, seat_by}
use Rattle.smp_strata.specs.Kept.Layouts.{AreRows, AreGroups, homes_of}
use Rattle.smp_strata.proofs.{Apart.{home_is, together}, Members.{home_at, homes, members_are}}
use Rattle.smp_strata.proofs.Seating.{are_seats, home_within, place_is, seat_fraction_is, seat_only, stratum_at_home, stratum_is, unit_is}

-- the cluster of a row, by its number
cluster_home : (units : List unit.Unit) (second : Option second.Second) (row : ℕ) → row < length units
    → get_or (clusters second units) (get_or (homes_of second units) row 0) [] ≡ cluster_of second units row
cluster_home units None row l =
    ap (λ i. get_or (clusters None units) i []) (get_or-range_with_len 0 (length units) row 0 l)
    ∙ get_or-map-range_with_len (λ r. r ∷ []) 0 (length units) (0 + row) row [] (omega (arith, l)) (omega arith)
cluster_home units (Some s) row l = home_is units s row [] l

first_stratum : (units : List unit.Unit) (second : Option second.Second) → unit_in_two second units ≡ None → (row : ℕ) → row < length units
    → stratum_at units (first_row (cluster_of second units row)) ≡ stratum_at units row
first_stratum units None e row l = refl
first_stratum units (Some s) e row l = together units e row l

second_same : (units : List unit.Unit) (second : Option second.Second) (g : List ℕ) (row place : ℕ) → SecondAsks second (second_sizes units g) (second_request second units g)
    → slice_get g place ≡ Some row → g ≡ cluster_of second units row → Same (stage_fraction (second_request second units g) place) (fraction_in_psu second units row)
second_same units None g row place asks at is = record { cross = refl }
second_same units (Some s) g row place asks at is =
    let here : place < length g = slice_get_within g place row at in
    let size : get_or (second_sizes units g) place 0 ≡ second_size_at units row = get_or-map (second_size_at units) g place 0 0 here ∙ ap (second_size_at units) (get_or_from_slice_get g place row 0 at) in
    rw (← is) (rw size at (asks place (omega (arith, here, length-map g (second_size_at units)))))

module _ (design : Design) (units : List unit.Unit) (rows : All (AreRows (length units)) (clusters design.second units)) (strata : List stratum.Stratum) (built : AreBuilt design units strata) where
  abbrev numbers : List ℕ
  numbers = range_with_len 0 (length (stratum_names units))

  long : length strata ≡ length (stratum_names units)
  long = ap length built.are ∙ length-map-range_with_len (stratum_of design units) 0 (length (stratum_names units))

  nth : (k : ℕ) (d : stratum.Stratum) → k < length strata → get_or strata k d ≡ stratum_of design units k
  nth k d l = ap (λ ss. get_or ss k d) built.are ∙ get_or-map-range_with_len (stratum_of design units) 0 (length (stratum_names units)) k k d (omega (arith, l, long)) (omega arith)

  pub are_strata : All (IsStratum (second_method design)) strata
  are_strata k d l = rw (nth k d l) ((built.each k (omega (arith, l, long))).stratum)

  pub are_whole : IsTrue (row design.procedure.method).draws_whole → All (λ s. DrawsWhole s.request) strata
  are_whole needed k d l = rw (nth k d l) ((built.each k (omega (arith, l, long))).request.whole needed)

  pub draws_as_asked : (k : ℕ) (s : stratum.Stratum) → slice_get strata k ≡ Some s → DrawsInStratum design units k s
  draws_as_asked k s e =
      let within : k < length strata = slice_get_within strata k s e in
      rw (sym (get_or_from_slice_get strata k s s e) ∙ nth k s within) ((built.each k (omega (arith, within, long))).draws)

  pub have_balance : All (λ s. All (λ f. length f.balance ≡ length design.columns.balance) s.units) strata
  have_balance k d l =
      rw (nth k d l) (All-map (λ (f : first.FirstUnit). length f.balance ≡ length design.columns.balance) (first_of design units) (clusters_in design units k)
      (λ j g m. length-map-range_with_len (value_of units (get_or (clusters_in design units k) j g)) 0 (length design.columns.balance)))

  pub have_points : All (λ s. All (λ f. length f.point ≡ length design.columns.near) s.units) strata
  have_points k d l =
      rw (nth k d l) (All-map (λ (f : first.FirstUnit). length f.point ≡ length design.columns.near) (first_of design units) (clusters_in design units k)
      (λ j g m. ((built.each k (omega (arith, l, long))).firsts j g m).point))

  module _ (row_places : List ℕ) (row_groups : AreGroups (homes_of design.second units) (length (clusters design.second units)) (clusters design.second units) row_places)
      (long_rows : length (homes_of design.second units) ≡ length units) (together : unit_in_two design.second units ≡ None)
      (members : List (List ℕ)) (places : List ℕ) (groups : AreGroups (homes design units rows) (length (stratum_names units)) members places) where
    abbrev row_homes : List ℕ
    row_homes = homes_of design.second units

    abbrev all : List (List ℕ)
    all = clusters design.second units

    abbrev by : ℕ → seat.Seat
    by row = seat_by (homes design units rows) places row_homes row_places row

    pub seats_are : (seats : List seat.Seat) → length seats ≡ length row_homes → ((row : ℕ) (d : seat.Seat) → row < length row_homes → get_or seats row d ≡ by row) → AreSeats strata seats
    seats_are = are_seats design units rows strata built.are row_homes row_places row_groups members places groups

    fractions : (row : ℕ) → row < length units → Same (seat_fraction strata (by row)) (row_fraction design units row)
    fractions row l =
        let lr : row < length row_homes = omega (arith, l, long_rows) in
        let i : ℕ = get_or row_homes row 0 in
        let g : List ℕ = get_or all i [] in
        let k : ℕ = (by row).stratum in
        let u : ℕ = (by row).unit in
        let home = home_within design units rows strata built.are row_homes row_places row_groups members places groups row lr in
        let here = stratum_at_home design units rows strata built.are row_homes row_places row_groups members places groups i home in
        let cluster : g ≡ cluster_of design.second units row = cluster_home units design.second row l in
        let number : stratum_number units row ≡ k =
        sym (home_at design units rows i home ∙ ap (λ x. stratum_number units (first_row x)) cluster
        ∙ ap (λ t. position_or_len (bytes_eq t) (stratum_names units)) (first_stratum units design.second together row l)) in
        let chosen : slice_get (places_of (homes design units rows) k) u ≡ Some i = groups.seated i (omega (arith, home, length-map all (λ x. stratum_number units (first_row x)))) in
        let in_stratum : slice_get (clusters_in design units k) u ≡ Some g =
        ap (λ gs. slice_get gs u) (sym (members_are design units rows k here)) ∙ slice_get-map (λ j. get_or all j []) (places_of (homes design units rows) k) u ∙ ap (option_map (λ j. get_or all j [])) chosen in
        let within : u < length (clusters_in design units k) = slice_get_within (clusters_in design units k) u g in_stratum in
        let first : Same (asked_fraction (stratum_of design units k).request u) (fraction_by design.columns.prob design units k g) =
        rw (get_or_from_slice_get (clusters_in design units k) u g [] in_stratum) at ((built.each k here).request.asks u within) in
        let in_its_stratum : Same (asked_fraction (stratum_of design units k).request u) (fraction_in_stratum design units row) = rw (number, ← cluster) first in
        let second : Same (stage_fraction (second_request design.second units g) (by row).place) (fraction_in_psu design.second units row) =
        second_same units design.second g row (by row).place
        (rw (get_or_from_slice_get (clusters_in design units k) u g g in_stratum) at ((built.each k here).firsts u g within).asks)
        (place_is design units rows strata built.are row_homes row_places row_groups members places groups row lr) cluster in
        rw (seat_fraction_is strata (by row) (stratum_of design units k) (first_of design units g) (stratum_is design units rows strata built.are k here)
        (unit_is design units rows strata built.are row_homes row_places row_groups members places groups row lr))
        (times_same in_its_stratum second)

    pub asks_as_frame : (row : ℕ) (s : seat.Seat) → row < length units → IsSeat strata row s → Same (seat_fraction strata s) (row_fraction design units row)
    asks_as_frame row s l is =
        rw (← (seat_only design units rows strata built.are row_homes row_places row_groups members places groups row s is).1) (fractions row l)

-- seats that are those of the rows
pub seated_by : (strata : List stratum.Stratum) (seats : List seat.Seat) → AreSeats strata seats → AreSeated (length seats) strata
seated_by strata seats are =
    let none : seat.Seat = record { stratum = 0; unit = 0; place = 0 } in
    record {
      seats = λ row l. record { seat = get_or seats row none; is = are.here row none l };
      once = λ row s t a b. sym ((are.only row s none a).1) ∙ (are.only row t none b).1;
      below = λ row s a. (are.only row s none a).0;
    }

pub long_homes : (second : Option second.Second) (units : List unit.Unit) → length (homes_of second units) ≡ length units
long_homes None units = length-range_with_len 0 (length units)
long_homes (Some s) units = length-map-range_with_len _ 0 (length units)
