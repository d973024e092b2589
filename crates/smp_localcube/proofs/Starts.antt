-- A selection starts from the values that are requested, and is balanced.
use Rattle.std.proofs.Common.{◌≡◌, ℕ, zero, suc, ◌<◌, ◌≤◌, Bool, true, false, ℤ, List, [], ◌∷◌, None, length, map, replicate, arith, refl, sym, ap, ◌∙◌}
use Rattle.std.specs.List.{range_with_len}
use Rattle.std.proofs.{lemmas.Bool.{and_from}, lemmas.List.{ext_get_or, get_or-replicate, length-replicate}}
use Rattle.std.proofs.lemmas.List.FromFn.{get_or-map-range_with_len, length-map-range_with_len}
use Rattle.smp_near.specs.Nearest.{all_living}
use Rattle.smp_frac.proofs.Arithmetic.{same_refl}
use Rattle.smp_prob.specs.{declared.requests.Request.{Request}, Requests.{IsRequest}, Shares.{Shares, shares_of}}
use Rattle.smp_prob.proofs.Fractions.{length-numerators}
use Rattle.smp_split.specs.Methods.{Starts}
use Rattle.smp_split.proofs.Methods.{starts}
use Rattle.smp_values.specs.{Starts.{IsRequested}, Values.{fractional_units, is_fractional, value_at}}
use Rattle.smp_values.proofs.Requests.{requested_values, shares_fractional}
use Rattle.smp_flight.specs.States as flights
use Rattle.smp_flight.specs.{States.{IsFlight, Units}, Requests.{units_of}, Landings.{HasRoom, IsBalanced}}
use Rattle.smp_flight.proofs.{Owed.{selection_balanced}, WholeSums.{leaves_count}}
use Rattle.smp_localcube.proofs.Fronts.{IsFront, keeps_front}
use Rattle.smp_localcube.specs.{Local.{IsLocal, local_of, local_tree, untouched}, Kept.Orders.{is_untouched}, Laws.Orders.{filter_none}}
use Rattle.smp_localcube.specs.{Kept.States.{IsPlaced, IsReady, IsSearched, touched_in, weights_of}, Laws.Splits.{is_local_cube}}
use Rattle.smp_localcube.specs.Method.{LocalUnits, method_of, started}

pub starts_requested : (request : Request) (xs coords : List (List ℤ)) → IsRequest request → IsRequested (local_tree (units_of request xs)) request (started (record { units = units_of request xs; coords = coords }))
starts_requested request xs coords is =
    requested_values request is (local_tree (units_of request xs)) (started (record { units = units_of request xs; coords = coords })) (is.paired ∙ sym (length-numerators request is)) (λ k _. same_refl (value_at (shares_of request) k))

module _ (design : LocalUnits) (is_flight : IsFlight design.units (flights.tracked_start design.units).flight) where
  pub started_local : IsLocal design.units (started design)
  started_local = record { state = is_flight; carried = record { touched_are = filter_none (fractional_units design.units.requested); chosen_is = tt } }

  pub local_starts : Starts (method_of design) (started design)
  local_starts = starts (method_of design) (started design) started_local (λ n adds. leaves_count (local_of design.units) (IsLocal design.units) (is_local_cube design.units) n (started design) started_local (omega arith) adds)

  pub local_balances : IsBalanced (local_of design.units) (started design)
  local_balances = selection_balanced (local_of design.units) (IsLocal design.units) (is_local_cube design.units) (started design) started_local refl IsFront (keeps_front design.units) refl

-- ---- what the code starts with

ones_of : (n : ℕ) → replicate {A = ℕ} n 1 ≡ weights_of (replicate n true)
ones_of zero = refl
ones_of (suc n) = ap (λ (ws : List ℕ). 1 ∷ ws) (ones_of n)

-- before the first step no unit is touched
pub none_touched : (units : Units) → touched_in (flights.tracked_start units) ≡ []
none_touched units = sym (filter_none (fractional_units units.requested))

-- and a unit is to be chosen
pub first_searched : (units : Units) (coords : List (List ℤ)) → IsSearched units (flights.tracked_start units) coords None None
first_searched units coords = record { is = rw (none_touched units) refl; allows = tt }

module _ (dimensions : ℕ) (units : Units) (coords : List (List ℤ)) (count : ℕ) (placed : IsPlaced dimensions units coords count) (is_flight : IsFlight units (flights.tracked_start units).flight) where
  same_count : length units.requested.numer ≡ length units.sizes
  same_count = is_flight.values.count

  untouched_first : (k : ℕ) → k < length units.requested.numer → is_untouched units.requested (touched_in (flights.tracked_start units)) k ≡ true
  untouched_first k here = rw (none_touched units) (and_from (is_fractional units.requested k) true (placed.open_at k here) refl)

  pub all_living_first : replicate (length coords) true ≡ (untouched coords units.requested (touched_in (flights.tracked_start units))).living
  all_living_first =
      let n : ℕ = length units.requested.numer in
      let test : ℕ → Bool = is_untouched units.requested (touched_in (flights.tracked_start units)) in
      ext_get_or false (replicate (length coords) true) (map (is_untouched units.requested (touched_in (flights.tracked_start units))) (range_with_len 0 (length units.requested.numer)))
      (omega (arith, length-replicate (length coords) true, length-map-range_with_len (is_untouched units.requested (touched_in (flights.tracked_start units))) 0 (length units.requested.numer), placed.placed, same_count))
      (λ k h.
      let here : k < length coords = omega (arith, h, length-replicate (length coords) true) in
      let within : k < length units.requested.numer = omega (arith, here, placed.placed, same_count) in
      get_or-replicate (length coords) k true false here
      ∙ sym (get_or-map-range_with_len (is_untouched units.requested (touched_in (flights.tracked_start units))) 0 (length units.requested.numer) k k false within (omega arith) ∙ untouched_first k within))

  pub first_ready : (room : Shares) → HasRoom (length units.requested.numer) room → IsReady (flights.tracked_start units) room (all_living coords) (replicate {A = ℕ} count 1)
  first_ready room fits = record {
    room = fits;
    placed = omega (arith, placed.placed, same_count);
    living = all_living_first;
    weighed = ones_of count ∙ ap (λ n. weights_of (replicate n true)) (placed.count_is ∙ sym placed.placed);
  }

-- the design that is made of a request
pub placed_request : (dimensions : ℕ) (request : Request) (xs coords : List (List ℤ)) → IsRequest request → (1 ≤ dimensions) × (dimensions ≤ 4) → length coords ≡ length request.free →
    IsPlaced dimensions (units_of request xs) coords (length request.shape)
placed_request dimensions request xs coords is few placed = record { few = few; count_is = refl; placed = placed ∙ sym is.paired; open_at = shares_fractional request is }
