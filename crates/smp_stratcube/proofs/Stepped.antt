-- The step that the first fractional units lead to is that of the state.
use Rattle.std.proofs.Common.{◌≡◌, ℕ, ◌+◌, ◌<◌, ◌≤◌, ◌^◌, ◌*◌, ◌++◌, nat_le, Bool, true, false, Some, None, mul-pos, ℤ, pos, List, take, length, get_or, arith, refl, sym, ap, ap₂, ◌∙◌, subst, inl, inr, length-take, get_or-take, []}
use Rattle.std.specs.Int.RustNames.{unsigned_abs}
use Rattle.std.proofs.{lemmas.Bool.{cases_Bool, le-leb}, lemmas.List.{append-nil, length-map, take-append-le, take-map, take-take}}
use Rattle.smp_kernel.specs.{Vectors.{entry, IsZero}, RowReduction.{cut}, Searches.{Search, found, IsSearch}}
use Rattle.smp_kernel.proofs.{SearchLaw.{few_enter, first_decide, one_answer}, FoundCircuits.{circuit_length, cut_circuit_short}}
use Rattle.smp_moves.specs.{Kept.Searches.{search, search_is}, Moves.{IsLine, Line, entry_at, entry_of, move, turned, wide}}
use Rattle.smp_moves.specs.{Ends.{lowest, reach, weights}, declared.lines.Ratio.{Ratio}, Answers.{IsPadded, line_of}}
use Prim.Native.Nat.{◌∣◌}
use Rattle.smp_kernel.proofs.Existence.{cut_short}
use Rattle.smp_moves.specs.{declared.lines.Line.{Line as LineOfPlaces}, declared.reaches.Reach.{Reach}, Kept.Ends.{HasSmallEntries}}
use Rattle.smp_moves.proofs.{Entries.{entry_at_none, place_or}, Computed.{next_answered, places_prefix, places_small, places_some, places_wide, prefix_length}}
use Rattle.smp_stratcube.specs.{declared.fronts.Front.{Front}, declared.values.Value.{Value}, States.{Flight, IsFlying}, Moves.{setting_of}}
use Rattle.smp_stratcube.specs.{Units.{Units, IsUnits, column, columns_of, share}, Kept.Computed.{moved_values, next, values_along}}
use Rattle.smp_stratcube.specs.{Values.{common_of, fractional_units, over_common, value}, Kept.Gates.{held}}
use Rattle.smp_stratcube.specs.{Kept.Fronts.{IsFront, front_units, units_on}, Kept.Lines.{HasDirection}}
use Rattle.smp_stratcube.specs.Kept.Moves.{IsAlong, IsMoveOf, end_gathered}
use Rattle.smp_stratcube.specs.Laws.Nexts.{den_divides, den_some, line_ok, prefix_in, some_shares}
use Rattle.smp_stratcube.proofs.{Directed.{held_none, held_some}, Ending.{end_held, inside, some_left, some_size}, Written.{turn_along}}
use Rattle.smp_stratcube.proofs.Ahead.{front_before, units_none}
use Rattle.smp_moves.specs.{Steps.{Finds, scale_of, scaled}, Kept.Computed.{IsLineOf, direction, direction_fits, next_along, next_of, next_through}}

-- ---- the first units decide

module _ (units : Units) (f : Flight) (front : Front) (is : IsFront f.values front) (long : front.number ≤ length front.units) (few : f.rows + 1 ≤ 17) where
  abbrev order : List ℕ
  order = fractional_units f.values

  -- as many of them, up to one more than there are rows in force
  pub same_first : (n : ℕ) → n ≤ front.number → take n (fractional_units f.values) ≡ take n (front_units front)
  same_first n l =
      ap (take n) (sym is.all) ∙ take-append-le n (front_units front) (units_on front.place (length f.values)) (omega (arith, l, long, length-take front.number front.units))

  first_columns : take (f.rows + 1) (columns_of units (fractional_units f.values)) ≡ take (f.rows + 1) (columns_of units (front_units front))
  first_columns =
      take-map (column units) (f.rows + 1) order ∙ ap (columns_of units) first_units ∙ sym (take-map (column units) (f.rows + 1) (front_units front))
    where
      first_units : take (f.rows + 1) (fractional_units f.values) ≡ take (f.rows + 1) (front_units front)
      first_units =
          elim is.enough [
            | inl enough ↦ same_first (f.rows + 1) (omega (arith, enough, few))
            | inr all ↦ ap (take (f.rows + 1)) (sym is.all ∙ ap (λ us. front_units front ++ us) (units_none front.place (length f.values) (omega (arith, all))) ∙ append-nil (front_units front))
          ]

  pub front_search : (a : Search) → IsSearch f.rows (cut f.rows (columns_of units (front_units front))) a → Finds (setting_of units) f (fractional_units f.values) a
  front_search a h =
      let cs : List (List ℤ) = columns_of units (front_units front) in
      let first : Search = search f.rows (take (f.rows + 1) cs) in
      let is_first : IsSearch f.rows (cut f.rows (take (f.rows + 1) cs)) first = search_is f.rows (take (f.rows + 1) cs) in
      let same : first ≡ a = one_answer f.rows (cut f.rows cs) first a (first_decide f.rows cs first is_first) h in
      let there : IsSearch f.rows (cut f.rows (take (f.rows + 1) (columns_of units order))) first = subst (λ (ds : List (List ℤ)). IsSearch f.rows (cut f.rows ds) first) (sym first_columns) is_first in
      subst (Finds (setting_of units) f (fractional_units f.values)) same (first_decide f.rows (columns_of units order) first there)

  -- a circuit goes through units of the front
  pub front_circuit : (w : List ℤ) → IsSearch f.rows (cut f.rows (columns_of units (front_units front))) (found w) → length w ≤ front.number
  front_circuit w h = omega (arith, cut_circuit_short f.rows (columns_of units (front_units front)) w h, length-map (front_units front) (column units), length-take front.number front.units)

-- ---- the step by its search

module _ (units : Units) (f : Flight) (w : List ℤ) (finds : Finds (setting_of units) f (fractional_units f.values) (found w)) where
  abbrev line : Line
  line = direction (share units) (fractional_units f.values) w

  abbrev narrow : Bool
  narrow = nat_le (common_of units f.values line.units) (2 ^ 80)

  abbrev plus : Bool
  plus = nat_le (common_of units (moved_values units f.values line) []) (2 ^ 80)

  abbrev minus : Bool
  minus = nat_le (common_of units (moved_values units f.values (turned line)) []) (2 ^ 80)

  by_found : next units f ≡ next_through (setting_of units) (moved_values units) f.values (take (length w) (fractional_units f.values)) w
  by_found = next_answered (setting_of units) (moved_values units) f (fractional_units f.values) (found w) finds

  module _ (d : direction_fits (share units) (take (length w) (fractional_units f.values)) w ≡ true) where
    pub wide_line : narrow ≡ false → next units f ≡ wide
    wide_line n = by_found ∙ (rw (d, n) refl)

    module _ (n : narrow ≡ true) where
      pub wide_plus : plus ≡ false → next units f ≡ wide
      wide_plus p = by_found ∙ (rw (d, n, p) refl)

      pub wide_minus : minus ≡ false → next units f ≡ wide
      wide_minus m = elim (cases_Bool plus) [ inl p ↦ by_found ∙ (rw (d, n, p, m) refl) | inr p ↦ wide_plus p ]

      pub fits_then : plus ≡ true → minus ≡ true → next units f ≡ move (next_along (setting_of units) f.values (direction (share units) (fractional_units f.values) w))
      fits_then p m = by_found ∙ (rw (d, n, p, m) refl)

-- a circuit goes through at most one unit more than there are rows in force
circuit_few : (units : Units) (f : Flight) (w : List ℤ) → Finds (setting_of units) f (fractional_units f.values) (found w) → length w ≤ f.rows + 1
circuit_few units f w finds =
    let cs : List (List ℤ) = columns_of units (fractional_units f.values) in
    omega (arith, circuit_length f.rows (cut f.rows cs) w finds, few_enter f.rows (cut f.rows cs) (cut_short f.rows cs) finds.number finds.enter)

-- ---- a circuit goes through units of the front

module _ (units : Units) (f : Flight) (ok : IsFlying units f) (front : Front) (is : IsFront f.values front) (long : front.number ≤ length front.units) (few : f.rows + 1 ≤ 17) (w : List ℤ) (finds : Finds (setting_of units) f (fractional_units f.values) (found w)) where
  pub circuit_in : length w ≤ front.number
  circuit_in =
      elim is.enough [
        | inl enough ↦ omega (arith, enough, few, circuit_few units f w finds)
        | inr all ↦
            (let whole : fractional_units f.values ≡ front_units front = sym is.all ∙ ap (λ us. front_units front ++ us) (units_none front.place (length f.values) (omega (arith, all))) ∙ append-nil (front_units front) in
            omega (arith, long, prefix_length (setting_of units) f (fractional_units f.values) w finds, length-take (length w) (fractional_units f.values), ap length whole, length-take front.number front.units))
      ]

  -- so a unit behind it has no entry
  pub off_units : (us : List ℕ) (es : List ℤ) → us ≡ take (length w) (fractional_units f.values) → (k : ℕ) → front.place ≤ k → entry_at us es k ≡ pos 0
  off_units us es same k past =
      elim (place_or us k) [
        | inr out ↦ entry_at_none us es k out
        | inl at ↦ absurd (let is_front : us ≡ take (length w) (front_units front) = same ∙ same_first units f front is long few (length w) circuit_in in
            let b : at.0 < length (take (length w) (front_units front)) = subst (λ (ks : List ℕ). at.0 < length ks) is_front at.1 in
            let n = length-take (length w) (front_units front) in
            let m = length-take front.number front.units in
            let here : get_or us at.0 0 ≡ get_or front.units at.0 0 =
            ap (λ (ks : List ℕ). get_or ks at.0 0) is_front ∙ get_or-take (length w) (front_units front) at.0 0 (omega (arith, b, n)) ∙ get_or-take front.number front.units at.0 0 (omega (arith, b, n, m)) in
            let before = front_before f.values front is long at.0 (omega (arith, b, n, m)) in
            omega (arith, past, before, here, at.2))
      ]

-- ---- what is known of the line of a circuit

module _ (units : Units) (f : Flight) (ok : IsFlying units f) (line : LineOfPlaces) (h : HasDirection units f line) where
  pub line_is : line_of line ≡ direction (share units) (fractional_units f.values) h.circuit
  line_is = h.is_line.holds.is

  pub line_inside : (j : ℕ) → j < line.number → get_or line.units j 0 < length units.members
  line_inside j l =
      let us : take line.number line.units ≡ take (length h.circuit) (fractional_units f.values) = ap (λ (x : Line). x.units) line_is in
      let count : j < length (take line.number line.units) = omega (arith, l, h.is_line.holds.padded.places, length-take line.number line.units) in
      let there : j < length (take (length h.circuit) (fractional_units f.values)) = subst (λ (ks : List ℕ). j < length ks) us count in
      subst (λ (k : ℕ). k < length units.members) (sym (ap (λ (ks : List ℕ). get_or ks j 0) us) ∙ get_or-take line.number line.units j 0 l) (prefix_in units f ok h.circuit h.finds j there)

  module _ (den : ℕ) (den_is : den ≡ common_of units f.values (line_of line).units) (narrow : den ≤ 2 ^ 80) where
    den_of : den ≡ common_of units f.values (take (length h.circuit) (fractional_units f.values))
    den_of = den_is ∙ ap (λ (x : Line). common_of units f.values x.units) line_is

    pub den_positive : 1 ≤ den
    den_positive = subst (λ m. 1 ≤ m) (sym den_of) (den_some units f ok h.circuit h.finds)

    goes_through : IsLine (over_common den f.values) (line_of line)
    goes_through =
        subst (λ (m : ℕ). IsLine (over_common m f.values) (line_of line)) (sym den_of)
        (subst (IsLine (over_common (common_of units f.values (take (length h.circuit) (fractional_units f.values))) f.values)) (sym line_is) (line_ok units f ok h.circuit h.finds))

    divides_at : (j : ℕ) → j < length (line_of line).units → (value f.values (get_or (line_of line).units j 0)).at.den ∣ den
    divides_at =
        subst (λ (l : Line). (j : ℕ) → j < length l.units → (value f.values (get_or l.units j 0)).at.den ∣ den) (sym line_is)
        (subst (λ (m : ℕ). (j : ℕ) → j < length (take (length h.circuit) (fractional_units f.values)) → (value f.values (get_or (take (length h.circuit) (fractional_units f.values)) j 0)).at.den ∣ m) (sym den_of)
        (den_divides units f ok h.circuit h.finds))

    pub along : (r : Reach) → r ≡ reach (over_common den f.values) (line_of line) → IsAlong (length units.members) f.values line den r
    along r e = record {
      are = ok.values;
      some = den_positive;
      narrow = narrow;
      is_line = goes_through;
      padded = h.is_line.holds.padded;
      small = h.is_line.holds.small;
      is_reach = e;
      divides = divides_at;
    }

    pub back_along : (back : LineOfPlaces) → line_of back ≡ turned (line_of line) → IsPadded back → HasSmallEntries back → (r : Reach) → r ≡ reach (over_common den f.values) (line_of back) → IsAlong (length units.members) f.values back den r
    back_along back turns padded small r e =
        turn_along (length units.members) f.values line back den (reach (over_common den f.values) (line_of line)) r (along (reach (over_common den f.values) (line_of line)) refl) turns padded small (e ∙ ap (reach (over_common den f.values)) turns)

    -- a unit behind the front isn't on the line
    pub off_front : (front : Front) → IsFront f.values front → front.number ≤ length front.units → f.rows + 1 ≤ 17 → (l : Line) → l.units ≡ (line_of line).units → (k : ℕ) → front.place ≤ k → entry_of l k ≡ pos 0
    off_front front is long few l same k past = off_units units f ok front is long few h.circuit h.finds l.units l.entries (same ∙ ap (λ (x : Line). x.units) line_is) k past

-- ---- the ends

pub end_there : (units : Units) (are : IsUnits units) (values : List Value) (front : Front) → IsFront values front → front.number ≤ length front.units → (l : LineOfPlaces) (den : ℕ) (r : Reach) → IsAlong (length units.members) values l den r →
    ((k : ℕ) → front.place ≤ k → entry_of (line_of l) k ≡ pos 0) → (target : Line) → line_of l ≡ target → den ≡ common_of units values target.units →
    end_gathered units values front (line_of l) den r ≡ nat_le (common_of units (moved_values units values target) []) (2 ^ 80)
end_there units are values front is long l den r a off target same den_is =
    end_held units are values front l den r a is long off
    ∙ ap (λ (x : Reach). nat_le (common_of units (values_along values (line_of l) den x) []) (2 ^ 80)) a.is_reach
    ∙ ap₂ (λ (m : ℕ) (x : Line). nat_le (common_of units (values_along values x m (reach (over_common m values) x)) []) (2 ^ 80)) den_is same

pub weights_is : (units : Units) (values : List Value) (l : Line) (den : ℕ) (up down : Reach) (x : Ratio) → den ≡ common_of units values l.units → up ≡ reach (over_common den values) l → down ≡ reach (over_common den values) (turned l) →
    x ≡ lowest (down.left * up.size) (up.left * down.size) → x ≡ weights (reach (over_common (common_of units values l.units) values) l) (reach (over_common (common_of units values l.units) values) (turned l))
weights_is units values l den up down x den_is u d e =
    e ∙ ap₂ (λ (a b : Reach). lowest (b.left * a.size) (a.left * b.size)) u d
    ∙ ap (λ (m : ℕ). weights (reach (over_common m values) l) (reach (over_common m values) (turned l))) den_is

-- all that a step along a line leads to
module _ (units : Units) (f : Flight) (ok : IsFlying units f) (front : Front) (is : IsFront f.values front) (long : front.number ≤ length front.units) (line : LineOfPlaces) (h : HasDirection units f line) where
  abbrev lane : Line
  lane = direction (share units) (fractional_units f.values) h.circuit

  pub few_rows : f.rows + 1 ≤ 17
  few_rows = omega (arith, ok.rows_in, ok.are.few_rows)

  pub no_denominator : None ≡ held (common_of units f.values (line_of line).units) → next units f ≡ wide
  no_denominator e =
      wide_line units f h.circuit h.finds h.is_line.fits (ap (λ (x : Line). nat_le (common_of units f.values x.units) (2 ^ 80)) (sym (line_is units f ok line h)) ∙ held_none (common_of units f.values (line_of line).units) e)

  module _ (den : ℕ) (e : Some den ≡ held (common_of units f.values (line_of line).units)) where
    pub den_is : den ≡ common_of units f.values (line_of line).units
    den_is = (held_some (common_of units f.values (line_of line).units) den e).0

    pub den_narrow : den ≤ 2 ^ 80
    den_narrow = omega (arith, den_is, (held_some (common_of units f.values (line_of line).units) den e).1)

    narrow_there : nat_le (common_of units f.values lane.units) (2 ^ 80) ≡ true
    narrow_there = le-leb (common_of units f.values lane.units) (2 ^ 80) (omega (arith, den_is, den_narrow, ap (λ (x : Line). common_of units f.values x.units) (line_is units f ok line h)))

    pub forth : (r : Reach) → r ≡ reach (over_common den f.values) (line_of line) → IsAlong (length units.members) f.values line den r
    forth r u = along units f ok line h den den_is den_narrow r u

    plus_is : (r : Reach) → r ≡ reach (over_common den f.values) (line_of line) → end_gathered units f.values front (line_of line) den r ≡ nat_le (common_of units (moved_values units f.values lane) []) (2 ^ 80)
    plus_is r u =
        end_there units ok.are f.values front is long line den r (forth r u) (off_front units f ok line h den den_is den_narrow front is long few_rows (line_of line) refl) lane (line_is units f ok line h)
        (den_is ∙ ap (λ (x : Line). common_of units f.values x.units) (line_is units f ok line h))

    pub no_plus : (r : Reach) → r ≡ reach (over_common den f.values) (line_of line) → end_gathered units f.values front (line_of line) den r ≡ false → next units f ≡ wide
    no_plus r u n = wide_plus units f h.circuit h.finds h.is_line.fits narrow_there (sym (plus_is r u) ∙ n)

    module _ (back : LineOfPlaces) (turns : line_of back ≡ turned (line_of line)) (padded : IsPadded back) (small : HasSmallEntries back) where
      pub backward : (r : Reach) → r ≡ reach (over_common den f.values) (line_of back) → IsAlong (length units.members) f.values back den r
      backward r d = back_along units f ok line h den den_is den_narrow back turns padded small r d

      pub back_inside : (j : ℕ) → j < back.number → get_or back.units j 0 < length f.values
      back_inside = inside (length units.members) f.values back den (reach (over_common den f.values) (line_of back)) (backward (reach (over_common den f.values) (line_of back)) refl)

      minus_is : (r : Reach) → r ≡ reach (over_common den f.values) (line_of back) → end_gathered units f.values front (line_of back) den r ≡ nat_le (common_of units (moved_values units f.values (turned lane)) []) (2 ^ 80)
      minus_is r d =
          end_there units ok.are f.values front is long back den r (backward r d) (off_front units f ok line h den den_is den_narrow front is long few_rows (line_of back) (ap (λ (x : Line). x.units) turns)) (turned lane) (turns ∙ ap turned (line_is units f ok line h))
          (den_is ∙ ap (λ (x : Line). common_of units f.values x.units) (line_is units f ok line h))

      pub no_minus : (r : Reach) → r ≡ reach (over_common den f.values) (line_of back) → end_gathered units f.values front (line_of back) den r ≡ false → next units f ≡ wide
      no_minus r d n = wide_minus units f h.circuit h.finds h.is_line.fits narrow_there (sym (minus_is r d) ∙ n)

      module _ (up down : Reach) (u : up ≡ reach (over_common den f.values) (line_of line)) (d : down ≡ reach (over_common den f.values) (line_of back)) where
        pub reaches_some : 1 ≤ up.left * down.size
        reaches_some =
            mul-pos (some_left (length units.members) f.values line den up (forth up u)) (some_size (length units.members) f.values back den down (backward down d))

        pub is_move_of : end_gathered units f.values front (line_of line) den up ≡ true → end_gathered units f.values front (line_of back) den down ≡ true → (x : Ratio) → x ≡ lowest (down.left * up.size) (up.left * down.size) →
            IsMoveOf units f (record { line = line; den = den; up = up; down = down; plus_weight = x.num; minus_weight = x.den })
        is_move_of p m x e =
            let turned_reach : down ≡ reach (over_common den f.values) (turned (line_of line)) = d ∙ ap (reach (over_common den f.values)) turns in
            let w = weights_is units f.values (line_of line) den up down x den_is u turned_reach e in
            record {
              next = fits_then units f h.circuit h.finds h.is_line.fits narrow_there (sym (plus_is up u) ∙ p) (sym (minus_is down d) ∙ m) ∙ ap (λ (l : Line). move (next_along (setting_of units) f.values l)) (sym (line_is units f ok line h));
              den = den_is;
              plus = ap (λ (r : Ratio). r.num) w;
              minus = ap (λ (r : Ratio). r.den) w;
              up = forth up u;
              down = turned_reach;
            }

-- ---- the search through the front

module _ (units : Units) (f : Flight) (ok : IsFlying units f) (front : Front) (is : IsFront f.values front) (long : front.number ≤ length front.units) where
  few : f.rows + 1 ≤ 17
  few = omega (arith, ok.rows_in, ok.are.few_rows)

  pub step_found : (a : Search) → IsSearch f.rows (cut f.rows (columns_of units (front_units front))) a → next units f ≡ next_of (setting_of units) (moved_values units) f.values (fractional_units f.values) a
  step_found a h = next_answered (setting_of units) (moved_values units) f (fractional_units f.values) a (front_search units f front is long few a h)

  -- a circuit in the first places of an array
  module _ (w : List ℤ) (n : ℕ) (lw : n ≤ length w) (past : (i : ℕ) → n ≤ i → entry w i ≡ pos 0) (h : IsSearch f.rows (cut f.rows (columns_of units (front_units front))) (found (take n w))) where
    finds : Finds (setting_of units) f (fractional_units f.values) (found (take n w))
    finds = front_search units f front is long few (found (take n w)) h

    pub found_fewer : n ≤ front.number
    found_fewer = omega (arith, lw, length-take n w, front_circuit units f front is long few (take n w) h)

    same : take n (fractional_units f.values) ≡ take n front.units
    same = same_first units f front is long few n found_fewer ∙ take-take n front.number front.units found_fewer

    pub found_small : (j : ℕ) → unsigned_abs (entry w j) ≤ 2 ^ 44
    found_small = places_small (setting_of units) (moved_values units) f (fractional_units f.values) front.units w n lw finds same past

    pub found_some : IsZero (scaled (share units) (scale_of (share units) (take n front.units) (take n w)) (take n front.units) (take n w)) → ⊥
    found_some = places_some (setting_of units) (moved_values units) f (fractional_units f.values) front.units w n lw finds same (some_shares units f ok)

    pub found_wide : direction_fits (share units) (take n front.units) (take n w) ≡ false → next units f ≡ wide
    found_wide = places_wide (setting_of units) (moved_values units) f (fractional_units f.values) front.units w n lw finds same

    pub found_line : (line : LineOfPlaces) → IsLineOf (share units) (take n front.units) (take n w) line → HasDirection units f line
    found_line line l = record {
      circuit = take n w;
      finds = finds;
      is_line = subst (λ (ks : List ℕ). IsLineOf (share units) ks (take n w) line)
          (sym (places_prefix (setting_of units) (moved_values units) f (fractional_units f.values) front.units w n lw finds same)) l;
    }
