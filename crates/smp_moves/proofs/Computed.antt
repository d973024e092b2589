-- The step that is computed has the properties of a step, in whatever the values are kept, where no share is 0, and a direction that fits can move
-- the values to the ends that are computed.
use Rattle.std.proofs.Common.{◌≡◌, ◌≢◌, ℕ, ◌<◌, ◌≤◌, ◌^◌, nat_le, Bool, true, false, ℤ, pos, ◌<ℤ◌, Option, Some, None, List, take, length, map, arith, refl, sym, ap, ◌∙◌, subst, inl, inr, length-take}
use Rattle.std.specs.{Prelude.{MatchOption}, Int.RustNames.{unsigned_abs}}
use Rattle.std.proofs.{lemmas.Bool.{and_from, and_parts, cases_Bool, le-leb, leb-true, true≢false}, lemmas.Int.{ints}}
use Rattle.std.proofs.lemmas.List.{length-map, length-take-le, get_or-take, take_all}
use Rattle.smp_frac.specs.Limits.{most_denominator, most_entry}
use Rattle.smp_kernel.specs.{Vectors.{entry, IsZero, Within}, RowReduction.{AreIndependent, cut}, Searches.{Search, found, none, too_wide}}
use Rattle.smp_kernel.proofs.SearchLaw.{one_answer}
use Rattle.smp_kernel.proofs.Reduce.{primitive_part_is, length-primitive_part}
use Rattle.smp_kernel.proofs.{FoundCircuits.{circuit_length, circuit_last, cut_circuit_short}, SearchLaw.{none_is_few, together}}
use Rattle.smp_prob.specs.Shares.{Shares}
use Rattle.smp_moves.specs.{declared.lines.Line.{Line as LineOfPlaces}, declared.lines.Ratio.{Ratio}, Cubes.{Flight}, Ends.{entries_fit, extent}}
use Rattle.smp_moves.specs.Kept.Searches.{search, search_is}
use Rattle.smp_moves.specs.Moves.{Line, Move, Next, Setting, chosen_extent, chosen_line, move, independent, wide, turned}
use Rattle.smp_moves.specs.Steps.{Finds, FitsAtEnds, FitsOnLine, IsDirection, IsFlown, IsMove, IsNext, IsWide, Stepping, scale_of, scaled, search_wide, direction_wide, move_wide}
use Rattle.smp_moves.specs.Kept.Computed.{HoldsLine, IsKnown, IsLineOf, direction, direction_fits, direction_on, fits, fits_at_ends, fits_on_line, line_in, next_along, next_by, next_of, next_through}
use Rattle.smp_moves.proofs.{Entries.{turned_line}, LineEnds.{greatest}, OneStep.{Goes, one_direction}, Sizes.{all_small}}
use Rattle.smp_moves.proofs.OneStep as steps
use Rattle.smp_moves.proofs.Products.{HasSome, HaveSome, length-scaled, scaled_some}
use Rattle.smp_moves.proofs.Weights.{ends_weighed, lowest_weights, within_from, within_to}

-- ---- what the search found

module _ {Values Fixed : Type 0} (setting : Setting Values) (end_at : Values → Line → Values) (f : Flight Values Fixed) (order : List ℕ) where
  known_from : (answer : Search) → Finds setting f order answer → (m : Move) → next_of setting end_at f.values order answer ≡ move m → IsKnown setting end_at f order m
  known_from none finds m e = absurd (let h : independent ≡ move m = e in cc)
  known_from too_wide finds m e = absurd (let h : wide ≡ move m = e in cc)
  known_from (found w) finds m e =
      elim (cases_Bool (fits setting end_at f.values (take (length w) order) w)) [
        | inl t ↦
            (let here : move (next_along setting f.values (direction setting.share order w)) ≡ move m = rw t at e in
            let same : next_along setting f.values (direction setting.share order w) ≡ m = cc in
            record { circuit = w; finds = finds; fits = t; same = sym same })
        | inr n ↦ absurd (let h : wide ≡ move m = rw n at e in cc)
      ]

  pub known : (m : Move) → next_by setting end_at order f ≡ move m → IsKnown setting end_at f order m
  known m e = known_from (search f.rows (map setting.column order)) (search_is f.rows (map setting.column order)) m e

  none_from : (answer : Search) → next_of setting end_at f.values order answer ≡ independent → answer ≡ none
  none_from none e = refl
  none_from too_wide e = absurd (let h : wide ≡ independent = e in cc)
  none_from (found w) e =
      elim (cases_Bool (fits setting end_at f.values (take (length w) order) w)) [
        | inl t ↦ absurd (let h : move (next_along setting f.values (direction setting.share order w)) ≡ independent = rw t at e in cc)
        | inr n ↦ absurd (let h : wide ≡ independent = rw n at e in cc)
      ]

  -- where there is no move and no number is wide, it found none
  pub finds_none : next_by setting end_at order f ≡ independent → Finds setting f order none
  finds_none e = subst (Finds setting f order) (none_from (search f.rows (map setting.column order)) e) (search_is f.rows (map setting.column order))

  -- the step by any answer of the search, of which there is one
  pub next_answered : (a : Search) → Finds setting f order a → next_by setting end_at order f ≡ next_of setting end_at f.values order a
  next_answered a finds =
      let columns = map setting.column order in
      ap (next_of setting end_at f.values order) (one_answer f.rows (cut f.rows columns) (search f.rows columns) a (search_is f.rows columns) finds)

-- ---- the direction

module _ {Values Fixed : Type 0} (setting : Setting Values) (f : Flight Values Fixed) (order : List ℕ) (w : List ℤ) (finds : Finds setting f order (found w)) where
  pub circuit_within : length w ≤ length order
  circuit_within = omega (arith, cut_circuit_short f.rows (map setting.column order) w finds, length-map order setting.column)

  pub prefix_length : length (take (length w) order) ≡ length w
  prefix_length = length-take-le (length w) order circuit_within

  module _ (some : HaveSome setting.share order) where
    pub front_some : HaveSome setting.share (take (length w) order)
    front_some j l =
        let here : j < length w = omega (arith, l, prefix_length) in
        subst (λ (k : ℕ). HasSome setting.share k) (sym (get_or-take (length w) order j 0 here)) (some j (omega (arith, here, circuit_within)))

    pub some_scaled : IsZero (scaled setting.share (scale_of setting.share (take (length w) order) w) (take (length w) order) w) → ⊥
    some_scaled z =
        let cs : List (List ℤ) = cut f.rows (map setting.column order) in
        let l : finds.number < length w = omega (arith, circuit_length f.rows cs w finds) in
        let p : pos 0 <ℤ entry w finds.number = circuit_last f.rows cs w finds in
        let ne : entry w finds.number ≢ pos 0 = λ e. absurd (omega (arith, ints, p, e)) in
        scaled_some setting.share (take (length w) order) w front_some finds.number (omega (arith, l, prefix_length)) l ne (z finds.number)

    pub is_direction : IsDirection setting.share order w (direction setting.share order w)
    is_direction = record {
      prefix = refl;
      lengths = length-primitive_part (scaled setting.share (scale_of setting.share (take (length w) order) w) (take (length w) order) w)
          ∙ length-scaled setting.share (scale_of setting.share (take (length w) order) w) (take (length w) order) w prefix_length;
      entries = primitive_part_is (scaled setting.share (scale_of setting.share (take (length w) order) w) (take (length w) order) w) some_scaled;
    }

-- a row in proportion to share times factor, where the scale of these fits, has the line of the direction
module _ (share : ℕ → Ratio) (prefix : List ℕ) (w row : List ℤ) (is : row ≡ scaled share (scale_of share prefix w) prefix w) (scale : scale_of share prefix w ≤ most_denominator) where
  pub line_found : (result : Option LineOfPlaces) → MatchOption result (entries_fit (line_in prefix row) ≡ false) (HoldsLine (line_in prefix row)) →
      MatchOption result (direction_fits share prefix w ≡ false) (IsLineOf share prefix w)
  line_found None e = rw (le-leb (scale_of share prefix w) most_denominator scale) (subst (λ (r : List ℤ). entries_fit (line_in prefix r) ≡ false) is e)
  line_found (Some line) h =
      let there : HoldsLine (direction_on share prefix w) line = subst (λ (r : List ℤ). HoldsLine (line_in prefix r) line) is h in
      record { fits = rw (le-leb (scale_of share prefix w) most_denominator scale) there.fits; holds = there }

-- ---- a circuit in the first places of an array, and the units of another to which it belongs

module _ {Values Fixed : Type 0} (setting : Setting Values) (end_at : Values → Line → Values) (f : Flight Values Fixed) (order us : List ℕ) (w : List ℤ) (n : ℕ) (long : n ≤ length w) (finds : Finds setting f order (found (take n w))) (same : take n order ≡ take n us) where
  pub places_prefix : take (length (take n w)) order ≡ take n us
  places_prefix = ap (λ k. take k order) (let e : length (take n w) ≡ n = omega (arith, long, length-take n w) in e) ∙ same

  pub places_small : ((i : ℕ) → n ≤ i → entry w i ≡ pos 0) → (j : ℕ) → unsigned_abs (entry w j) ≤ 2 ^ 44
  places_small past = all_small n w (subst (Within (2 ^ 44)) (sym finds.is) finds.closes.fits) past

  pub places_some : HaveSome setting.share order → IsZero (scaled setting.share (scale_of setting.share (take n us) (take n w)) (take n us) (take n w)) → ⊥
  places_some some z =
      some_scaled setting f order (take n w) finds some (subst (λ (ks : List ℕ). IsZero (scaled setting.share (scale_of setting.share ks (take n w)) ks (take n w))) (sym places_prefix) z)

  pub places_through : next_by setting end_at order f ≡ next_through setting end_at f.values (take n us) (take n w)
  places_through = next_answered setting end_at f order (found (take n w)) finds ∙ ap (λ (ks : List ℕ). next_through setting end_at f.values ks (take n w)) places_prefix

  pub places_wide : direction_fits setting.share (take n us) (take n w) ≡ false → next_by setting end_at order f ≡ wide
  places_wide d = places_through ∙ (rw d refl)

-- ---- the step

-- What a state owes for its step: no share of its order is 0; the line of a direction that fits can move the values; and the values at both its
-- ends are those that are computed.
pub record Owes {Values Fixed : Type 0} (setting : Setting Values) (end_at : Values → Line → Values) (f : Flight Values Fixed) (order : List ℕ) : Type 0 where
  pub some : HaveSome setting.share order
  pub goes : (w : List ℤ) → Finds setting f order (found w) → FitsOnLine setting f.values w (direction setting.share order w) → Goes (setting.over f.values (take (length w) order)) (direction setting.share order w)
  pub up : (w : List ℤ) → Finds setting f order (found w) → FitsOnLine setting f.values w (direction setting.share order w) →
      setting.IsEnd f.values (direction setting.share order w) (extent (setting.over f.values (take (length w) order)) (direction setting.share order w)) (end_at f.values (direction setting.share order w))
  pub down : (w : List ℤ) → Finds setting f order (found w) → FitsOnLine setting f.values w (direction setting.share order w) →
      setting.IsEnd f.values (turned (direction setting.share order w)) (extent (setting.over f.values (take (length w) order)) (turned (direction setting.share order w))) (end_at f.values (turned (direction setting.share order w)))

module _ {Values Fixed : Type 0} (setting : Setting Values) (end_at : Values → Line → Values) (f : Flight Values Fixed) (order : List ℕ) (owes : Owes setting end_at f order) where
  module _ (w : List ℤ) (finds : Finds setting f order (found w)) where
    abbrev line : Line
    line = direction setting.share order w

    abbrev s : Shares
    s = setting.over f.values (take (length w) order)

    abbrev plus_end : Values
    plus_end = end_at f.values line

    abbrev minus_end : Values
    minus_end = end_at f.values (turned line)

    abbrev prefix : List ℕ
    prefix = take (length w) order

    abbrev fits_along : Bool
    fits_along = fits_on_line setting f.values (take (length w) order) w

    abbrev fits_there : Bool
    fits_there = fits_at_ends setting end_at f.values line

    along_from : fits_along ≡ true → FitsOnLine setting f.values w line
    along_from h =
        let a = and_parts (direction_fits setting.share prefix w) (nat_le s.den most_denominator) h in
        let b = and_parts (nat_le (scale_of setting.share prefix w) most_denominator) (entries_fit line) a.0 in
        record {
          scale = leb-true (scale_of setting.share prefix w) most_denominator b.0;
          entries = within_from most_entry line.entries b.1;
          denominator = leb-true s.den most_denominator a.1;
        }

    along_to : FitsOnLine setting f.values w line → fits_along ≡ true
    along_to n =
        and_from (direction_fits setting.share prefix w) (nat_le s.den most_denominator)
        (and_from (nat_le (scale_of setting.share prefix w) most_denominator) (entries_fit line)
        (le-leb (scale_of setting.share prefix w) most_denominator n.scale) (within_to most_entry line.entries n.entries))
        (le-leb s.den most_denominator n.denominator)

    there_from : fits_there ≡ true → FitsAtEnds setting plus_end minus_end
    there_from h =
        let a = and_parts (nat_le (setting.common plus_end) most_denominator) (nat_le (setting.common minus_end) most_denominator) h in
        record { plus = leb-true (setting.common plus_end) most_denominator a.0; minus = leb-true (setting.common minus_end) most_denominator a.1 }

    there_to : FitsAtEnds setting plus_end minus_end → fits_there ≡ true
    there_to e =
        and_from (nat_le (setting.common plus_end) most_denominator) (nat_le (setting.common minus_end) most_denominator)
        (le-leb (setting.common plus_end) most_denominator e.plus) (le-leb (setting.common minus_end) most_denominator e.minus)

    is_move : FitsOnLine setting f.values w line → IsMove setting f.values order w (next_along setting f.values line) plus_end minus_end
    is_move narrow =
        let g = owes.goes w finds narrow in
        record {
          direction = is_direction setting f order w finds owes.some;
          up = greatest g.first s g.over line g.ok;
          down = greatest g.first s g.over (turned line) (turned_line s line g.ok);
          plus_moved = owes.up w finds narrow;
          minus_moved = owes.down w finds narrow;
          weights = ends_weighed g.first s g.over line g.ok;
          coprime = (lowest_weights g.first s g.over line g.ok).reduced;
        }

    module _ (h : fits setting end_at f.values (take (length w) order) w ≡ true) where
      pub on_line : FitsOnLine setting f.values w line
      on_line = along_from (and_parts fits_along fits_there h).0

      pub at_ends : FitsAtEnds setting plus_end minus_end
      at_ends = there_from (and_parts fits_along fits_there h).1

      pub found_move : IsMove setting f.values order w (next_along setting f.values line) plus_end minus_end
      found_move = is_move on_line

      flown : IsFlown setting f order (next_along setting f.values line)
      flown = record { circuit = w; finds = finds; fits_on_line = on_line; plus_end = plus_end; minus_end = minus_end; is = found_move; fits_at_ends = at_ends }

      pub ends_moved : (plus : Bool) → setting.IsEnd f.values (chosen_line (next_along setting f.values line) plus) (chosen_extent (next_along setting f.values line) plus) (end_at f.values (chosen_line (next_along setting f.values line) plus))
      ends_moved true = found_move.plus_moved
      ends_moved false = found_move.minus_moved

    unfit : fits setting end_at f.values (take (length w) order) w ≡ false → IsWide setting f order
    unfit h =
        elim (cases_Bool fits_along) [
          | inr n ↦ direction_wide w line finds (is_direction setting f order w finds owes.some) (λ narrow. true≢false (sym (along_to narrow) ∙ n))
          | inl t ↦ move_wide w (next_along setting f.values line) plus_end minus_end finds (is_move (along_from t)) (λ e. true≢false (sym (and_from fits_along fits_there t (there_to e)) ∙ h))
        ]

    next_found : IsNext setting f order (next_of setting end_at f.values order (found w))
    next_found = elim (cases_Bool (fits setting end_at f.values (take (length w) order) w)) [ inl t ↦ rw t (flown t) | inr n ↦ rw n (unfit n) ]

  next_from : (answer : Search) → Finds setting f order answer → IsNext setting f order (next_of setting end_at f.values order answer)
  next_from none finds = finds
  next_from too_wide finds = search_wide finds
  next_from (found w) finds = next_found w finds

  pub next_is : IsNext setting f order (next_by setting end_at order f)
  next_is = next_from (search f.rows (map setting.column order)) (search_is f.rows (map setting.column order))

  -- ---- what a move of the step is
  module _ (m : Move) (k : IsKnown setting end_at f order m) where
    pub known_end : (plus : Bool) → setting.IsEnd f.values (chosen_line m plus) (chosen_extent m plus) (end_at f.values (chosen_line m plus))
    known_end plus =
        subst (λ (x : Move). setting.IsEnd f.values (chosen_line x plus) (chosen_extent x plus) (end_at f.values (chosen_line x plus))) (sym k.same)
        (ends_moved k.circuit k.finds k.fits plus)

  -- ---- there is no other
  module _ (one_end : (line : Line) (r : Ratio) (p q : Values) → setting.IsEnd f.values line r p → setting.IsEnd f.values line r q → p ≡ q) where
    any_goes : (w : List ℤ) (l : Line) → Finds setting f order (found w) → IsDirection setting.share order w l → FitsOnLine setting f.values w l → Goes (setting.over f.values l.units) l
    any_goes w l finds d narrow =
        let is : l ≡ direction setting.share order w = one_direction setting.share order w l (direction setting.share order w) d (is_direction setting f order w finds owes.some) in
        let there : FitsOnLine setting f.values w (direction setting.share order w) = subst (FitsOnLine setting f.values w) is narrow in
        subst (λ (x : Line). Goes (setting.over f.values x.units) x) (sym is) (owes.goes w finds there)

    pub one_next : (a b : Next) → IsNext setting f order a → IsNext setting f order b → a ≡ b
    one_next = steps.one_next setting f order one_end any_goes

-- ---- so there are steps

abbrev pub stepping_by : {Units Values Fixed : Type 0} (setting : Units → Setting Values) (IsAllowed : Units → Flight Values Fixed → List ℕ → Type 0) (end_at : Units → Values → Line → Values) →
    ((units : Units) (f : Flight Values Fixed) (order : List ℕ) → IsAllowed units f order → Owes (setting units) (end_at units) f order) → Stepping setting IsAllowed
stepping_by setting IsAllowed end_at owes = record {
  next_on = λ units order f. next_by (setting units) (end_at units) order f;
  end_at = end_at;
  is_next = λ units f order allowed. next_is (setting units) (end_at units) f order (owes units f order allowed);
  is_moved = λ units f order allowed m e.
      (let moved = known_end (setting units) (end_at units) f order (owes units f order allowed) m (known (setting units) (end_at units) f order m e) in (moved true, moved false));
}

-- ---- where there is no step

module _ {Values Fixed : Type 0} (setting : Setting Values) (end_at : Values → Line → Values) (f : Flight Values Fixed) (order : List ℕ) (e : next_by setting end_at order f ≡ independent) where
  -- the columns are independent
  pub independent_by : AreIndependent f.rows (cut f.rows (map setting.column order))
  independent_by =
      let cs : List (List ℤ) = cut f.rows (map setting.column order) in
      subst (AreIndependent f.rows) (take_all (length cs) cs (omega arith)) (together f.rows cs (length cs) (finds_none setting end_at f order e) (length cs) (omega arith))

  -- so they are no more than there are rows in force
  pub few_by : length order ≤ f.rows
  few_by = omega (arith, none_is_few f.rows (map setting.column order) (finds_none setting end_at f order e), length-map order setting.column)
