-- Where a move ends, the columns of the units that are still fractional are independent, of those that its search went through, or after a dropped row of all.
use Rattle.std.proofs.Common.{◌≡◌, ◌≢◌, ℕ, suc, ◌+◌, ◌*◌, ◌<◌, Bool, true, false, List, [], ◌∷◌, ◌++◌, ℤ, pos, ◌*ℤ◌, map, take, length, length-take, get_or, arith, refl, sym, ap, ◌∙◌, subst, inl, inr}
use Rattle.std.specs.List.{filter}
use Rattle.std.proofs.{lemmas.Bool.{cases_Bool, true≢false}, lemmas.List.{get_or-map, length-map, take-map, take_more}}
use Prim.Native.Nat.{◌∣◌}
use lib.IntN.{*ℤ_comm, *ℤ-zero}
use Rattle.smp_kernel.specs.{Vectors.{entry, dot}, RowReduction.{cut, AreIndependent, InForce, IsRelationOn}, Minors.{keep}}
use Rattle.smp_kernel.specs.Searches.{found}
use Rattle.smp_kernel.proofs.{FoundCircuits.{circuit_length}, OneRelation.{fewer_rows, without_one}, SearchLaw.{together}}
use Rattle.smp_kernel.proofs.Ring.{*ℤ_assoc, positive_some, zero_of_product, zero_right}
use Rattle.smp_prob.specs.Shares.{Shares}
use Rattle.smp_values.specs.Values.{fractional_units, is_fractional}
use Rattle.smp_moves.specs.{Ends.{end_of}, Kept.Ends.{IsOver}, Moves.{IsLine, IsOrder, Line, entry_at, entry_of}, Steps.{Finds}}
use Rattle.smp_moves.proofs.Entries.{entry_at_none, entry_at_place, frame_order, off_line, on_line, place_or, numbers_apart}
use Rattle.smp_moves.proofs.{LineEnds.{reached, settled_unit}, Moved.{same_still}}
use Rattle.smp_flight.specs.{Kept.Windows.{is_in}, Moves.{setting_of}, States.{Units, Flight, IsFlight, IsUnits, column, columns_of, size}}
use Rattle.smp_flight.specs.{Laws.Nexts.{flight_over, order_inside}, Laws.Firsts.{fractional_in, in_range, in_order_going}}
use Rattle.smp_flight.specs.{Laws.Windowed.{in_or}, Laws.MoveTotals.{number_in, circuit_count, none_in}, Laws.Reordered.{same_dot, sum_at}}
use Rattle.smp_flight.proofs.Gained.{all_units, dot_scaled, map_same, part, part_is, unit_inside}
pub use Rattle.smp_flight.specs.Laws.Firsts.{filter_in, in_filter, out_filter}

-- ---- what is kept of some columns
keep_is : (units : Units) (q : ℕ) (p : ℕ → Bool) (us : List ℕ) → keep (map p us) (cut q (columns_of units us)) ≡ cut q (columns_of units (filter p us))
keep_is units q p [] = refl
keep_is units q p (u ∷ us) =
    elim (cases_Bool (p u)) [
      | inl e ↦ rw e (ap (λ cs. take q (column units u) ∷ cs) (keep_is units q p us))
      | inr e ↦ rw e (keep_is units q p us)
    ]

length_cut : (units : Units) (q : ℕ) (us : List ℕ) → length (cut q (columns_of units us)) ≡ length us
length_cut units q us = length-map (columns_of units us) (take q) ∙ length-map us (column units)

scale_at : (g e y : ℤ) (p z m : ℕ) → g *ℤ e ≡ pos z *ℤ y → z * p ≡ m → g *ℤ (pos p *ℤ e) ≡ pos m *ℤ y
scale_at g e y p z m h same =
    let n : p * z ≡ m = omega (arith, same) in
    sym (*ℤ_assoc g (pos p) e) ∙ ap (λ x. x *ℤ e) (*ℤ_comm g (pos p)) ∙ *ℤ_assoc (pos p) g e ∙ ap (λ x. pos p *ℤ x) h ∙ sym (*ℤ_assoc (pos p) (pos z) y) ∙ ap (λ x. pos x *ℤ y) n

-- ---- a move, along the line of a circuit or against it
module _ (units : Units) (f : Flight) (is_flight : IsFlight units f) (order : List ℕ) (ordered : IsOrder f.values order) (w : List ℤ) (finds : Finds (setting_of units) f order (found w)) (line : Line) (prefix : line.units ≡ take (length w) order) (line_ok : IsLine f.values line)
    (g : ℤ) (some_g : g ≢ pos 0) (product : (j : ℕ) → j < length line.units → g *ℤ entry line.entries j ≡ pos (size units (get_or line.units j 0)) *ℤ entry w j) where
  abbrev t : Shares
  t = end_of units.requested.den f.values line

  abbrev pub is_over : IsOver units.requested.den f.values
  is_over = flight_over units f is_flight

  units_count : length line.units ≡ length w
  units_count = circuit_count units f order w finds line.units prefix

  inside : (j : ℕ) → j < length line.units → get_or line.units j 0 < length units.sizes
  inside = order_inside units f is_flight line.units line_ok.order

  -- ---- the parts of the line add up to 0
  module _ (are : IsUnits units) (multiple : ℕ) (of_denominator : units.requested.den ∣ multiple) (of_sizes : (k : ℕ) → k < length units.sizes → size units k ∣ multiple) where
    abbrev ks : List ℕ
    ks = all_units units

    abbrev its_part : ℕ → ℕ
    its_part = part units are multiple of_denominator of_sizes

    scaled : (k : ℕ) → k < length units.sizes → g *ℤ (pos (its_part k) *ℤ entry_of line k) ≡ pos multiple *ℤ entry_at line.units w k
    scaled k l =
        elim (place_or line.units k) [
          | inl h ↦
              (let here : entry_of line k ≡ entry line.entries h.0 = subst (λ (x : ℕ). entry_of line x ≡ entry line.entries h.0) h.2 (on_line f.values line line_ok h.0 h.1) in
              let factor : entry_at line.units w k ≡ entry w h.0 = subst (λ (x : ℕ). entry_at line.units w x ≡ entry w h.0) h.2 (entry_at_place line.units w h.0 h.1 (sym units_count) line_ok.order.distinct) in
              let e : g *ℤ entry line.entries h.0 ≡ pos (size units k) *ℤ entry w h.0 = subst (λ (x : ℕ). g *ℤ entry line.entries h.0 ≡ pos (size units x) *ℤ entry w h.0) h.2 (product h.0 h.1) in
              rw (here, factor) (scale_at g (entry line.entries h.0) (entry w h.0) (its_part k) (size units k) multiple e (part_is units are multiple of_denominator of_sizes k l)))
          | inr out ↦
              rw (off_line f.values line line_ok k out, entry_at_none line.units w k out)
              (zero_right g (pos (its_part k) *ℤ pos 0) (*ℤ-zero (pos (its_part k))) ∙ sym (*ℤ-zero (pos multiple)))
        ]

    pub parts_add_up : (row : ℕ) → row < f.rows → dot (map (λ k. pos (its_part k) *ℤ entry_of line k) ks) (map (number_in units row) ks) ≡ pos 0
    parts_add_up row l =
        zero_of_product g (dot (map (λ k. pos (its_part k) *ℤ entry_of line k) ks) (map (number_in units row) ks)) some_g
        (sym (dot_scaled g (λ k. pos (its_part k) *ℤ entry_of line k) ks (map (number_in units row) ks))
        ∙ ap (λ xs. dot xs (map (number_in units row) ks))
        (map_same (λ k. g *ℤ (pos (its_part k) *ℤ entry_of line k)) (λ k. pos multiple *ℤ entry_at line.units w k) ks (λ j m. scaled (get_or ks j 0) (unit_inside units j m)))
        ∙ dot_scaled (pos multiple) (entry_at line.units w) ks (map (number_in units row) ks)
        ∙ zero_right (pos multiple) (dot (map (entry_at line.units w) ks) (map (number_in units row) ks))
        (same_dot (length units.sizes) line.units ks inside (unit_inside units) line_ok.order.distinct (numbers_apart (length units.sizes))
        (λ k h. in_range (length units.sizes) k (let at = in_or line.units k h in omega (arith, inside at.place at.here, at.is))) w (sym units_count) (number_in units row) ∙ none_in units f order w finds line.units prefix row l))

  -- ---- the unit that is settled
  abbrev pub place : ℕ
  place = (reached units.requested.den f.values is_over line line_ok).place

  place_within : place < length line.units
  place_within = (reached units.requested.den f.values is_over line line_ok).within

  was_settled : (is_fractional f.values (get_or line.units place 0) ≡ true) × (is_fractional t (get_or line.units place 0) ≡ false)
  was_settled = settled_unit units.requested.den f.values is_over line line_ok

  pub factor_some : entry w place ≢ pos 0
  factor_some z =
      let e : entry line.entries place ≡ pos 0 =
      zero_of_product g (entry line.entries place) some_g (product place place_within ∙ zero_right (pos (size units (get_or line.units place 0))) (entry w place) z) in
      let none : entry_of line (get_or line.units place 0) ≡ pos 0 = on_line f.values line line_ok place place_within ∙ e in
      absurd (true≢false (sym was_settled.0 ∙ sym (same_still units.requested.den f.values is_over line line_ok (get_or line.units place 0) none) ∙ was_settled.1))

  -- ---- of the units that the search went through
  abbrev cs : List (List ℤ)
  cs = cut f.rows (columns_of units order)

  searched_columns : take finds.number cs ++ get_or cs finds.number [] ∷ [] ≡ cut f.rows (columns_of units line.units)
  searched_columns =
      sym (take_more cs finds.number [] finds.more) ∙ ap (λ n. take n cs) (sym (circuit_length f.rows cs w finds))
      ∙ take-map (take f.rows) (length w) (columns_of units order) ∙ ap (cut f.rows) (take-map (column units) (length w) order) ∙ ap (λ us. cut f.rows (columns_of units us)) (sym prefix)

  pub front_free : AreIndependent f.rows (cut f.rows (columns_of units (filter (is_fractional t) line.units)))
  front_free =
      let n = finds.number in
      let kept : List Bool = map (is_fractional t) line.units in
      let more : finds.number < length cs = finds.more in
      let long : length (map (is_fractional t) line.units) ≡ length (take finds.number cs) + 1 =
      omega (arith, length-map line.units (is_fractional t), units_count, circuit_length f.rows cs w finds, length-take finds.number cs, more) in
      let some : entry (finds.before ++ finds.last ∷ []) place ≢ pos 0 = subst (λ (v : List ℤ). entry v place ≢ pos 0) finds.is factor_some in
      let off : get_or (map (is_fractional t) line.units) place true ≡ false = get_or-map (is_fractional t) line.units place 0 true place_within ∙ was_settled.1 in
      subst (AreIndependent f.rows) (ap (keep (map (is_fractional t) line.units)) searched_columns ∙ keep_is units f.rows (is_fractional t) line.units)
      (without_one f.rows (take finds.number cs) (get_or cs finds.number []) (together f.rows cs finds.number finds.enter finds.number (omega arith)) finds.before finds.last
      (positive_some finds.last finds.closes.circuit.positive) finds.closes.circuit.relation (map (is_fractional t) line.units) long place some off)

  -- ---- of all, after a dropped row
  abbrev us : List ℕ
  us = fractional_units f.values

  us_inside : (j : ℕ) → j < length us → get_or us j 0 < length units.sizes
  us_inside = order_inside units f is_flight us (frame_order f.values)

  us_have : (k : ℕ) → is_in line.units k ≡ true → is_in us k ≡ true
  us_have k h = fractional_in f.values k (in_order_going f.values line.units line_ok.order k h)

  abbrev factors : List ℤ
  factors = map (entry_at line.units w) us

  factors_are : IsRelationOn (InForce f.rows) (cut (suc f.rows) (columns_of units us)) factors
  factors_are = (
    length-map us (entry_at line.units w) ∙ sym (length_cut units (suc f.rows) us),
    λ row l.
        (let more : row < suc f.rows = omega (arith, l) in
        sum_at (length units.sizes) line.units us inside us_inside line_ok.order.distinct (frame_order f.values).distinct us_have w (sym units_count) units (suc f.rows) factors us row more
        ∙ same_dot (length units.sizes) line.units us inside us_inside line_ok.order.distinct (frame_order f.values).distinct us_have w (sym units_count) (number_in units row) ∙ none_in units f order w finds line.units prefix row l),
  )

  pub its_relation : IsRelationOn (InForce f.rows) (cut f.rows (columns_of units line.units)) w
  its_relation = (
    sym units_count ∙ sym (length_cut units f.rows line.units),
    λ row l.
        sum_at (length units.sizes) line.units us inside us_inside line_ok.order.distinct (frame_order f.values).distinct us_have w (sym units_count) units f.rows w line.units row l ∙ none_in units f order w finds line.units prefix row l,
  )

  -- a row more changes nothing in the rows in force
  fewer_cut : (vs : List ℕ) → AreIndependent f.rows (cut (suc f.rows) (columns_of units vs)) → AreIndependent f.rows (cut f.rows (columns_of units vs))
  fewer_cut vs ind v rel =
      ind v (
        rel.0 ∙ length_cut units f.rows vs ∙ sym (length_cut units (suc f.rows) vs),
        λ row l.
            (let more : row < suc f.rows = omega (arith, l) in
            sum_at (length units.sizes) line.units us inside us_inside line_ok.order.distinct (frame_order f.values).distinct us_have w (sym units_count) units (suc f.rows) v vs row more
            ∙ sym (sum_at (length units.sizes) line.units us inside us_inside line_ok.order.distinct (frame_order f.values).distinct us_have w (sym units_count) units f.rows v vs row l) ∙ rel.1 row l),
      )

  pub all_free : AreIndependent (suc f.rows) (cut (suc f.rows) (columns_of units us)) → AreIndependent f.rows (cut f.rows (columns_of units (filter (is_fractional t) us)))
  all_free ind =
      let at = in_or us (get_or line.units place 0) (fractional_in f.values (get_or line.units place 0) was_settled.0) in
      let factor : entry factors at.place ≡ entry w place =
      get_or-map (entry_at line.units w) us at.place 0 (pos 0) at.here ∙ ap (entry_at line.units w) at.is ∙ entry_at_place line.units w place place_within (sym units_count) line_ok.order.distinct in
      let some : entry factors at.place ≢ pos 0 = λ z. factor_some (sym factor ∙ z) in
      let off : get_or (map (is_fractional t) us) at.place true ≡ false = get_or-map (is_fractional t) us at.place 0 true at.here ∙ ap (is_fractional t) at.is ∙ was_settled.1 in
      fewer_cut (filter (is_fractional t) us)
      (subst (AreIndependent f.rows) (keep_is units (suc f.rows) (is_fractional t) us)
      (fewer_rows f.rows (cut (suc f.rows) (columns_of units us)) ind factors factors_are (map (is_fractional t) us) (length-map us (is_fractional t) ∙ sym (length_cut units (suc f.rows) us)) at.place some off))
