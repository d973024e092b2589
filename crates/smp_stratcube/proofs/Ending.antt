-- The values at the end of a line, unit by unit, and their common denominator.
use Rattle.std.proofs.Common.{◌≡◌, ℕ, suc, ◌*◌, ◌/◌, ◌<◌, ◌≤◌, ◌^◌, ◌&&◌, nat_le, Bool, true, false, pos, fold, Option, Some, List, [], ◌∷◌, ◌++◌, map, take, length, get_or, arith, refl, sym, ap, ◌∙◌, subst, inl, inr, suc-le-suc, length-take, get_or-take}
use Rattle.std.specs.{List.{filter, range_with_len}, Option.{is_some}}
use Rattle.std.proofs.{lemmas.Bool.{and_parts, cases_Bool}, lemmas.List.{append-nil}}
use Rattle.std.proofs.{lemmas.List.Elements.{filter-append}, lemmas.List.Folds.{fold-map}, lemmas.List.Sums.{fold-append}}
use Rattle.smp_prob.specs.{Given.{least_multiple}, Shares.{Shares}}
use Rattle.smp_values.specs.Values.{fractional}
use Rattle.smp_moves.specs.{declared.lines.Line.{Line as LineOfPlaces}, declared.reaches.Reach.{Reach}}
use Rattle.smp_moves.specs.{Moves.{Line, entry_of}}
use Rattle.smp_moves.specs.{Answers.{line_of}, Kept.Ends.{CanMove, IsOver}, Steps.{common_multiple}}
use Rattle.smp_moves.proofs.{Entries.{order_within}, LineEnds.{reached}}
use Rattle.smp_moves.proofs.{Sizes.{can_advance, small_places}}
use Rattle.smp_stratcube.specs.{declared.fronts.Front.{Front}, declared.values.Value.{Value}, Units.{Units, IsUnits, first, stratum}}
use Rattle.smp_stratcube.specs.Values.{AreValues, IsValue, common_of, is_fractional, over_common, value}
use Rattle.smp_stratcube.specs.{Kept.Computed.{moved_value, values_along}, Kept.Fronts.{IsFront, front_units, units_on}, Laws.Units.{denominators, denominators_some, touched_units}}
use Rattle.smp_stratcube.specs.{Kept.Gates.{gated, gathered, held, with_unit}, Kept.Moves.{IsAlong, end_gathered}}
use Rattle.smp_stratcube.specs.Laws.Ends.{after_fractional, after_moved, along_at, along_still, length_along}
use Rattle.smp_moves.proofs.{Multiples.{multiple_some, some_map}, Filtered.{filter_none, filter_twice}}
use Rattle.smp_stratcube.specs.Laws.Taken.{length_over, numer_over, is_over}
use Rattle.smp_stratcube.proofs.{Ahead.{unit_on}, Gated.{gate_all, gate_held}}

-- ---- what some units add to a common denominator

abbrev pub is_changed : List Value → ℕ → Bool
is_changed values k = (value values k).touched && fractional (value values k).at.den (value values k).at.num

pub gathered_is : (units : Units) (values : List Value) (c : Option ℕ) (ks : List ℕ) → gathered units (value values) c ks ≡ gate_all c (denominators units values (filter (is_changed values) ks))
gathered_is units values c [] = refl
gathered_is units values c (k ∷ ks) =
    elim (cases_Bool (is_changed values k)) [
      | inl t ↦ rw t (gathered_is units values (gated (gated c (first units k)) (value values k).at.den) ks)
      | inr f ↦ rw f (gathered_is units values c ks)
    ]

pub gathered_same : (units : Units) (at there : ℕ → Value) (c : Option ℕ) (ks : List ℕ) → ((j : ℕ) → j < length ks → at (get_or ks j 0) ≡ there (get_or ks j 0)) → gathered units at c ks ≡ gathered units there c ks
gathered_same units at there c [] h = refl
gathered_same units at there c (k ∷ ks) h =
    ap (λ (v : Value). gathered units at (with_unit (first units k) v c) ks) (h 0 (omega arith))
    ∙ gathered_same units at there (with_unit (first units k) (there k) c) ks (λ j l. h (suc j) (suc-le-suc l))

-- by both tests
filter_both : (p q : ℕ → Bool) (xs : List ℕ) → filter q (filter p xs) ≡ filter (λ k. q k && p k) xs
filter_both p q [] = refl
filter_both p q (x ∷ xs) =
    elim (cases_Bool (p x)) [
      | inl t ↦ elim (cases_Bool (q x)) [ inl u ↦ rw (t, u) (ap (λ zs. x ∷ zs) (filter_both p q xs)) | inr g ↦ rw (t, g) (filter_both p q xs) ]
      | inr f ↦ elim (cases_Bool (q x)) [ inl u ↦ rw (f, u) (filter_both p q xs) | inr g ↦ rw (f, g) (filter_both p q xs) ]
    ]

-- the touched units are in the front, where no other unit is fractional than before and none from the place on is touched
pub touched_in_front : (old new : List Value) (front : Front) → IsFront old front → length new ≡ length old → ((k : ℕ) → is_fractional new k ≡ true → is_fractional old k ≡ true) → ((k : ℕ) → front.place ≤ k → (value new k).touched ≡ false) →
    filter (is_changed new) (front_units front) ≡ touched_units new
touched_in_front old new front is count fewer fresh =
    let none : filter (is_changed new) (units_on front.place (length old)) ≡ [] =
    filter_none (is_changed new) (units_on front.place (length old)) (λ i l. (let at = unit_on front.place (length old) i l in not_changed (get_or (units_on front.place (length old)) i 0) (omega (arith, at.0)))) in
    sym (append-nil (filter (is_changed new) (front_units front))) ∙ ap (λ us. filter (is_changed new) (front_units front) ++ us) (sym none)
    ∙ sym (filter-append (is_changed new) (front_units front) (units_on front.place (length old)))
    ∙ ap (filter (is_changed new)) is.all
    ∙ filter_twice (is_fractional old) (is_changed new) (λ k h. fewer k (and_parts (value new k).touched (is_fractional new k) h).1) (range_with_len 0 (length old))
    ∙ ap (λ n. filter (is_changed new) (range_with_len 0 n)) (sym count)
    ∙ sym (filter_both (is_fractional new) (λ k. (value new k).touched) (range_with_len 0 (length new)))
  where
    not_changed : (k : ℕ) → front.place ≤ k → is_changed new k ≡ false
    not_changed k l = (let f = fresh k l in rw f refl)

pub gathered_all : (units : Units) (are : IsUnits units) (old new : List Value) (front : Front) → AreValues (length units.members) new → IsFront old front → length new ≡ length old → ((k : ℕ) → is_fractional new k ≡ true → is_fractional old k ≡ true) → ((k : ℕ) → front.place ≤ k → (value new k).touched ≡ false) →
    gathered units (value new) (Some 1) (front_units front) ≡ held (common_multiple (denominators units new (touched_units new)))
gathered_all units are old new front ok is count fewer fresh =
    gathered_is units new (Some 1) (front_units front)
    ∙ ap (λ ks. gate_all (Some 1) (denominators units new ks)) (touched_in_front old new front is count fewer fresh)
    ∙ gate_held 1 (denominators units new (touched_units new)) (omega arith) (denominators_some units are (length units.members) new ok (touched_units new))

pub held_there : (m : ℕ) → is_some (held m) ≡ nat_le m (2 ^ 80)
held_there m = elim (cases_Bool (nat_le m (2 ^ 80))) [ inl t ↦ rw t refl | inr f ↦ rw f refl ]

-- ---- at the end of a line

module _ (count : ℕ) (values : List Value) (line : LineOfPlaces) (den : ℕ) (r : Reach) (a : IsAlong count values line den r) where
  abbrev s : Shares
  s = over_common den values

  abbrev l : Line
  l = line_of line

  pub over : IsOver 1 (over_common den values)
  over = is_over count values a.are den a.some a.narrow

  pub some_size : 1 ≤ r.size
  some_size = subst (λ (x : Reach). 1 ≤ x.size) (sym a.is_reach) (reached 1 s over l a.is_line).some_size

  pub some_left : 1 ≤ r.left
  some_left = subst (λ (x : Reach). 1 ≤ x.left) (sym a.is_reach) (reached 1 s over l a.is_line).some

  pub can_move : (k : ℕ) → CanMove ((value values k).at.num * (den / (value values k).at.den)) r (entry_of (line_of line) k)
  can_move k =
      subst (λ (n : ℕ). CanMove n r (entry_of l k)) (numer_over count values a.are den a.some k)
      (subst (λ (x : Reach). CanMove (get_or s.numer k 0) x (entry_of l k)) (sym a.is_reach) (can_advance 1 s over l a.is_line (small_places line.number line.entries a.small) k))

  -- units of the line
  pub inside : (j : ℕ) → j < line.number → get_or line.units j 0 < length values
  inside j h =
      let b : j < length (take line.number line.units) = omega (arith, h, a.padded.places, length-take line.number line.units) in
      let w = order_within s (take line.number line.units) a.is_line.order j b in
      omega (arith, w, get_or-take line.number line.units j 0 h, length_over count values a.are den a.some, a.are.count)

-- ---- the common denominator of a state and of the strata of a line

pub line_held : (units : Units) (are : IsUnits units) (values : List Value) (front : Front) → AreValues (length units.members) values → IsFront values front → (ks : List ℕ) →
    fold (λ (m : Option ℕ) k. gated m (first units k)) (gathered units (value values) (Some 1) (front_units front)) ks ≡ held (common_of units values ks)
line_held units are values front ok is ks =
    let dens : List ℕ = denominators units values (touched_units values) in
    sym (fold-map gated (first units) (gathered units (value values) (Some 1) (front_units front)) ks)
    ∙ ap (λ m. gate_all m (map (first units) ks)) (gathered_all units are values values front ok is refl (λ k h. h) is.fresh)
    ∙ gate_held (common_multiple dens) (map (first units) ks) (multiple_some dens (denominators_some units are (length units.members) values ok (touched_units values)))
    (some_map (first units) ks (λ k. (are.firsts (stratum units k)).0))
    ∙ ap held (sym (fold-append least_multiple 1 dens (map (first units) ks)))

-- the common denominator at the end of a line
pub end_held : (units : Units) (are : IsUnits units) (values : List Value) (front : Front) (line : LineOfPlaces) (den : ℕ) (r : Reach) → IsAlong (length units.members) values line den r → IsFront values front → front.number ≤ length front.units →
    ((k : ℕ) → front.place ≤ k → entry_of (line_of line) k ≡ pos 0) →
    end_gathered units values front (line_of line) den r ≡ nat_le (common_of units (values_along values (line_of line) den r) []) (2 ^ 80)
end_held units are values front line den r a is long off =
    let n : ℕ = length units.members in
    let new : List Value = values_along values (line_of line) den r in
    ap is_some
    (gathered_same units (λ k. moved_value (value values k) den r (entry_of (line_of line) k)) (value new) (Some 1) (front_units front)
    (λ j l. (let b : j < front.number = omega (arith, l, long, length-take front.number front.units) in
    sym (along_at values (line_of line) den r (get_or (front_units front) j 0) (rw (get_or-take front.number front.units j 0 b) (is.inside j b)))))
    ∙ gathered_all units are values new front
    (record { count = length_along values (line_of line) den r ∙ a.are.count; each = subst (λ (x : Reach). (k : ℕ) → IsValue (value (values_along values (line_of line) den x) k)) (sym a.is_reach) (after_moved n values a.are den a.some a.narrow (line_of line) a.is_line a.divides).are.each }) is (length_along values (line_of line) den r)
    (subst (λ (x : Reach). (k : ℕ) → is_fractional (values_along values (line_of line) den x) k ≡ true → is_fractional values k ≡ true) (sym a.is_reach) (after_fractional n values a.are den a.some a.narrow (line_of line) a.is_line a.divides))
    (λ k l. ap (λ (v : Value). v.touched) (along_still values (line_of line) den r k (off k l)) ∙ is.fresh k l))
    ∙ ap (λ ds. is_some (held (common_multiple ds))) (sym (append-nil (denominators units new (touched_units new)))) ∙ held_there (common_of units new [])
