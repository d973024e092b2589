-- The units that moves have changed: their columns stay independent, so where the numbers are small the denominator at an end of a move is too.
use Rattle.std.proofs.Common.{◌≡◌, ◌≢◌, ℕ, suc, ◌*◌, ◌<◌, ◌≤◌, true, ◌⊎◌, List, ◌++◌, ℤ, pos, neg_ℤ, ◌*ℤ◌, take, length, get_or, arith, sym, ap, ◌∙◌, subst, inl, inr, mul-le-mul}
use Rattle.std.specs.List.{AllPairs, filter}
use Rattle.std.proofs.{lemmas.Bool.{cases_lt}, lemmas.Int.{ints}, lemmas.List.Elements.{filter_passes}, lemmas.List.Kept.{AllPairs-filter}}
use Rattle.smp_frac.specs.Limits.{most_denominator}
use Rattle.smp_frac.proofs.{Arithmetic.{cancel}, Integers.{diff, by_diff, diffs, diff-same}}
use Rattle.smp_kernel.specs.{Vectors.{entry}, RowReduction.{cut, AreIndependent}, Minors.{minor_limit}, Searches.{found}}
use Rattle.smp_kernel.proofs.{Ring.{positive_some, zero_or}, TableSizes.{limit_upto}}
use Rattle.smp_prob.specs.Shares.{Shares}
use Rattle.smp_values.specs.Values.{fractional_units, is_fractional}
use Rattle.smp_moves.specs.{Ends.{end_of, extent}, Kept.Ends.{IsOver}, Moves.{IsGreatest, IsLine, IsMoved, IsOrder, Line, entry_of, turned}}
use Rattle.smp_moves.proofs.{Entries.{entry_turned, frame_order, turned_line}, LineEnds.{greatest, moved}, Fixed.{one_greatest}}
use Rattle.smp_moves.proofs.Moved.{end_within, keeps_fractional, keeps_still}
use Rattle.smp_flight.specs.{Kept.Windows.{is_in}, Laws.Entries.{entry_sized}, Moves.{setting_of}}
use Rattle.smp_flight.specs.{Laws.Nexts.{direction_line, flight_over}, Narrow.{IsNarrow, IsWideByDenominator}, Laws.OneMove.{one_end}}
use Rattle.smp_moves.specs.{Steps.{Finds, IsDirection}, declared.lines.Ratio.{Ratio}}
use Rattle.smp_flight.specs.{States.{Units, Flight, IsFlight, IsUnits, columns_of, row_count, size}, Laws.Reordered.{independent_as}}
use Rattle.smp_flight.proofs.{Denominators.{HasFree, IsTouched, small_denominator}, Gained.{AddsUp, still_adds}}
use Rattle.smp_flight.specs.Laws.Firsts.{changed_in, fractional_in, in_front, in_order_going, within_front}
use Rattle.smp_flight.proofs.Free.{all_free, factor_some, front_free, in_filter, parts_add_up, place, its_relation}
use Rattle.smp_flight.specs.Laws.MoveTotals.{circuit_count}

-- ---- the line of a circuit, or its opposite
pub record IsAlong (units : Units) (order : List ℕ) (w : List ℤ) (line : Line) : Type 0 where
  pub prefix : line.units ≡ take (length w) order
  pub factor : ℤ
  pub some : factor ≢ pos 0
  pub product : (j : ℕ) → j < length line.units → factor *ℤ entry line.entries j ≡ pos (size units (get_or line.units j 0)) *ℤ entry w j

both_turned : (g e : ℤ) → neg_ℤ g *ℤ neg_ℤ e ≡ g *ℤ e
both_turned g e =
    by_diff (λ x. neg_ℤ x *ℤ neg_ℤ e ≡ x *ℤ e)
    (λ p q. by_diff (λ y. neg_ℤ (diff p q) *ℤ neg_ℤ y ≡ diff p q *ℤ y) (λ u v. simp diffs (diff-same _ _ _ _ (omega arith))) e) g

turned_some : (g : ℤ) → g ≢ pos 0 → neg_ℤ g ≢ pos 0
turned_some g some e = some (omega (arith, ints))

module _ (units : Units) (order : List ℕ) (w : List ℤ) (line : Line) (d : IsDirection (setting_of units).share order w line) (count : length line.units ≡ length w) where
  pub along_it : IsAlong units order w line
  along_it = record {
    prefix = d.prefix;
    factor = d.entries.divisor;
    some = positive_some d.entries.divisor d.entries.positive;
    product = λ j l. d.entries.product j ∙ entry_sized units line.units w j l (omega (arith, l, count));
  }

  pub against_it : IsAlong units order w (turned line)
  against_it = record {
    prefix = d.prefix;
    factor = neg_ℤ d.entries.divisor;
    some = turned_some d.entries.divisor (positive_some d.entries.divisor d.entries.positive);
    product = λ j l. ap (λ x. neg_ℤ d.entries.divisor *ℤ x) (entry_turned line.entries j) ∙ both_turned d.entries.divisor (entry line.entries j)
        ∙ d.entries.product j ∙ entry_sized units line.units w j l (omega (arith, l, count));
  }

-- a value that stays what it was is touched only where it was so before
still_untouched : (a c b d r q : ℕ) → 1 ≤ d → b * d ≡ a * c → a * r ≡ q * d → b * r ≡ q * c
still_untouched a c b d r q p same e =
    let x : b * d * r ≡ a * c * r = ap (λ z. z * r) same in
    let y : a * r * c ≡ q * d * c = ap (λ z. z * c) e in
    cancel (b * r) (q * c) d p (omega (arith, x, y))

module _ (units : Units) (are : IsUnits units) (n : IsNarrow units) where
  -- Units that stand first in the search, the touched fractional ones among them. Their columns are independent in the rows in force, or, after a
  -- dropped row, those of all fractional units are in one row more. And what was gained adds up to 0.
  pub record IsHeld (f : Flight) (held : List ℕ) : Type 0 where
    pub order : IsOrder f.values held
    pub touched : (k : ℕ) → is_fractional f.values k ≡ true → IsTouched units f.values k → is_in held k ≡ true
    pub adds : AddsUp units are n.multiple n.of_denominator n.of_sizes f.values f.rows
    pub free : AreIndependent f.rows (cut f.rows (columns_of units held)) ⊎ AreIndependent (suc f.rows) (cut (suc f.rows) (columns_of units (fractional_units f.values)))

  -- ---- the end of a move
  module _ (f : Flight) (is_flight : IsFlight units f) (order : List ℕ) (ordered : IsOrder f.values order) (held rest : List ℕ) (split : order ≡ held ++ rest) (h : IsHeld f held)
      (w : List ℤ) (finds : Finds (setting_of units) f order (found w)) (line : Line) (a : IsAlong units order w line) (line_ok : IsLine f.values line) where
    abbrev t : Shares
    t = end_of units.requested.den f.values line

    over_it : IsOver units.requested.den f.values
    over_it = flight_over units f is_flight

    -- a search goes through all of them
    beside : AreIndependent f.rows (cut f.rows (columns_of units held)) → (k : ℕ) → is_in held k ≡ true → is_in line.units k ≡ true
    beside ind k e =
        let whole : line.units ≡ take (length w) (held ++ rest) = a.prefix ∙ ap (take (length w)) split in
        elim (cases_lt (length held) (length w)) [
          | inl l ↦ (let long : length held ≤ length w = omega arith in subst (λ (us : List ℕ). is_in us k ≡ true) (sym whole) (in_front (length w) held rest k long e))
          | inr m ↦
              absurd (let has : (x : ℕ) → is_in line.units x ≡ true → is_in held x ≡ true =
              λ x i. within_front (length w) held rest x m (subst (λ (us : List ℕ). is_in us x ≡ true) whole i) in
              let free : AreIndependent f.rows (cut f.rows (columns_of units line.units)) =
              independent_as units f.rows f.values line.units held line_ok.order h.order has ind in
              factor_some units f is_flight order ordered w finds line a.prefix line_ok a.factor a.some a.product
              (free w (its_relation units f is_flight order ordered w finds line a.prefix line_ok a.factor a.some a.product)
              (place units f is_flight order ordered w finds line a.prefix line_ok a.factor a.some a.product)))
        ]

    -- a touched unit was touched before, or the move changes it
    touched_on : (k : ℕ) → is_fractional t k ≡ true → IsTouched units t k → (is_in held k ≡ true) ⊎ (entry_of line k ≢ pos 0)
    touched_on k e tch =
        elim (zero_or (entry_of line k)) [
          | inr ne ↦ inr ne
          | inl z ↦ inl (h.touched k (keeps_fractional units.requested.den f.values over_it line line_ok k e)
              (λ u. tch (still_untouched (get_or f.values.numer k 0) t.den (get_or t.numer k 0) f.values.den units.requested.den (get_or units.requested.numer k 0) is_flight.values.positive
              (keeps_still units.requested.den f.values over_it line line_ok k z) u)))
        ]

    -- the fractional ones of these units and of those of the line, and maybe others
    pub record IsFreeAfter : Type 0 where
      pub list : List ℕ
      pub listed : IsOrder t list
      pub has : (k : ℕ) → is_fractional t k ≡ true → (is_in held k ≡ true) ⊎ (is_in line.units k ≡ true) → is_in list k ≡ true
      pub free : AreIndependent f.rows (cut f.rows (columns_of units list))

    filtered : (us : List ℕ) → AllPairs (λ k l. k ≢ l) us → IsOrder t (filter (is_fractional t) us)
    filtered us apart = record { going = filter_passes (is_fractional t) us; distinct = AllPairs-filter (λ k l. k ≢ l) (is_fractional t) us apart }

    free_after : IsFreeAfter
    free_after =
        elim h.free [
          | inl ind ↦ record {
            list = filter (is_fractional t) line.units;
            listed = filtered line.units line_ok.order.distinct;
            has = λ k e i. in_filter (is_fractional t) line.units k (elim i [ inl x ↦ beside ind k x | inr x ↦ x ]) e;
            free = front_free units f is_flight order ordered w finds line a.prefix line_ok a.factor a.some a.product;
          }
          | inr ind ↦ record {
            list = filter (is_fractional t) (fractional_units f.values);
            listed = filtered (fractional_units f.values) (frame_order f.values).distinct;
            has = λ k e i. in_filter (is_fractional t) (fractional_units f.values) k (fractional_in f.values k (keeps_fractional units.requested.den f.values over_it line line_ok k e)) e;
            free = all_free units f is_flight order ordered w finds line a.prefix line_ok a.factor a.some a.product ind;
          }
        ]

    has_free : HasFree units f.rows t
    has_free = record {
      list = free_after.list;
      order = free_after.listed;
      touched = λ k e tch. free_after.has k e (elim (touched_on k e tch) [ inl x ↦ inl x | inr ne ↦ inr (changed_in line k ne) ]);
      free = free_after.free;
    }

    there : IsMoved units.requested.den f.values line (extent f.values line) t
    there = moved units.requested.den f.values over_it line line_ok

    count_there : length t.numer ≡ length units.sizes
    count_there = there.same_length ∙ is_flight.values.count

    adds_there : AddsUp units are n.multiple n.of_denominator n.of_sizes t f.rows
    adds_there =
        still_adds units are n.multiple n.of_denominator n.of_sizes f.values t line (extent f.values line) is_flight.values.positive
        (greatest units.requested.den f.values over_it line line_ok).some there f.rows h.adds
        (parts_add_up units f is_flight order ordered w finds line a.prefix line_ok a.factor a.some a.product are n.multiple n.of_denominator n.of_sizes)

    -- so its denominator is within the gate
    pub small_end : t.den ≤ most_denominator
    small_end =
        let s : t.den ≤ n.multiple * minor_limit n.bound f.rows =
        small_denominator units are n.multiple n.of_denominator n.of_sizes f.rows t count_there there.positive (end_within units.requested.den f.values over_it line line_ok) has_free adds_there
        n.bound n.some_bound n.from there.times there.multiple there.least n.some in
        let same : n.multiple ≤ n.multiple = omega arith in
        let more : n.multiple * minor_limit n.bound f.rows ≤ n.multiple * minor_limit n.bound (row_count units) =
        mul-le-mul same (limit_upto n.bound n.some_bound f.rows (row_count units) is_flight.rows_in) in
        omega (arith, s, more, n.denominators)

    -- and such units are held there
    pub next_held : (next : List ℕ) → IsOrder t next → ((k : ℕ) → is_in next k ≡ true → (is_in held k ≡ true) ⊎ (is_in line.units k ≡ true)) →
        ((k : ℕ) → is_fractional t k ≡ true → (is_in held k ≡ true) ⊎ (entry_of line k ≢ pos 0) → is_in next k ≡ true) → IsHeld (record { values = t; rows = f.rows; fixed = f.fixed }) next
    next_held next ok alone all = record {
      order = ok;
      touched = λ k e tch. all k e (touched_on k e tch);
      adds = adds_there;
      free = inl (independent_as units f.rows t next free_after.list ok free_after.listed (λ k e. free_after.has k (in_order_going t next ok k e) (alone k e)) free_after.free);
    }

  -- ---- no step is wide
  -- the values so far along a line as it can be followed are those at its end
  end_fixed : (s : Shares) → IsOver units.requested.den s → (line : Line) → IsLine s line → (r : Ratio) (t : Shares) → IsGreatest s line r → IsMoved units.requested.den s line r t → t ≡ end_of units.requested.den s line
  end_fixed s over line ok r t greatest_is at =
      let same : r ≡ extent s line = one_greatest s line r (extent s line) greatest_is (greatest units.requested.den s over line ok) in
      one_end units.requested.den s line (extent s line) t (end_of units.requested.den s line) (subst (λ (x : Ratio). IsMoved units.requested.den s line x t) same at) (moved units.requested.den s over line ok)

  pub not_by_denominator : (f : Flight) → IsFlight units f → (order : List ℕ) → IsOrder f.values order → (held rest : List ℕ) → order ≡ held ++ rest → IsHeld f held → IsWideByDenominator units f order → ⊥
  not_by_denominator f is_flight order ordered held rest split h b =
      let over_it = flight_over units f is_flight in
      let ok : IsLine f.values b.m.direction = direction_line units f.values order ordered b.circuit b.m.direction b.is.direction in
      let back : IsLine f.values (turned b.m.direction) = turned_line f.values b.m.direction ok in
      let count : length b.m.direction.units ≡ length b.circuit = circuit_count units f order b.circuit b.finds b.m.direction.units b.is.direction.prefix in
      let plus : b.plus_end ≡ end_of units.requested.den f.values b.m.direction =
      end_fixed f.values over_it b.m.direction ok b.m.up b.plus_end b.is.up b.is.plus_moved in
      let minus : b.minus_end ≡ end_of units.requested.den f.values (turned b.m.direction) =
      end_fixed f.values over_it (turned b.m.direction) back b.m.down b.minus_end b.is.down b.is.minus_moved in
      let P : Shares → Type 0 = λ x. x.den ≤ most_denominator in
      b.wide
      (subst P (sym plus) (small_end f is_flight order ordered held rest split h b.circuit b.finds b.m.direction (along_it units order b.circuit b.m.direction b.is.direction count) ok))
      (subst P (sym minus) (small_end f is_flight order ordered held rest split h b.circuit b.finds (turned b.m.direction) (against_it units order b.circuit b.m.direction b.is.direction count) back))
