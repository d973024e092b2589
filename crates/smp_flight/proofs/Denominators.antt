-- Where the columns of the touched fractional units are independent, the denominator of the values is small.
use Rattle.std.proofs.Common.{◌≡◌, ◌≢◌, ℕ, ◌*◌, ◌/◌, ◌<◌, ◌≤◌, true, false, cond, List, [], ◌∷◌, ◌++◌, ℤ, pos, neg_ℤ, ◌+ℤ◌, ◌*ℤ◌, map, take, length, length-append, get_or, arith, sym, ap, ap₂, ◌∙◌, subst, inl, inr, mul-pos, mul-le-mul}
use Rattle.std.specs.Int.RustNames.{unsigned_abs}
use Rattle.std.proofs.{lemmas.Bool.{cases_Bool, cases_eq, cases_lt, true≢false}, lemmas.Int.{ints}, lemmas.Nat.Gcd.{dvd_trans}}
use Rattle.std.proofs.{lemmas.List.{get_or-map, get_or_past, length-map}, Math.Nat.{dvd-zero, dvd-mul_right, dvd-mul_left, mul-div_cancel'}}
use Prim.Native.Nat.{◌∣◌}
use Rattle.smp_frac.proofs.{Arithmetic.{cancel}, Integers.{diff, diffs, diff-neg, diff-same, pos-diff}}
use Rattle.smp_frac.specs.Laws.Coprime.{part_positive}
use Rattle.smp_kernel.specs.{Vectors.{entry, combination, dot, unit}, RowReduction.{cut, AreIndependent, InForce, IsRelationOn}}
use Rattle.smp_kernel.specs.Minors.{HasDenominator, IsFrom, minor_limit}
use Rattle.smp_kernel.proofs.{CircuitSizes.{denominator_of}, Columns.{combination_push}, Dot.{unit_dot}}
use Rattle.smp_prob.specs.Shares.{Shares}
use Rattle.smp_values.specs.Values.{is_fractional}
use Rattle.smp_values.proofs.Fractional.{not_fractional}
use Rattle.smp_moves.specs.{Kept.Ends.{MakesWhole}, Moves.{IsOrder, entry_at}}
use Rattle.smp_moves.proofs.Entries.{entry_at_none, entry_at_place, order_within, numbers_apart}
use Rattle.smp_flight.specs.{Kept.Windows.{is_in}, States.{Units, IsUnits, column, columns_of, size}, Laws.Firsts.{contains_in, in_range}}
use Rattle.smp_flight.proofs.Gained.{AddsUp, all_units, dot_mix, fair, fair_is, gained, map_same, part, part_is, unit_inside}
use Rattle.smp_flight.specs.{Laws.MoveTotals.{number_in}, Laws.Reordered.{same_dot, sum_at}, Laws.Windowed.{in_or}}
use Rattle.smp_flight.proofs.Narrow.{order_from}

-- the value of a unit isn't the requested one
abbrev pub IsTouched : Units → Shares → ℕ → Type 0
IsTouched units t k = get_or t.numer k 0 * units.requested.den ≢ get_or units.requested.numer k 0 * t.den

-- fractional units, those that moves have changed among them, whose columns are independent in so many rows
pub record HasFree (units : Units) (rows : ℕ) (t : Shares) : Type 0 where
  pub list : List ℕ
  pub order : IsOrder t list
  pub touched : (k : ℕ) → is_fractional t k ≡ true → IsTouched units t k → is_in list k ≡ true
  pub free : AreIndependent rows (cut rows (columns_of units list))

abs_neg : (d : ℕ) → unsigned_abs (neg_ℤ (pos d)) ≡ d
abs_neg d = omega (arith, ints)

neg_is : (d : ℕ) → neg_ℤ (pos d) ≡ diff 0 d
neg_is d = ap neg_ℤ (pos-diff d) ∙ diff-neg d 0

inner_at : (m d f : ℕ) → pos m +ℤ neg_ℤ (pos d) *ℤ pos f ≡ pos m +ℤ neg_ℤ (pos (d * f))
inner_at m d f = subst (λ (z : ℤ). pos m +ℤ z *ℤ pos f ≡ pos m +ℤ neg_ℤ (pos (d * f))) (sym (neg_is d)) (simp diffs (diff-same _ _ _ _ (omega arith)))

outer_at : (m d f b : ℕ) → d * b ≡ m → pos 0 +ℤ neg_ℤ (pos d) *ℤ (pos f +ℤ neg_ℤ (pos b)) ≡ pos m +ℤ neg_ℤ (pos (d * f))
outer_at m d f b e =
    subst (λ (z : ℤ). pos 0 +ℤ z *ℤ (pos f +ℤ neg_ℤ (pos b)) ≡ pos m +ℤ neg_ℤ (pos (d * f))) (sym (neg_is d))
    (subst (λ (z : ℤ). pos 0 +ℤ diff 0 d *ℤ (pos f +ℤ z) ≡ pos m +ℤ neg_ℤ (pos (d * f))) (sym (neg_is b)) (simp diffs (diff-same _ _ _ _ (omega (arith, e)))))

module _ (units : Units) (are : IsUnits units) (multiple : ℕ) (of_denominator : units.requested.den ∣ multiple) (of_sizes : (k : ℕ) → k < length units.sizes → size units k ∣ multiple) (q : ℕ) (t : Shares)
    (count : length t.numer ≡ length units.sizes) (some : 1 ≤ t.den) (each : (k : ℕ) → get_or t.numer k 0 ≤ t.den) (has : HasFree units q t) where
  abbrev us : List ℕ
  us = has.list

  abbrev ks : List ℕ
  ks = all_units units

  abbrev start : ℕ
  start = fair units are multiple of_denominator of_sizes

  -- the numerator of a unit times its part
  abbrev share : ℕ → ℕ
  share k = get_or t.numer k 0 * part units are multiple of_denominator of_sizes k

  -- that of an untouched unit
  fair_share : (k : ℕ) → k < length units.sizes → get_or t.numer k 0 * units.requested.den ≡ get_or units.requested.numer k 0 * t.den → share k ≡ t.den * start
  fair_share k l e =
      let p : ℕ = part units are multiple of_denominator of_sizes k in
      let a : size units k * part units are multiple of_denominator of_sizes k ≡ multiple = part_is units are multiple of_denominator of_sizes k l in
      let b : get_or t.numer k 0 * units.requested.den ≡ size units k * are.factor * t.den = e ∙ ap (λ x. x * t.den) (are.proportional k l) in
      let c : get_or t.numer k 0 * units.requested.den * part units are multiple of_denominator of_sizes k ≡ size units k * are.factor * t.den * part units are multiple of_denominator of_sizes k =
      ap (λ x. x * part units are multiple of_denominator of_sizes k) b in
      let d : size units k * part units are multiple of_denominator of_sizes k * (are.factor * t.den) ≡ multiple * (are.factor * t.den) = ap (λ x. x * (are.factor * t.den)) a in
      let f : units.requested.den * start * t.den ≡ multiple * are.factor * t.den = ap (λ x. x * t.den) (fair_is units are multiple of_denominator of_sizes) in
      cancel (share k) (t.den * start) units.requested.den are.requested.positive (omega (arith, c, d, f))

  -- the denominator divides it where the unit isn't one of these
  outside : (k : ℕ) → k < length units.sizes → is_in us k ≡ false → t.den ∣ share k
  outside k l out =
      let P : ℕ → Type 0 = λ x. t.den ∣ x in
      elim (cases_Bool (is_fractional t k)) [
        | inl f ↦ elim (cases_eq (get_or t.numer k 0 * units.requested.den) (get_or units.requested.numer k 0 * t.den)) [
          | inl e ↦ subst P (sym (fair_share k l e)) (dvd-mul_right t.den start)
          | inr ne ↦ absurd (true≢false (sym (has.touched k f ne) ∙ out))
        ]
        | inr f ↦ elim (not_fractional t.den (get_or t.numer k 0) (each k) f) [
          | inl z ↦ subst P (sym (ap (λ x. x * part units are multiple of_denominator of_sizes k) z)) (let e : 0 * part units are multiple of_denominator of_sizes k ≡ 0 = omega arith in subst P (sym e) (dvd-zero t.den))
          | inr w ↦ subst P (sym (ap (λ x. x * part units are multiple of_denominator of_sizes k) w)) (dvd-mul_right t.den (part units are multiple of_denominator of_sizes k))
        ]
      ]

  abbrev weights : List ℤ
  weights = map (λ k. pos (share k)) us

  weights_long : length weights ≡ length us
  weights_long = length-map us (λ k. pos (share k))

  entry_here : (k : ℕ) → is_in us k ≡ true → entry_at us weights k ≡ pos (share k)
  entry_here k e =
      let at = in_or us k e in
      subst (λ (x : ℕ). entry_at us weights x ≡ pos (share x)) at.is
      (entry_at_place us weights at.place at.here weights_long has.order.distinct ∙ get_or-map (λ k. pos (share k)) us at.place 0 (pos 0) at.here)

  -- what each unit adds to the vector that these units solve for
  abbrev outer : ℕ → ℤ
  outer k = cond (is_in us k) (pos start) (pos start +ℤ neg_ℤ (pos (share k / t.den)))

  term_is : (k : ℕ) → k < length units.sizes → entry_at us weights k +ℤ neg_ℤ (pos t.den) *ℤ outer k ≡ gained units are multiple of_denominator of_sizes t k
  term_is k l =
      elim (cases_Bool (is_in us k)) [
        | inl e ↦ rw (e, entry_here k e) (inner_at (share k) t.den start)
        | inr out ↦ rw (out, entry_at_none us weights k (λ c. true≢false (sym (contains_in us k c) ∙ out))) (outer_at (share k) t.den start (share k / t.den) (mul-div_cancel' t.den (outside k l out)))
      ]

  abbrev vector : List ℤ
  vector = combination (map outer ks) (cut q (columns_of units ks))

  us_inside : (j : ℕ) → j < length us → get_or us j 0 < length units.sizes
  us_inside j l = omega (arith, order_within t us has.order j l, count)

  module _ (adds : AddsUp units are multiple of_denominator of_sizes t q) where
    row_zero : (row : ℕ) → row < q → entry (combination (weights ++ neg_ℤ (pos t.den) ∷ []) (cut q (columns_of units us) ++ vector ∷ [])) row ≡ pos 0
    row_zero row l =
        let ys : List ℤ = map (number_in units row) ks in
        let inside : dot (unit row) (combination weights (cut q (columns_of units us))) ≡ dot (map (entry_at us weights) ks) (map (number_in units row) ks) =
        unit_dot (combination weights (cut q (columns_of units us))) row
        ∙ sum_at (length units.sizes) us ks us_inside (unit_inside units) has.order.distinct (numbers_apart (length units.sizes))
        (λ k h. in_range (length units.sizes) k (let at = in_or us k h in omega (arith, us_inside at.place at.here, at.is))) weights weights_long units q weights us row l
        ∙ sym (same_dot (length units.sizes) us ks us_inside (unit_inside units) has.order.distinct (numbers_apart (length units.sizes))
        (λ k h. in_range (length units.sizes) k (let at = in_or us k h in omega (arith, us_inside at.place at.here, at.is))) weights weights_long (number_in units row)) in
        let beside : dot (unit row) vector ≡ dot (map outer ks) (map (number_in units row) ks) =
        unit_dot vector row
        ∙ sum_at (length units.sizes) us ks us_inside (unit_inside units) has.order.distinct (numbers_apart (length units.sizes))
        (λ k h. in_range (length units.sizes) k (let at = in_or us k h in omega (arith, us_inside at.place at.here, at.is))) weights weights_long units q (map outer ks) ks row l in
        sym (unit_dot (combination (weights ++ neg_ℤ (pos t.den) ∷ []) (cut q (columns_of units us) ++ vector ∷ [])) row)
        ∙ combination_push (unit row) weights (cut q (columns_of units us)) vector (neg_ℤ (pos t.den)) (weights_long ∙ sym (length-map (columns_of units us) _ ∙ length-map us _))
        ∙ ap₂ (λ x y. x +ℤ neg_ℤ (pos t.den) *ℤ y) inside beside
        ∙ sym (dot_mix (neg_ℤ (pos t.den)) (entry_at us weights) outer ks (map (number_in units row) ks))
        ∙ ap (λ xs. dot xs (map (number_in units row) ks))
        (map_same (λ k. entry_at us weights k +ℤ neg_ℤ (pos t.den) *ℤ outer k) (gained units are multiple of_denominator of_sizes t) ks
        (λ j m. term_is (get_or ks j 0) (unit_inside units j m)))
        ∙ adds row l

    relation : IsRelationOn (InForce q) (cut q (columns_of units us) ++ vector ∷ []) (weights ++ neg_ℤ (pos t.den) ∷ [])
    relation =
        (omega (arith, length-append weights (neg_ℤ (pos t.den) ∷ []), length-append (cut q (columns_of units us)) (vector ∷ []), weights_long, length-map (columns_of units us) (take q), length-map us (column units)), row_zero)

    module _ (bound : ℕ → ℕ) (some_bound : (row : ℕ) → 1 ≤ bound row) (from : (k : ℕ) → k < length units.sizes → IsFrom bound (column units k)) where
      denominator_is : HasDenominator bound q (cut q (columns_of units us))
      denominator_is = denominator_of bound some_bound q (columns_of units us) (order_from units bound from q us us_inside) has.free

      -- of a unit of the list: its numerator times the number that clears all
      cleared : (k : ℕ) → is_in us k ≡ true → t.den ∣ denominator_is.denominator * share k
      cleared k e =
          let at = in_or us k e in
          let h : unsigned_abs (neg_ℤ (pos t.den)) ∣ denominator_is.denominator * unsigned_abs (entry weights at.place) =
          denominator_is.clears vector weights (neg_ℤ (pos t.den)) relation at.place (omega (arith, at.here, length-map (columns_of units us) (take q), length-map us (column units))) in
          let P : ℕ → Type 0 = λ x. x ∣ denominator_is.denominator * unsigned_abs (entry weights at.place) in
          let Q : ℤ → Type 0 = λ z. t.den ∣ denominator_is.denominator * unsigned_abs z in
          let R : ℕ → Type 0 = λ x. t.den ∣ denominator_is.denominator * share x in
          subst R at.is (subst Q (get_or-map (λ k. pos (share k)) us at.place 0 (pos 0) at.here) (subst P (abs_neg t.den) h))

      all_cleared : (k : ℕ) → k < length units.sizes → t.den ∣ denominator_is.denominator * share k
      all_cleared k l =
          elim (cases_Bool (is_in us k)) [
            | inl e ↦ cleared k e
            | inr out ↦ dvd_trans t.den (outside k l out) (dvd-mul_left (share k) denominator_is.denominator)
          ]

      makes_whole : MakesWhole (multiple * denominator_is.denominator) t
      makes_whole k =
          elim (cases_lt k (length units.sizes)) [
            | inl l ↦
                (let e : size units k * part units are multiple of_denominator of_sizes k * (get_or t.numer k 0 * denominator_is.denominator) ≡ multiple * (get_or t.numer k 0 * denominator_is.denominator) =
                ap (λ x. x * (get_or t.numer k 0 * denominator_is.denominator)) (part_is units are multiple of_denominator of_sizes k l) in
                let same : size units k * (denominator_is.denominator * share k) ≡ get_or t.numer k 0 * (multiple * denominator_is.denominator) = omega (arith, e) in
                let P : ℕ → Type 0 = λ x. t.den ∣ x in
                subst P same (dvd_trans t.den (all_cleared k l) (dvd-mul_left (denominator_is.denominator * share k) (size units k))))
            | inr past ↦
                (let none : get_or t.numer k 0 ≡ 0 = get_or_past t.numer k 0 (omega (arith, past, count)) in
                let z : 0 ≡ get_or t.numer k 0 * (multiple * denominator_is.denominator) = rw none (omega arith) in
                let P : ℕ → Type 0 = λ x. t.den ∣ x in
                subst P z (dvd-zero t.den))
          ]

      -- so the least multiple of the requested denominator that makes all values whole is small
      pub small_denominator : (times : ℕ) → t.den ≡ units.requested.den * times → ((m : ℕ) → 1 ≤ m → MakesWhole (units.requested.den * m) t → times ≤ m) → 1 ≤ multiple →
          t.den ≤ multiple * minor_limit bound q
      small_denominator times is least some_multiple =
          let m : ℕ = multiple / units.requested.den * denominator_is.denominator in
          let e : units.requested.den * (multiple / units.requested.den) ≡ multiple = mul-div_cancel' units.requested.den of_denominator in
          let f : units.requested.den * (multiple / units.requested.den) * denominator_is.denominator ≡ multiple * denominator_is.denominator = ap (λ x. x * denominator_is.denominator) e in
          let same : multiple * denominator_is.denominator ≡ units.requested.den * (multiple / units.requested.den * denominator_is.denominator) = omega (arith, f) in
          let positive : 1 ≤ multiple / units.requested.den * denominator_is.denominator = mul-pos (part_positive multiple units.requested.den some_multiple of_denominator) denominator_is.some in
          let few : times ≤ multiple / units.requested.den * denominator_is.denominator =
          least (multiple / units.requested.den * denominator_is.denominator) positive (let P : ℕ → Type 0 = λ x. MakesWhole x t in subst P same makes_whole) in
          let one : units.requested.den ≤ units.requested.den = omega arith in
          let g : units.requested.den * times ≤ units.requested.den * (multiple / units.requested.den * denominator_is.denominator) = mul-le-mul one few in
          let equal : multiple ≤ multiple = omega arith in
          let h : multiple * denominator_is.denominator ≤ multiple * minor_limit bound q = mul-le-mul equal denominator_is.within in
          omega (arith, is, g, same, h)
