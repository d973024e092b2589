-- The first fractional units, and those from a place on.
use Rattle.std.proofs.Common.{◌≡◌, ℕ, suc, ◌+◌, ◌-◌, ◌<◌, ◌≤◌, true, List, [], ◌∷◌, ◌++◌, length, get_or, arith, refl, sym, ap, ap₂, ◌∙◌, subst, inl, inr, length-append, length-take, get_or-take}
use Rattle.std.specs.List.{AllPairs, filter, range_with_len}
use Rattle.std.proofs.{lemmas.List.Kept.{AllPairs-filter}, lemmas.Bool.{cases_lt}, lemmas.List.{get_or_append_left, get_or-append-add}}
use Rattle.std.proofs.{lemmas.List.Elements.{filter-append}, lemmas.List.FromFn.{length-range_with_len, get_or-range_with_len}}
use Rattle.smp_values.specs.Values.{fractional}
use Rattle.smp_moves.proofs.Filtered.{filter_all, filter_twice}
use Rattle.smp_stratcube.specs.{declared.fronts.Front.{Front}, declared.values.Value.{Value}}
use Rattle.smp_stratcube.specs.Values.{fractional_count, fractional_units, is_fractional, value}
use Rattle.smp_stratcube.specs.Kept.Fronts.{IsAhead, IsFilled, IsFront, IsStanding, front_units, units_on}
use Rattle.smp_stratcube.specs.Laws.Units.{fractional_in, order_going, order_count}

-- ---- the units from a place on

pub units_here : (place count : ℕ) → place < count → units_on place count ≡ place ∷ units_on (place + 1) count
units_here place count l = (let e : count - place ≡ suc (count - (place + 1)) = omega arith in rw e refl)

pub units_none : (place count : ℕ) → count ≤ place → units_on place count ≡ []
units_none place count l = (let e : count - place ≡ 0 = omega arith in rw e refl)

pub unit_on : (place count j : ℕ) → j < length (units_on place count) → (get_or (units_on place count) j 0 ≡ place + j) × (place + j < count)
unit_on place count j l = (
  get_or-range_with_len place (count - place) j 0 (omega (arith, l, length-range_with_len place (count - place))),
  omega (arith, l, length-range_with_len place (count - place)),
)

-- the fractional units rise
pub order_rises : (values : List Value) → AllPairs (λ k l. k < l) (fractional_units values)
order_rises values = AllPairs-filter (λ k l. k < l) (is_fractional values) (range_with_len 0 (length values)) (numbers_rise (length values))
  where
    numbers_rise : (n : ℕ) → AllPairs (λ k l. k < l) (range_with_len 0 n)
    numbers_rise n i j d l m =
        let b : j < n = omega (arith, m, length-range_with_len 0 n) in
        rw (get_or-range_with_len 0 n i d (omega (arith, l, b)), get_or-range_with_len 0 n j d b) (omega (arith, l))

-- ---- a front

-- the fractional units, in the array and after it
front_at : (values : List Value) (front : Front) → front.number ≤ length front.units → front_units front ++ units_on front.place (length values) ≡ fractional_units values → (j : ℕ) → j < front.number →
    (get_or front.units j 0 ≡ get_or (fractional_units values) j 0) × (j < length (fractional_units values))
front_at values front long all j l = (
  sym (get_or-take front.number front.units j 0 l) ∙ sym (get_or_append_left (front_units front) (units_on front.place (length values)) 0 j (omega (arith, l, long, length-take front.number front.units)))
      ∙ ap (λ us. get_or us j 0) all,
  subst (λ us. j < length us) all (omega (arith, l, long, length-take front.number front.units, length-append (front_units front) (units_on front.place (length values)))),
)

module _ (values : List Value) (front : Front) (is : IsFront values front) (long : front.number ≤ length front.units) where
  pub in_front : (j : ℕ) → j < front.number → (get_or front.units j 0 ≡ get_or (fractional_units values) j 0) × (j < length (fractional_units values))
  in_front j l = front_at values front long is.all j l

  pub front_going : (j : ℕ) → j < front.number → is_fractional values (get_or front.units j 0) ≡ true
  front_going j l = (let e = in_front j l in subst (λ (k : ℕ). is_fractional values k ≡ true) (sym e.0) (order_going values j e.1))

  -- a unit of the front stands before the place
  pub front_before : (j : ℕ) → j < front.number → get_or front.units j 0 < front.place
  front_before j b =
      elim (cases_lt (get_or front.units j 0) front.place) [
        | inl l ↦ l
        | inr past ↦ absurd (let n : ℕ = length (front_units front) in
            let count_front : n ≡ front.number = omega (arith, long, length-take front.number front.units) in
            let i = in_front j b in
            let inside = is.inside j b in
            let here : length (units_on front.place (length values)) ≡ length values - front.place = length-range_with_len front.place (length values - front.place) in
            let total : length (fractional_units values) ≡ n + length (units_on front.place (length values)) = sym (ap length is.all) ∙ length-append (front_units front) (units_on front.place (length values)) in
            let at : get_or (fractional_units values) (n + 0) 0 ≡ get_or (units_on front.place (length values)) 0 0 = ap (λ us. get_or us (n + 0) 0) (sym is.all) ∙ get_or-append-add (front_units front) (units_on front.place (length values)) 0 0 in
            let first = unit_on front.place (length values) 0 (omega (arith, here, past, inside)) in
            let less = order_rises values j (n + 0) 0 (omega (arith, b, count_front)) (omega (arith, total, here, past, inside)) in
            omega (arith, less, i.0, at, first.0, past))
      ]

  pub front_count : front.number + (length values - front.place) ≡ fractional_count values
  front_count =
      let whole : length (front_units front ++ units_on front.place (length values)) ≡ length (fractional_units values) = ap length is.all in
      omega (arith, whole, long, order_count values, length-append (front_units front) (units_on front.place (length values)), length-take front.number front.units, length-range_with_len front.place (length values - front.place))

-- a front stays ahead where no other unit is fractional than before, and those from the place on are as they were
pub stays_ahead : (old new : List Value) (front : Front) → IsFront old front → front.number ≤ length front.units → length new ≡ length old → ((k : ℕ) → is_fractional new k ≡ true → is_fractional old k ≡ true) →
    ((k : ℕ) → front.place ≤ k → value new k ≡ value old k) → IsAhead new front
stays_ahead old new front is long count fewer same =
    let opened : (i : ℕ) → i < length (units_on front.place (length old)) → is_fractional new (get_or (units_on front.place (length old)) i 0) ≡ true =
    λ i l. still_open i l in
    record {
      short = is.short;
      within = omega (arith, is.within, count);
      inside = λ j l. (let h = is.inside j l in omega (arith, h, count));
      all = ap (λ n. filter (is_fractional new) (front_units front) ++ units_on front.place n) count
          ∙ ap (λ us. filter (is_fractional new) (front_units front) ++ us) (sym (filter_all (is_fractional new) (units_on front.place (length old)) opened))
          ∙ sym (filter-append (is_fractional new) (front_units front) (units_on front.place (length old)))
          ∙ ap (filter (is_fractional new)) is.all ∙ filter_twice (is_fractional old) (is_fractional new) fewer (range_with_len 0 (length old))
          ∙ ap (λ n. filter (is_fractional new) (range_with_len 0 n)) (sym count);
      fresh = λ k l. ap (λ (v : Value). v.touched) (same k l) ∙ is.fresh k l;
    }
  where
    behind : (i : ℕ) → i < length (units_on front.place (length old)) → get_or (units_on front.place (length old)) i 0 ≡ get_or (fractional_units old) (length (front_units front) + i) 0
    behind i l = sym (get_or-append-add (front_units front) (units_on front.place (length old)) i 0) ∙ ap (λ us. get_or us (length (front_units front) + i) 0) is.all

    old_open : (i : ℕ) → i < length (units_on front.place (length old)) → is_fractional old (get_or (units_on front.place (length old)) i 0) ≡ true
    old_open i l =
        subst (λ (k : ℕ). is_fractional old k ≡ true) (sym (behind i l))
        (order_going old (length (front_units front) + i)
        (subst (λ us. length (front_units front) + i < length us) is.all (omega (arith, l, length-append (front_units front) (units_on front.place (length old))))))

    still_open : (i : ℕ) → i < length (units_on front.place (length old)) → is_fractional new (get_or (units_on front.place (length old)) i 0) ≡ true
    still_open i l =
        let at = unit_on front.place (length old) i l in
        subst (λ (v : Value). fractional v.at.den v.at.num ≡ true) (sym (same (get_or (units_on front.place (length old)) i 0) (omega (arith, at.0)))) (old_open i l)

-- the front that is left, filled up
pub filled_front : (values : List Value) (front still full : Front) → IsAhead values front → IsStanding values front still → IsFilled (length values) still full → IsFront values full
filled_front values front still full ahead stand fill =
    let all : front_units full ++ units_on full.place (length values) ≡ fractional_units values = fill.all ∙ ap₂ (λ us k. us ++ units_on k (length values)) stand.is stand.place ∙ ahead.all in
    record {
      short = fill.short;
      within = fill.within;
      inside = λ j l. (let e = front_at values full fill.long all j l in rw e.0 (fractional_in values (get_or (fractional_units values) j 0) (order_going values j e.1)));
      all = all;
      enough = fill.enough;
      fresh = λ k l. ahead.fresh k (omega (arith, l, fill.later, stand.place));
    }
