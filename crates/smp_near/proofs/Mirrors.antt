-- An order of the points, and the place of each of them in it.
use Rattle.std.proofs.{Common.{◌≡◌, ◌≢◌, ℕ, ◌+◌, ◌<◌, List, length, get_or, set, ◌∙◌, sym, refl, inl, inr, arith}, Math.Dec.{eqb}}
use Rattle.std.specs.{List.{IsDistinct, range_with_len}, List.Sorted.{IsPermutation}}
use Rattle.std.proofs.lemmas.Bool.{both_ways, cases_eq, cases_lt, cases_order, eq-eqb, ne_eqb}
use Rattle.std.proofs.{lemmas.List.{get_or-set_same, get_or-set_other}, lemmas.List.FromFn.{length-range_with_len, get_or-range_with_len}}
use Rattle.std.proofs.lemmas.Map.Keys.{apart_from_distinct, IsDistinct-from_apart, IsDistinct-IsPermutation}
use Rattle.smp_places.proofs.Orders.{order_below, order_long, order_reaches}
use Rattle.smp_near.specs.Kept.Trees.{IsMirrored}

-- no two places have one number

flips : (x y : ℕ) → eqb x y ≡ eqb y x
flips x y = elim (cases_eq x y) [ inl e ↦ rw e refl | inr apart ↦ ne_eqb x y apart ∙ sym (ne_eqb y x (λ e. apart (sym e))) ]

distinct_range : (n : ℕ) → IsDistinct eqb (range_with_len 0 n)
distinct_range n =
    IsDistinct-from_apart eqb (range_with_len 0 n) (λ i j d less within.
    (let long : length (range_with_len 0 n) ≡ n = length-range_with_len 0 n in
    let at_i : get_or (range_with_len 0 n) i d ≡ 0 + i = get_or-range_with_len 0 n i d (omega arith) in
    let at_j : get_or (range_with_len 0 n) j d ≡ 0 + j = get_or-range_with_len 0 n j d (omega arith) in
    ne_eqb (get_or (range_with_len 0 n) i d) (get_or (range_with_len 0 n) j d) (λ e. omega arith)))

module _ (n : ℕ) (order : List ℕ) (is : IsPermutation (range_with_len 0 n) order) where
  differ : (i j : ℕ) → i < j → j < length order → get_or order i 0 ≡ get_or order j 0 → ⊥
  differ i j less within same =
      both_ways (eqb (get_or order i 0) (get_or order j 0))
      (apart_from_distinct eqb order i j 0 (IsDistinct-IsPermutation eqb flips (range_with_len 0 n) order is (distinct_range n)) less within) (eq-eqb (get_or order i 0) (get_or order j 0) same)

  pub order_distinct : (i j : ℕ) → i < length order → j < length order → get_or order i 0 ≡ get_or order j 0 → i ≡ j
  order_distinct i j in_i in_j same =
      elim (cases_order i j) [
        | inl e ↦ e
        | inr apart ↦ elim apart [ inl less ↦ absurd (differ i j less in_j same) | inr more ↦ absurd (differ j i more in_i (sym same)) ]
      ]

  place_found : (places : List ℕ) → length places ≡ length order → ((k : ℕ) → k < length order → get_or places (get_or order k 0) 0 ≡ k) → (unit : ℕ) → (place : ℕ) × (place < length order) × (get_or order place 0 ≡ unit) → (get_or places unit 0 < length places) × (get_or order (get_or places unit 0) 0 ≡ unit)
  place_found places long each unit found =
      let at : get_or order found.0 0 ≡ unit = found.2 in
      let place : get_or places unit 0 ≡ found.0 = rw at at (each found.0 found.1) in
      (omega (arith, found.1), rw place at)

  -- the places that are written one after the other
  pub mirrored : (places : List ℕ) → length places ≡ length order → ((k : ℕ) → k < length order → get_or places (get_or order k 0) 0 ≡ k) → IsMirrored order places
  mirrored places long each = record {
    same = sym long;
    unit_at = λ place here. (let below = order_below n order is place (omega arith) in let count = order_long n order is in omega arith, each place (omega arith));
    place_of = λ unit here. place_found places long each unit (order_reaches n order is unit (let count = order_long n order is in omega arith));
  }

  -- one more place is written
  pub mirrored_more : (places : List ℕ) (place : ℕ) → place < length order → length places ≡ length order → ((k : ℕ) → k < place → get_or places (get_or order k 0) 0 ≡ k) → (k : ℕ) → k < place + 1 → get_or (set places (get_or order place 0) place) (get_or order k 0) 0 ≡ k
  mirrored_more places place here long each k before =
      elim (cases_lt k place) [
        | inl earlier ↦
            (let other : get_or order k 0 ≢ get_or order place 0 = λ e. (let same = order_distinct k place (omega arith) here e in omega arith) in
            get_or-set_other places (get_or order place 0) (get_or order k 0) place 0 other ∙ each k earlier)
        | inr last ↦
            (let is_last : k ≡ place = omega arith in
            let within : get_or order place 0 < length places = (let below = order_below n order is place here in let count = order_long n order is in omega arith) in
            rw is_last (get_or-set_same places (get_or order place 0) place 0 within))
      ]
