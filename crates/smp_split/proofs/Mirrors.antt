-- An exchange in the two lists that the code keeps of an order.
use Rattle.std.proofs.Common.{◌≡◌, ◌≢◌, ℕ, ◌+◌, ◌-◌, ◌<◌, ◌≤◌, List, length, map, get_or, set, arith, refl, sym, ap, ◌∙◌, inl, inr, length-set}
use Rattle.std.specs.List.{swap, range_with_len}
use Rattle.std.proofs.{lemmas.Bool.{cases_eq}, lemmas.Grind.{same_number_lists}, lemmas.List.Edits.{length-swap}}
use Rattle.std.proofs.lemmas.List.{get_or-set_same, get_or-set_other, get_or-map, length-map}
use Rattle.std.proofs.lemmas.List.FromFn.{length-range_with_len, get_or-range_with_len}
use Rattle.smp_split.specs.Orders.{exchange, IsMirrored}
use Rattle.smp_split.proofs.Orders.{exchange_first, exchange_second, exchange_other, exchange_twice, exchange_in, get_or-swap, get_or-swap_exchange}

-- in the frame's order each unit stands at its own place
pub mirrored_frame : (places units : List ℕ) (count left : ℕ) → places ≡ range_with_len 0 count → units ≡ range_with_len 0 count → left ≤ count - 1 → IsMirrored places units left
mirrored_frame places units count left places_are units_are fewer =
    let all : length (range_with_len 0 count) ≡ count = length-range_with_len 0 count in
    let at : (k : ℕ) → k < length (range_with_len 0 count) → get_or (range_with_len 0 count) k 0 ≡ k =
    λ k h. (let here : k < count = omega arith in let none : 0 + k ≡ k = omega arith in get_or-range_with_len 0 count k 0 here ∙ none) in
    rw (places_are, units_are) (record {
      same = refl;
      unit_at = λ k h. (rw (at k h) h, rw (at k h) (at k h));
      place_of = λ k h. (rw (at k h) h, rw (at k h) (at k h));
      fewer = omega arith;
    })

module _ (places units : List ℕ) (left i j u w : ℕ) (is : IsMirrored places units left) (i_in : i < length places) (j_in : j < length places) (u_is : u ≡ get_or units i 0) (w_is : w ≡ get_or units j 0) where
  moved_at : (k : ℕ) → k < length places → get_or (set (set places u j) w i) k 0 ≡ exchange i j (get_or places k 0)
  moved_at k h =
      let w_in : w < length (set places u j) = rw (length-set, w_is) ((is.place_of j j_in).0) in
      let u_in : u < length places = rw u_is ((is.place_of i i_in).0) in
      elim (cases_eq k w) [
        | inl e ↦ rw (e, get_or-set_same (set places u j) w i 0 w_in, w_is, (is.place_of j j_in).1) (sym (exchange_second i j))
        | inr nw ↦ get_or-set_other (set places u j) w k i 0 nw ∙ elim (cases_eq k u) [
          | inl e ↦ rw (e, get_or-set_same places u j 0 u_in, u_is, (is.place_of i i_in).1) (sym (exchange_first i j))
          | inr nu ↦
              (let not_i : get_or places k 0 ≢ i = λ e. nu (sym ((is.unit_at k h).1) ∙ ap (λ p. get_or units p 0) e ∙ sym u_is) in
              let not_j : get_or places k 0 ≢ j = λ e. nw (sym ((is.unit_at k h).1) ∙ ap (λ p. get_or units p 0) e ∙ sym w_is) in
              get_or-set_other places u k j 0 nu ∙ sym (exchange_other i j (get_or places k 0) not_i not_j))
        ]
      ]

  pub exchanged_places : set (set places u j) w i ≡ map (exchange i j) places
  exchanged_places =
      let count : length (set (set places u j) w i) ≡ length places = simp length-set refl in
      same_number_lists (set (set places u j) w i) (map (exchange i j) places) (count ∙ sym (length-map places (exchange i j)))
      (λ k h. (let here : k < length places = rw count at h in moved_at k here ∙ sym (get_or-map (exchange i j) places k 0 0 here)))

  pub mirrored_after : IsMirrored (set (set places u j) w i) (swap units i j) (left - 1)
  mirrored_after =
      let count : length (set (set places u j) w i) ≡ length places = simp length-set refl in
      let same : length units ≡ length places = is.same in
      let fewer : left ≤ length places - 1 = is.fewer in
      let i_unit : i < length units = omega arith in
      let j_unit : j < length units = omega arith in
      record {
        same = length-swap units i j ∙ same ∙ sym count;
        unit_at = λ k h. (let here : k < length places = rw count at h in
            let there = is.unit_at k here in (
              rw (moved_at k here, count) (exchange_in i j (get_or places k 0) (length places) i_in j_in there.0),
              rw (moved_at k here) (get_or-swap_exchange units i j (get_or places k 0) 0 i_unit j_unit ∙ there.1),
            ));
        place_of = λ k h. (let here : k < length places = rw count at h in
            let to : exchange i j k < length places = exchange_in i j k (length places) i_in j_in here in
            let there = is.place_of (exchange i j k) to in
            let unit : get_or (swap units i j) k 0 ≡ get_or units (exchange i j k) 0 = get_or-swap units i j k 0 i_unit j_unit in
            (rw (unit, count) there.0, rw (unit, moved_at (get_or units (exchange i j k) 0) there.0, there.1) (exchange_twice i j k)));
        fewer = rw count (omega arith);
      }
