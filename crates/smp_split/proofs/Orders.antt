-- Exchanges of places, and the law of a design whose units stand in an order.
use Rattle.std.proofs.Common.{◌≡◌, ◌≢◌, ℕ, ◌+◌, ◌-◌, ◌^◌, ◌<◌, ◌≤◌, true, false, nat_eq, List, length, map, get_or, set, arith, refl, sym, ap, subst, ◌∙◌, inl, inr, length-set}
use Rattle.std.specs.{List.{range_with_len, swap}, List.Sorted.{IsPermutation}}
use Rattle.std.proofs.{lemmas.Bool.{cases_Bool, cases_eq, eqb-false, eq-eqb, ne_eqb, and_parts}, lemmas.Grind.{same_number_lists}}
use Rattle.std.proofs.{lemmas.List.{get_or-set_same, get_or-set_other, get_or-map, length-map}, lemmas.List.Edits.{swap_is, length-swap}}
use Rattle.std.proofs.lemmas.List.FromFn.{length-range_with_len, get_or-range_with_len}
use Rattle.std.proofs.lemmas.List.Sorted.{IsPermutation-refl, IsPermutation-swap, IsPermutation-map, IsPermutation-trans, IsPermutation-keeps, length_permutation}
use Rattle.smp_frac.specs.Fractions.{Same, whole, times}
use Rattle.smp_split.specs.{Trees.{Tree, IsPart, LawfulSplit, Lawful, weight_sum, picked, weighted}, Lenses.{as_unit, Lens}}
use Rattle.smp_split.specs.Orders.{exchange, Placing, Ordered, IsPlacing, IsInOrder, IsExchange, exchanged_at, exchanged_order, next_place, frame_order, undrawn_order, order_parts, in_order, ordered_tree}
use Rattle.smp_frac.proofs.Arithmetic.{same_refl}
use Rattle.smp_split.specs.Laws.Lenses.{split_through}
use Rattle.smp_split.specs.Laws.Parts.{weighted-same, weight_sum-equal, picked-equal, each_equal, weight_sum-moved, picked-moved}

-- ---- exchanges

pub exchange_first : (i j : ℕ) → exchange i j i ≡ j
exchange_first i j = rw (eq-eqb i i refl) refl

pub exchange_second : (i j : ℕ) → exchange i j j ≡ i
exchange_second i j =
    elim (cases_eq j i) [ inl e ↦ rw (eq-eqb j i e) e | inr n ↦ rw (ne_eqb j i n, eq-eqb j j refl) refl ]

pub exchange_other : (i j place : ℕ) → place ≢ i → place ≢ j → exchange i j place ≡ place
exchange_other i j place ni nj = rw (ne_eqb place i ni, ne_eqb place j nj) refl

pub exchange_twice : (i j place : ℕ) → exchange i j (exchange i j place) ≡ place
exchange_twice i j place =
    elim (cases_eq place i) [
      | inl e ↦ rw (e, exchange_first i j) (exchange_second i j)
      | inr ni ↦ elim (cases_eq place j) [
        | inl e ↦ rw (e, exchange_second i j) (exchange_first i j)
        | inr nj ↦ rw (exchange_other i j place ni nj) (exchange_other i j place ni nj)
      ]
    ]

pub exchange_in : (i j place n : ℕ) → i < n → j < n → place < n → exchange i j place < n
exchange_in i j place n hi hj h =
    elim (cases_eq place i) [
      | inl e ↦ rw (e, exchange_first i j) hj
      | inr ni ↦ elim (cases_eq place j) [
        | inl e ↦ rw (e, exchange_second i j) hi
        | inr nj ↦ rw (exchange_other i j place ni nj) h
      ]
    ]

-- a list with two elements exchanged, at each place
pub get_or-swap : {X : Type 0} (xs : List X) (i j k : ℕ) (d : X) → i < length xs → j < length xs → get_or (swap xs i j) k d ≡ get_or xs (exchange i j k) d
get_or-swap xs i j k d hi hj =
    let second_in : j < length (set xs i (get_or xs j d)) = rw length-set hj in
    sym (ap (λ ys. get_or ys k d) (swap_is xs i j d hi hj)) ∙
    elim (cases_eq k j) [
      | inl e ↦ rw (e, get_or-set_same (set xs i (get_or xs j d)) j (get_or xs i d) d second_in, exchange_second i j) refl
      | inr nj ↦ get_or-set_other (set xs i (get_or xs j d)) j k (get_or xs i d) d nj ∙ elim (cases_eq k i) [
        | inl e ↦ rw (e, get_or-set_same xs i (get_or xs j d) d hi, exchange_first i j) refl
        | inr ni ↦ rw (get_or-set_other xs i k (get_or xs j d) d ni, exchange_other i j k ni nj) refl
      ]
    ]

pub get_or-swap_exchange : {X : Type 0} (xs : List X) (i j k : ℕ) (d : X) → i < length xs → j < length xs → get_or (swap xs i j) (exchange i j k) d ≡ get_or xs k d
get_or-swap_exchange xs i j k d hi hj = get_or-swap xs i j (exchange i j k) d hi hj ∙ ap (λ m. get_or xs m d) (exchange_twice i j k)

pub exchange_permuted : (n : ℕ) (places : List ℕ) (i j : ℕ) → i < n → j < n → IsPermutation (range_with_len 0 n) places → IsPermutation (range_with_len 0 n) (map (exchange i j) places)
exchange_permuted n places i j hi hj is =
    let all : List ℕ = range_with_len 0 n in
    let i_in : i < length (range_with_len 0 n) = omega (arith, length-range_with_len 0 n) in
    let j_in : j < length (range_with_len 0 n) = omega (arith, length-range_with_len 0 n) in
    let at : (k : ℕ) → k < n → get_or (range_with_len 0 n) k 0 ≡ k = λ k h. (let none : 0 + k ≡ k = omega arith in get_or-range_with_len 0 n k 0 h ∙ none) in
    let same : map (exchange i j) (range_with_len 0 n) ≡ swap (range_with_len 0 n) i j =
    same_number_lists (map (exchange i j) (range_with_len 0 n)) (swap (range_with_len 0 n) i j)
    (length-map (range_with_len 0 n) (exchange i j) ∙ sym (length-swap (range_with_len 0 n) i j))
    (λ k h. (let here : k < length (range_with_len 0 n) = rw (length-map (range_with_len 0 n) (exchange i j)) at h in
    let within : k < n = omega (arith, length-range_with_len 0 n) in
    get_or-map (exchange i j) (range_with_len 0 n) k 0 0 here ∙ ap (exchange i j) (at k within)
    ∙ sym (at (exchange i j k) (exchange_in i j k n hi hj within)) ∙ sym (get_or-swap (range_with_len 0 n) i j k 0 i_in j_in))) in
    IsPermutation-trans (range_with_len 0 n) (map (exchange i j) (range_with_len 0 n)) (map (exchange i j) places)
    (IsPermutation-swap (range_with_len 0 n) (map (exchange i j) (range_with_len 0 n)) i j i_in j_in same)
    (IsPermutation-map (exchange i j) (range_with_len 0 n) places is)

-- ---- the places of the units

pub length_places : (units : ℕ) (order : Placing) → IsPlacing units order → length order.places ≡ units
length_places units order is = length_permutation (range_with_len 0 units) order.places is.permuted ∙ length-range_with_len 0 units

AllIn : ℕ → List ℕ → Type 0
AllIn n xs = (k : ℕ) → k < length xs → get_or xs k 0 < n

-- each unit has a place below their number
pub place_in : (units : ℕ) (order : Placing) → IsPlacing units order → (unit : ℕ) → unit < units → get_or order.places unit 0 < units
unfolding AllIn
place_in units order is unit h =
    IsPermutation-keeps (range_with_len 0 units) (AllIn units)
    (λ k l. (let within : k < units = omega (arith, length-range_with_len 0 units) in rw (get_or-range_with_len 0 units k 0 within) (omega arith)))
    (λ xs i j hi hj all k l. (let here : k < length xs = rw (length-swap xs i j) at l in rw (get_or-swap xs i j k 0 hi hj) (all (exchange i j k) (exchange_in i j k (length xs) hi hj here))))
    order.places is.permuted unit (omega (arith, length_places units order is))

-- the places that a step of the order exchanges
pub next_in : (units : ℕ) (order : Placing) → IsPlacing units order → 1 ≤ order.left → next_place order < units
next_in units order is some = let fewer : order.left ≤ units - 1 = is.fewer in omega (arith, length_places units order is)

pub other_in : (units : ℕ) (order : Placing) → IsPlacing units order → 1 ≤ order.left → (v : ℕ) → v < order.left + 1 → next_place order + v < units
other_in units order is some v h = let fewer : order.left ≤ units - 1 = is.fewer in omega (arith, length_places units order is)

-- before the first step each unit stands at its own place
module _ (units : ℕ) (few : units < 2 ^ 64) where
  pub frame_placing : IsPlacing units (frame_order units)
  frame_placing = record { permuted = IsPermutation-refl (range_with_len 0 units); few = few; fewer = omega arith }

  pub undrawn_placing : IsPlacing units (undrawn_order units)
  undrawn_placing = record { permuted = IsPermutation-refl (range_with_len 0 units); few = few; fewer = omega arith }

  pub own_place : (unit : ℕ) → unit < units → get_or (range_with_len 0 units) unit 0 ≡ unit
  own_place unit h = let none : 0 + unit ≡ unit = omega arith in get_or-range_with_len 0 units unit 0 h ∙ none

-- what the next step of a state is
module _ {State : Type 0} (tree : Tree State) (exchanged : ℕ → ℕ → State → State) (s : Ordered State) where
  pub order_bound : nat_eq s.order.left 0 ≡ false → weight_sum ((ordered_tree tree exchanged).parts s) ≡ s.order.left + 1
  order_bound e = rw e (weight_sum-equal (λ v. exchanged_at exchanged s (next_place s.order) (next_place s.order + v)) (s.order.left + 1))

  pub order_picked : (draw : ℕ) → nat_eq s.order.left 0 ≡ false → draw < s.order.left + 1 → picked s ((ordered_tree tree exchanged).parts s) draw ≡ exchanged_at exchanged s (next_place s.order) (next_place s.order + draw)
  order_picked draw e h = rw e (picked-equal (λ v. exchanged_at exchanged s (next_place s.order) (next_place s.order + v)) s (s.order.left + 1) draw h)

  pub inner_bound : nat_eq s.order.left 0 ≡ true → weight_sum ((ordered_tree tree exchanged).parts s) ≡ weight_sum (tree.parts s.state)
  inner_bound e = rw e (weight_sum-moved (in_order s.order) (tree.parts s.state))

  pub inner_picked : (draw : ℕ) → nat_eq s.order.left 0 ≡ true → picked s ((ordered_tree tree exchanged).parts s) draw ≡ in_order s.order (picked s.state (tree.parts s.state) draw)
  inner_picked draw e = rw e (picked-moved (in_order s.order) s.state (tree.parts s.state) draw)

  -- the two places that a step of the order exchanges
  module _ (left : nat_eq s.order.left 0 ≡ false) (draw : ℕ) (within : draw < weight_sum ((ordered_tree tree exchanged).parts s)) where
    order_goes : 1 ≤ s.order.left
    order_goes = let some : s.order.left ≢ 0 = eqb-false s.order.left 0 left in omega arith

    pub order_within : draw < s.order.left + 1
    order_within = rw (order_bound left) at within

    pub places_within : IsPlacing tree.units s.order → (next_place s.order < tree.units) × (next_place s.order + draw < tree.units)
    places_within is = (next_in tree.units s.order is order_goes, other_in tree.units s.order is order_goes draw order_within)

    -- the same of two places that are told to be these, and the state that their exchange makes
    module _ (told : ℕ × ℕ) (told_is : told ≡ (next_place s.order, next_place s.order + draw)) where
      pub told_within : IsPlacing tree.units s.order → (told.0 < tree.units) × (told.1 < tree.units)
      told_within is = subst (λ (p : ℕ × ℕ). (p.0 < tree.units) × (p.1 < tree.units)) (sym told_is) (places_within is)

      pub order_made : (order : Placing) (state : State) → order ≡ exchanged_order s.order (next_place s.order) (next_place s.order + draw) → state ≡ exchanged told.0 told.1 s.state → in_order order state ≡ picked s ((ordered_tree tree exchanged).parts s) draw
      order_made order state order_is state_is =
          ap (λ (o : Placing). in_order o state) order_is
          ∙ ap (in_order (exchanged_order s.order (next_place s.order) (next_place s.order + draw))) (state_is ∙ ap (λ (p : ℕ × ℕ). exchanged p.0 p.1 s.state) told_is)
          ∙ sym (order_picked draw left order_within)

-- each unit has a place, and something stands there
pub unit_within : {State : Type 0} (size : State → ℕ) (s now : Ordered State) → s ≡ now → IsPlacing (size now.state) now.order → (unit : ℕ) → unit < size now.state → (unit < length s.order.places) × (get_or s.order.places unit 0 < size s.state)
unit_within {State} size s now same is unit h =
    let both : (unit < length now.order.places) × (get_or now.order.places unit 0 < size now.state) =
    (omega (arith, length_places (size now.state) now.order is), place_in (size now.state) now.order is unit h) in
    subst (λ (t : Ordered State). (unit < length t.order.places) × (get_or t.order.places unit 0 < size t.state)) (sym same) both

module _ {State : Type 0} (tree : Tree State) (belongs : State → Type 0) (exchanged : ℕ → ℕ → State → State) (lawful : Lawful tree belongs) (is : IsExchange tree belongs exchanged) where
  -- ---- a step of the order

  module _ (s : Ordered State) (ok : IsInOrder tree.units belongs s) (some : 1 ≤ s.order.left) where
    next_here : next_place s.order < tree.units
    next_here = next_in tree.units s.order ok.order some

    other_here : (v : ℕ) → v < s.order.left + 1 → next_place s.order + v < tree.units
    other_here = other_in tree.units s.order ok.order some

    order_part : (v : ℕ) → v < s.order.left + 1 → IsPart (ordered_tree tree exchanged) (IsInOrder tree.units belongs) s (record { weight = 1; state = exchanged_at exchanged s (next_place s.order) (next_place s.order + v) })
    order_part v h = record {
      heavy = omega arith;
      falls = omega (arith, is.rank (next_place s.order) (next_place s.order + v) s.state next_here (other_here v h) ok.state);
      member = record {
        order = record {
          permuted = exchange_permuted tree.units s.order.places (next_place s.order) (next_place s.order + v) next_here (other_here v h) ok.order.permuted;
          few = ok.order.few;
          fewer = let few : s.order.left ≤ tree.units - 1 = ok.order.fewer in omega arith;
        };
        state = is.member (next_place s.order) (next_place s.order + v) s.state next_here (other_here v h) ok.state;
      };
    }

    order_value : (unit : ℕ) → unit < tree.units → (v : ℕ) → v < s.order.left + 1 → (ordered_tree tree exchanged).value (exchanged_at exchanged s (next_place s.order) (next_place s.order + v)) unit ≡ (ordered_tree tree exchanged).value s unit
    order_value unit h v l =
        let here : unit < length s.order.places = omega (arith, length_places tree.units s.order ok.order) in
        let moves : get_or (map (exchange (next_place s.order) (next_place s.order + v)) s.order.places) unit 0 ≡ exchange (next_place s.order) (next_place s.order + v) (get_or s.order.places unit 0) =
        get_or-map (exchange (next_place s.order) (next_place s.order + v)) s.order.places unit 0 0 here in
        ap (tree.value (exchanged (next_place s.order) (next_place s.order + v) s.state)) moves
        ∙ is.value (next_place s.order) (next_place s.order + v) s.state next_here (other_here v l) ok.state (get_or s.order.places unit 0)

    order_even : (unit : ℕ) → unit < tree.units → Same (weighted (λ t. (ordered_tree tree exchanged).value t unit) (order_parts exchanged s)) (times (whole (weight_sum (order_parts exchanged s))) ((ordered_tree tree exchanged).value s unit))
    order_even unit h =
        weighted-same (λ t. (ordered_tree tree exchanged).value t unit) ((ordered_tree tree exchanged).value s unit) (order_parts exchanged s)
        (each_equal (λ v. exchanged_at exchanged s (next_place s.order) (next_place s.order + v)) (λ p. (ordered_tree tree exchanged).value p.state unit ≡ (ordered_tree tree exchanged).value s unit) (s.order.left + 1) (order_value unit h))

    total_is : weight_sum (order_parts exchanged s) ≡ s.order.left + 1
    total_is = weight_sum-equal (λ v. exchanged_at exchanged s (next_place s.order) (next_place s.order + v)) (s.order.left + 1)

    order_split : nat_eq s.order.left 0 ≡ false → LawfulSplit (ordered_tree tree exchanged) (IsInOrder tree.units belongs) s
    order_split e =
        let few : tree.units < 2 ^ 64 = ok.order.few in
        let fewer : s.order.left ≤ tree.units - 1 = ok.order.fewer in
        record {
          some = rw (e, total_is) (omega arith);
          narrow = rw (e, total_is) (omega arith);
          each = rw e (each_equal (λ v. exchanged_at exchanged s (next_place s.order) (next_place s.order + v)) (IsPart (ordered_tree tree exchanged) (IsInOrder tree.units belongs) s) (s.order.left + 1) order_part);
          even = λ unit h. rw e (order_even unit h);
        }

  -- ---- a step of the design over places

  -- the order is a lens, through which each unit is the place where it stands
  order_lens : (order : Placing) → IsPlacing tree.units order → nat_eq order.left 0 ≡ true → Lens tree belongs (ordered_tree tree exchanged) (in_order order) (λ unit. as_unit (get_or order.places unit 0))
  order_lens order placing e = record {
    within = λ unit h. place_in tree.units order placing unit h;
    going = λ i going. rw (e, going) refl;
    kind = λ i going. rw e refl;
    parts = λ i going. rw e refl;
    falls = λ i j less. omega arith;
    value = λ i here unit h. same_refl (tree.value i (get_or order.places unit 0));
  }

  inner_split : (s : Ordered State) → IsInOrder tree.units belongs s → nat_eq s.order.left 0 ≡ true → tree.done s.state ≡ false → LawfulSplit (ordered_tree tree exchanged) (IsInOrder tree.units belongs) s
  inner_split s ok e going =
      split_through tree belongs (ordered_tree tree exchanged) (in_order s.order) (λ unit. as_unit (get_or s.order.places unit 0)) (order_lens s.order ok.order e) (IsInOrder tree.units belongs)
      (λ i m. record { order = ok.order; state = m }) s.state ok.state going (lawful.split s.state ok.state going)

  pub ordered_lawful : Lawful (ordered_tree tree exchanged) (IsInOrder tree.units belongs)
  ordered_lawful = record {
    split = λ s ok going.
        elim (cases_Bool (nat_eq s.order.left 0)) [
          | inl e ↦ inner_split s ok e (rw e at going)
          | inr e ↦ order_split s ok (let some : s.order.left ≢ 0 = eqb-false s.order.left 0 e in omega arith) e
        ];
    end = λ s ok done unit h.
        lawful.end s.state ok.state (and_parts (nat_eq s.order.left 0) (tree.done s.state) done).1 (get_or s.order.places unit 0) (place_in tree.units s.order ok.order unit h);
  }
