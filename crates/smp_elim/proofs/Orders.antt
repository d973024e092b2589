-- The units in falling order of their sizes: those that are certain come first.
use Rattle.std.proofs.Common.{◌≡◌, ℕ, zero, suc, ◌+◌, ◌-◌, ◌*◌, ◌<◌, ◌≤◌, true, false, cond, nat_lt, List, length, get_or, drop, map, reverse, arith, refl, sym, ap, subst, ◌∙◌, inl, inr}
use Rattle.std.specs.{Prelude.{sum}, List.{range_with_len}, List.Sorted.{IsPermutation}}
use Rattle.std.proofs.{Math.Nat.{mul-le-mul_left}, lemmas.Bool.{cases_Bool, cases_lt, lt-ltb, le-ltb, ltb-true, ltb-false}}
use Rattle.std.proofs.{lemmas.List.{get_or_past, get_or-map, length-map, get_or-reverse, length-reverse}, lemmas.List.FromFn.{fill_by_all}}
use Rattle.std.proofs.lemmas.List.Sorted.{IsPermutation-map, IsPermutation-reverse, IsPermutation-trans, sum_by-IsPermutation}
use Rattle.std.proofs.lemmas.List.Sums.{sum_by-drop_more, sum_by-le-sum_by}
use Rattle.smp_places.specs.Orders.{InRisingOrder}
use Rattle.smp_places.proofs.Orders.{order_long, order_below, order_reaches}
use Rattle.smp_prob.specs.Requested.{is_certain, certain_units, open_total, positive_units, IsFalling, Stops, FirstAreCertain}
use Rattle.smp_prob.proofs.{Certain.{still_certain}, FallingOrders.{first_are_certain}}
use Rattle.smp_elim.specs.Kept.Cuts.{InFallingOrder}

-- the rising order, from its end on
pub falling_reversed : (sizes order : List ℕ) → InRisingOrder sizes order → InFallingOrder sizes (reverse order)
falling_reversed sizes order is = record {
  permuted = IsPermutation-trans (range_with_len 0 (length sizes)) order (reverse order) is.permuted (IsPermutation-reverse order);
  falls = λ a b before here.
      (let long = length-reverse order in
      let b_here : b < length order = omega (arith, here, long) in
      let a_here : a < length order = omega arith in
      rw (get_or-reverse order b 0 b_here, get_or-reverse order a 0 a_here) (is.rises (length order - 1 - b) (length order - 1 - a) (omega arith) (omega arith)));
}

pub fewer_certain : (n : ℕ) (sizes : List ℕ) → certain_units n sizes ≤ certain_units (n + 1) sizes
fewer_certain n sizes =
    sum_by-le-sum_by (λ z. cond (is_certain n sizes z) 1 0) (λ z. cond (is_certain (n + 1) sizes z) 1 0) sizes
    (λ z. elim (cases_Bool (is_certain n sizes z)) [
      | inl e ↦ rw (e, still_certain n sizes z e) (omega arith)
      | inr e ↦ rw e (omega arith)
    ])

-- where the rule stops, it stops further on
stops_next : (m d : ℕ) (zs : List ℕ) → IsFalling zs → d < m → d < length zs → Stops m zs d → Stops m zs (d + 1)
stops_next m d zs falls less here stops =
    let next = sum_by-drop_more (λ (x : ℕ). x) zs d 0 here in
    let lower : (m - (d + 1)) * get_or zs (d + 1) 0 ≤ (m - (d + 1)) * get_or zs d 0 = mul-le-mul_left (m - (d + 1)) (falls d (d + 1) (omega arith)) in
    let one_less : m - d ≡ m - (d + 1) + 1 = omega arith in
    let product : (m - d) * get_or zs d 0 ≡ (m - (d + 1)) * get_or zs d 0 + get_or zs d 0 = ap (λ x. x * get_or zs d 0) one_less ∙ omega arith in
    elim stops [
      | inl same ↦ absurd (omega (arith, same))
      | inr light ↦ inr (omega (arith, light, next, lower, product))
    ]

stops_on : (k m d : ℕ) (zs : List ℕ) → IsFalling zs → d + k ≤ m → d + k ≤ length zs → Stops m zs d → Stops m zs (d + k)
stops_on zero m d zs falls less here stops = let none : d + 0 ≡ d = omega arith in rw none stops
stops_on (suc k) m d zs falls less here stops =
    let next : d + k + 1 ≡ d + suc k = omega arith in
    rw (← next) (stops_next m (d + k) zs falls (omega arith) (omega arith) (stops_on k m d zs falls (omega arith) (omega arith) stops))

-- the sizes in that order
abbrev pub falling : List ℕ → List ℕ → List ℕ
falling sizes order = map (λ unit. get_or sizes unit 0) order

module _ (sizes order : List ℕ) (is : InFallingOrder sizes order) where
  pub long : length order ≡ length sizes
  long = order_long (length sizes) order is.permuted

  pub in_range : (place : ℕ) → place < length sizes → get_or order place 0 < length sizes
  in_range place here = order_below (length sizes) order is.permuted place (omega (arith, long))

  pub place_of : (unit : ℕ) → unit < length sizes → (place : ℕ) × (place < length order) × (get_or order place 0 ≡ unit)
  place_of unit here = order_reaches (length sizes) order is.permuted unit here

  pub size_there : (place : ℕ) → place < length sizes → get_or (falling sizes order) place 0 ≡ get_or sizes (get_or order place 0) 0
  size_there place here = get_or-map (λ unit. get_or sizes unit 0) order place 0 0 (omega (arith, long))

  moved : IsPermutation sizes (falling sizes order)
  moved =
      let all : sizes ≡ map (λ unit. get_or sizes unit 0) (range_with_len 0 (length sizes)) = fill_by_all (λ unit. get_or sizes unit 0) sizes (length sizes) 0 refl (λ k h. refl) in
      subst (λ (xs : List ℕ). IsPermutation xs (falling sizes order)) (sym all) (IsPermutation-map (λ unit. get_or sizes unit 0) (range_with_len 0 (length sizes)) order is.permuted)

  falls : IsFalling (falling sizes order)
  falls i j l =
      elim (cases_lt j (length sizes)) [
        | inl here ↦ rw (size_there j here, size_there i (omega arith)) (is.falls i j l (omega (arith, long)))
        | inr past ↦ rw (get_or_past (falling sizes order) j 0 (omega (arith, long, length-map order (λ unit. get_or sizes unit 0)))) (omega arith)
      ]

  pub total : sum (falling sizes order) ≡ sum sizes
  total = sum_by-IsPermutation (λ x. x) sizes (falling sizes order) moved

  module _ (n : ℕ) (enough : n ≤ positive_units sizes) where
    first : FirstAreCertain n sizes (falling sizes order)
    first = first_are_certain n sizes (falling sizes order) enough moved falls

    pub certain_at : (place : ℕ) → place < length sizes → is_certain n sizes (get_or sizes (get_or order place 0) 0) ≡ nat_lt place (certain_units n sizes)
    certain_at place here = rw (← size_there place here) (first.certain place)

    pub left_at : open_total n sizes ≡ sum (drop (certain_units n sizes) (falling sizes order))
    left_at = first.left

    -- a place at which the rule stops is not before the certain units end, and one at which it doesn't is
    pub not_before : (d : ℕ) → Stops n (falling sizes order) d → certain_units n sizes ≤ d
    not_before d stops =
        elim (cases_lt d (certain_units n sizes)) [
          | inl before ↦ absurd (first.least.least d before stops)
          | inr past ↦ past
        ]

    pub before : (d : ℕ) → d ≤ n → d ≤ length sizes → (Stops n (falling sizes order) d → ⊥) → d < certain_units n sizes
    before d within here goes_on =
        elim (cases_lt d (certain_units n sizes)) [
          | inl less ↦ less
          | inr past ↦
              (let sum : certain_units n sizes + (d - certain_units n sizes) ≡ d = omega arith in
              let stops = stops_on (d - certain_units n sizes) n (certain_units n sizes) (falling sizes order) falls (omega arith) (omega (arith, long, length-map order (λ unit. get_or sizes unit 0))) first.least.stops in
              absurd (goes_on (rw sum at stops)))
        ]

  module _ (n : ℕ) (enough : n ≤ positive_units sizes) where
    enough_fewer : n - 1 ≤ positive_units sizes
    enough_fewer = omega (arith, enough)

    pub rest_at : (count rest : ℕ) → count ≡ certain_units n sizes → rest ≡ sum (drop count (falling sizes order)) → rest ≡ open_total n sizes
    rest_at count rest count_is rest_is = rest_is ∙ ap (λ (c : ℕ). sum (drop c (falling sizes order))) count_is ∙ sym (left_at n enough)

    -- the units that are certain for n draws and not for one less stand between the two cuts
    pub now_certain : (place : ℕ) → place < certain_units n sizes → place < length sizes → is_certain n sizes (get_or sizes (get_or order place 0) 0) ≡ true
    now_certain place to here = certain_at n enough place here ∙ lt-ltb place (certain_units n sizes) to

    pub not_later : (place : ℕ) → certain_units (n - 1) sizes ≤ place → place < length sizes → is_certain (n - 1) sizes (get_or sizes (get_or order place 0) 0) ≡ false
    not_later place from here = certain_at (n - 1) enough_fewer place here ∙ le-ltb place (certain_units (n - 1) sizes) from

    pub record Between (unit : ℕ) : Type 0 where
      pub place : ℕ
      pub from : certain_units (n - 1) sizes ≤ place
      pub to : place < certain_units n sizes
      pub here : place < length sizes
      pub at : get_or order place 0 ≡ unit

    pub stands_between : (unit : ℕ) → unit < length sizes → is_certain n sizes (get_or sizes unit 0) ≡ true → is_certain (n - 1) sizes (get_or sizes unit 0) ≡ false → Between unit
    stands_between unit here c p =
        let found = place_of unit here in
        let in_order : found.0 < length sizes = (let l = found.1 in omega (arith, l, long)) in
        let now = certain_at n enough found.0 in_order in
        let later = certain_at (n - 1) enough_fewer found.0 in_order in
        let now_true : is_certain n sizes (get_or sizes (get_or order found.0 0) 0) ≡ true = rw found.2 c in
        let later_false : is_certain (n - 1) sizes (get_or sizes (get_or order found.0 0) 0) ≡ false = rw found.2 p in
        record {
          place = found.0;
          from = ltb-false found.0 (certain_units (n - 1) sizes) (sym later ∙ later_false);
          to = ltb-true found.0 (certain_units n sizes) (sym now ∙ now_true);
          here = in_order;
          at = found.2;
        }
