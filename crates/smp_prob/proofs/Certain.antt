-- What holds of the certain units, whatever the number of draws.
use Rattle.std.proofs.Common.{◌≡◌, ℕ, zero, suc, ◌+◌, ◌-◌, ◌*◌, ◌<◌, ◌≤◌, true, false, cond, nat_lt, nat_le, List, [], ◌∷◌, length, get_or, drop, arith, refl, inl, inr}
use Rattle.std.specs.{Prelude.{sum}, List.Sorted.{IsPermutation}}
use Rattle.std.proofs.{Math.Nat.{mul-le-mul_left, mul-le-mul_right}, lemmas.List.Sums.{sum_by-cons}}
use Rattle.std.proofs.lemmas.Bool.{cases_Bool, cases_eq, and_parts, ltb-true, ltb-false, lt-ltb, le-leb, leb-true}
use Rattle.std.proofs.lemmas.List.Sorted.{IsPermutation-refl, IsPermutation-sym, IsPermutation-trans, IsPermutation-cons, IsPermutation-middle, sum_by-IsPermutation}
use Rattle.smp_prob.specs.Requested.{larger, rest, is_certain, is_free, certain_units, open_total, positive_units, IsFalling}
use Rattle.smp_prob.specs.Kept.Cuts.{border}
use Rattle.smp_prob.proofs.{Sizes.{each_order}, Least.{least_cut, least_is}, FallingOrders.{long_order, cut_order, first_are_certain}}
use Rattle.smp_prob.proofs.Cuts.{at_least, IsCut, certain_is, certain_count, open_sum, at_least_some, less_times, share_below, draw_left}

-- ---- any sizes have a falling order

put : ℕ → List ℕ → List ℕ
put x [] = x ∷ []
put x (y ∷ ys) = cond (nat_lt x y) (y ∷ put x ys) (x ∷ y ∷ ys)

put_moves : (x : ℕ) (ys : List ℕ) → IsPermutation (x ∷ ys) (put x ys)
unfolding put
put_moves x [] = IsPermutation-refl (x ∷ [])
put_moves x (y ∷ ys) = elim (cases_Bool (nat_lt x y)) [
  | inl e ↦ rw e (IsPermutation-trans (x ∷ y ∷ ys) (y ∷ x ∷ ys) (y ∷ put x ys) (IsPermutation-sym _ _ (IsPermutation-middle (y ∷ []) x ys)) (IsPermutation-cons y (x ∷ ys) (put x ys) (put_moves x ys)))
  | inr e ↦ rw e (IsPermutation-refl (x ∷ y ∷ ys))
]

below_cons : (b y : ℕ) (ys : List ℕ) → y ≤ b → ((k : ℕ) → get_or ys k 0 ≤ b) → (k : ℕ) → get_or (y ∷ ys) k 0 ≤ b
below_cons b y ys h all zero = h
below_cons b y ys h all (suc k) = all k

put_below : (b x : ℕ) (ys : List ℕ) → x ≤ b → ((k : ℕ) → get_or ys k 0 ≤ b) → (k : ℕ) → get_or (put x ys) k 0 ≤ b
unfolding put
put_below b x [] h all k = below_cons b x [] h (λ j. omega arith) k
put_below b x (y ∷ ys) h all k = elim (cases_Bool (nat_lt x y)) [
  | inl e ↦ rw e (below_cons b y (put x ys) (all 0) (put_below b x ys h (λ j. all (suc j))) k)
  | inr e ↦ rw e (below_cons b x (y ∷ ys) h all k)
]

falling_cons : (y : ℕ) (ys : List ℕ) → IsFalling ys → ((k : ℕ) → get_or ys k 0 ≤ y) → IsFalling (y ∷ ys)
falling_cons y ys falls all zero zero h = omega arith
falling_cons y ys falls all zero (suc j) h = all j
falling_cons y ys falls all (suc i) zero h = absurd (omega arith)
falling_cons y ys falls all (suc i) (suc j) h = falls i j (omega arith)

put_falls : (x : ℕ) (ys : List ℕ) → IsFalling ys → IsFalling (put x ys)
unfolding put
put_falls x [] falls = falling_cons x [] falls (λ k. omega arith)
put_falls x (y ∷ ys) falls =
    let tail : IsFalling ys = λ i j h. falls (suc i) (suc j) (omega arith) in
    let first : (k : ℕ) → get_or ys k 0 ≤ y = λ k. falls 0 (suc k) (omega arith) in
    elim (cases_Bool (nat_lt x y)) [
      | inl e ↦ rw e (falling_cons y (put x ys) (put_falls x ys tail) (put_below y x ys (omega (arith, ltb-true x y e)) first))
      | inr e ↦ rw e (falling_cons x (y ∷ ys) falls (λ k. omega (arith, falls 0 k (omega arith), ltb-false x y e)))
    ]

pub record InFallingOrder (sizes : List ℕ) : Type 0 where
  pub order : List ℕ
  pub same : IsPermutation sizes order
  pub falls : IsFalling order

pub in_falling_order : (sizes : List ℕ) → InFallingOrder sizes
in_falling_order [] = record { order = []; same = IsPermutation-refl []; falls = λ i j h. omega arith }
in_falling_order (x ∷ xs) =
    let rest = in_falling_order xs in
    record {
      order = put x rest.order;
      same = IsPermutation-trans (x ∷ xs) (x ∷ rest.order) (put x rest.order) (IsPermutation-cons x xs rest.order rest.same) (put_moves x rest.order);
      falls = put_falls x rest.order rest.falls;
    }

-- ---- so they have a cut for any number of draws

record HasCut (n : ℕ) (sizes : List ℕ) : Type 0 where
  border : ℕ
  low : ℕ
  cut : IsCut n sizes border low

has_cut : (n : ℕ) (sizes : List ℕ) → n ≤ positive_units sizes → HasCut n sizes
has_cut n sizes enough =
    let zs = in_falling_order sizes in
    record {
      border = border (least_cut n zs.order) zs.order;
      low = get_or zs.order (least_cut n zs.order) 0;
      cut = cut_order n (least_cut n zs.order) sizes zs.order zs.same zs.falls enough (least_is n zs.order (long_order n sizes zs.order enough zs.same)) _ refl;
    }

module _ (n : ℕ) (sizes : List ℕ) (enough : n ≤ positive_units sizes) where
  pub certain_within : certain_units n sizes ≤ n
  certain_within = let has = has_cut n sizes enough in rw (certain_count n sizes has.border has.low has.cut) has.cut.within

  module _ (k : ℕ) where
    -- a size that is certain is a full share of what is left
    pub full_share : is_certain n sizes (get_or sizes k 0) ≡ true → open_total n sizes ≤ (n - certain_units n sizes) * get_or sizes k 0
    full_share certain =
        let has = has_cut n sizes enough in
        let above : nat_lt (get_or sizes k 0) has.border ≡ false = (elim (cases_Bool (nat_lt (get_or sizes k 0) has.border)) [
          | inl e ↦ absurd (cc (certain, certain_is n sizes has.border has.low has.cut k, e))
          | inr e ↦ e
        ]) in
        let from : has.border ≤ get_or sizes k 0 = ltb-false (get_or sizes k 0) has.border above in
        rw (certain_count n sizes has.border has.low has.cut, open_sum n sizes has.border has.low has.cut)
        (omega (arith, mul-le-mul_left (n - at_least sizes has.border) from, has.cut.full (at_least_some has.border has.cut.positive sizes k from)))

    -- and one that is not is less than one
    pub part_share : 1 ≤ get_or sizes k 0 → is_certain n sizes (get_or sizes k 0) ≡ false → (n - certain_units n sizes) * get_or sizes k 0 < open_total n sizes
    part_share some open_ =
        let has = has_cut n sizes enough in
        let free : is_free n sizes (get_or sizes k 0) ≡ true = rw (open_, lt-ltb 0 (get_or sizes k 0) some) refl in
        rw (certain_count n sizes has.border has.low has.cut, open_sum n sizes has.border has.low has.cut)
        (share_below n sizes has.border has.low has.cut k free)

    pub some_draw : 1 ≤ n → 1 ≤ get_or sizes k 0 → is_certain n sizes (get_or sizes k 0) ≡ false → 1 ≤ n - certain_units n sizes
    some_draw asked some open_ =
        let has = has_cut n sizes enough in
        let free : is_free n sizes (get_or sizes k 0) ≡ true = rw (open_, lt-ltb 0 (get_or sizes k 0) some) refl in
        rw (certain_count n sizes has.border has.low has.cut) (draw_left n sizes has.border has.low has.cut k free asked)

-- ---- more draws make more units certain

pub still_certain : (n : ℕ) (sizes : List ℕ) (z : ℕ) → is_certain n sizes z ≡ true → is_certain (n + 1) sizes z ≡ true
still_certain n sizes z certain =
    let parts = and_parts (nat_lt 0 z) (nat_le (rest sizes z) ((n - larger sizes z) * z)) certain in
    let fits = leb-true (rest sizes z) ((n - larger sizes z) * z) parts.1 in
    let wider : (n - larger sizes z) * z ≤ (n + 1 - larger sizes z) * z = mul-le-mul_right z (omega arith) in
    rw (parts.0, le-leb (rest sizes z) ((n + 1 - larger sizes z) * z) (omega (arith, fits, wider))) refl

-- as many draws as sizes make all certain
full_shares : (z : ℕ) (sizes : List ℕ) → rest sizes z + larger sizes z * z ≤ length sizes * z
full_shares z [] = omega arith
full_shares z (x ∷ xs) =
    let ih = full_shares z xs in
    rw (sum_by-cons (λ (y : ℕ). cond (nat_lt z y) 0 y) x xs, sum_by-cons (λ (y : ℕ). cond (nat_lt z y) 1 0) x xs)
    (elim (cases_Bool (nat_lt z x)) [
      | inl e ↦ rw e (omega (arith, ih))
      | inr e ↦ rw e (omega (arith, ih, ltb-false z x e))
    ])

pub all_certain : (sizes : List ℕ) (z : ℕ) → 1 ≤ z → is_certain (length sizes) sizes z ≡ true
all_certain sizes z some =
    rw (lt-ltb 0 z some, le-leb (rest sizes z) ((length sizes - larger sizes z) * z) (less_times (length sizes) (larger sizes z) z (rest sizes z) (full_shares z sizes))) refl

-- none is where no share is as much as one
module _ (n : ℕ) (sizes : List ℕ) (enough : n ≤ positive_units sizes) (below_one : (k : ℕ) → n * get_or sizes k 0 < sum sizes) where
  pub none_certain : certain_units n sizes ≡ 0
  none_certain =
      let zs = in_falling_order sizes in
      let first = first_are_certain n sizes zs.order enough zs.same zs.falls in
      let total : sum zs.order ≡ sum sizes = sum_by-IsPermutation (λ x. x) sizes zs.order zs.same in
      let all : (n - 0) * get_or zs.order 0 0 < sum (drop 0 zs.order) =
      (let light = each_order (λ z. n * z < sum sizes) zs.order sizes (IsPermutation-sym sizes zs.order zs.same) (omega (arith, below_one 0)) below_one 0 in
      let none : n - 0 ≡ n = omega arith in rw (none, total) light) in
      elim (cases_eq (certain_units n sizes) 0) [
        | inl none ↦ none
        | inr some ↦ absurd (first.least.least 0 (omega arith) (inr all))
      ]
