-- The amounts of the units that are certain now alone.
use Rattle.std.proofs.Common.{◌≡◌, ◌≢◌, ℕ, suc, ◌+◌, ◌-◌, ◌*◌, ◌<◌, ◌≤◌, false, List, [], ◌∷◌, length, get_or, set, arith, refl, ap, inl, inr}
use Rattle.std.specs.List.{range_with_len, sum, sum_by}
use Rattle.std.proofs.{lemmas.Bool.{cases_Bool, cases_eq}, lemmas.List.{get_or-set_same, get_or-set_other}, lemmas.List.Sums.{sum_by-cons}}
use Rattle.smp_prob.specs.Requested.{is_certain, certain_units, open_total, positive_units}
use Rattle.smp_prob.proofs.Certain.{certain_within, part_share}
use Rattle.smp_split.proofs.Counts.{sum_by-indices}
use Rattle.smp_elim.specs.{declared.cuts.Cut.{Cut}, Kept.Cuts.{InFallingOrder, IsCutAt}, Kept.Weights.{fresh_amount}}
use Rattle.smp_elim.specs.Laws.Sums.{sum_by-most}
use Rattle.smp_elim.proofs.{Cutting.{enough_of}, Orders.{in_range, long, now_certain, not_later, stands_between}}

-- a sum of amounts that are each at most another, and of such that are at most 1
pub sum_most : (f : ℕ → ℕ) (xs : List ℕ) (n : ℕ) → length xs ≡ n → ((k : ℕ) → k < n → get_or xs k 0 ≤ f k) → sum xs ≤ sum_by f (range_with_len 0 n)
sum_most f xs n same h =
    let all : sum_by (λ k. get_or xs k 0) (range_with_len 0 n) ≡ sum xs = sum_by-indices (λ x. x) xs 0 n same in
    omega (arith, all, sum_by-most (λ k. get_or xs k 0) f n 0 (λ k l. h k (omega arith)))

pub sum_ones : (xs : List ℕ) → ((k : ℕ) → k < length xs → get_or xs k 0 ≤ 1) → sum xs ≤ length xs
sum_ones [] h = omega arith
sum_ones (x ∷ xs) h = omega (arith, sum_by-cons (λ (y : ℕ). y) x xs, h 0 (omega arith), sum_ones xs (λ k l. h (suc k) (omega arith)))

module _ (sizes order : List ℕ) (is : InFallingOrder sizes order) (positive : (k : ℕ) → k < length sizes → 1 ≤ get_or sizes k 0) (n : ℕ) (enough : n ≤ positive_units sizes) where
  module _ (place : ℕ) (from : certain_units (n - 1) sizes ≤ place) (to : place < certain_units n sizes) (here : place < length sizes) where
    unit : get_or order place 0 < length sizes
    unit = in_range sizes order is place here

    later : is_certain (n - 1) sizes (get_or sizes (get_or order place 0) 0) ≡ false
    later = not_later sizes order is n enough place from here

    pub amount_there : fresh_amount sizes n (get_or order place 0) ≡ open_total (n - 1) sizes - get_or sizes (get_or order place 0) 0 * (n - 1 - certain_units (n - 1) sizes)
    amount_there = rw (now_certain sizes order is n enough place to here, later) refl

    pub share_there : get_or sizes (get_or order place 0) 0 * (n - 1 - certain_units (n - 1) sizes) ≤ open_total (n - 1) sizes
    share_there =
        let less = part_share (n - 1) sizes (omega (arith, enough)) (get_or order place 0) (positive (get_or order place 0) unit) later in
        omega (arith, less)

  -- any other unit has none
  pub none_elsewhere : (k : ℕ) → k < length sizes → ((place : ℕ) → certain_units (n - 1) sizes ≤ place → place < certain_units n sizes → get_or order place 0 ≢ k) → fresh_amount sizes n k ≡ 0
  none_elsewhere k here apart =
      elim (cases_Bool (is_certain n sizes (get_or sizes k 0))) [
        | inr c ↦ rw c refl
        | inl c ↦ elim (cases_Bool (is_certain (n - 1) sizes (get_or sizes k 0))) [
          | inl p ↦ rw (c, p) refl
          | inr p ↦ (let is_at = stands_between sizes order is n enough k here c p in absurd (apart is_at.place is_at.from is_at.to is_at.at))
        ]
      ]

  -- one more is set
  module _ (xs : List ℕ) (low place amount : ℕ) (same : length xs ≡ length sizes) (here : place < length sizes) (amount_is : amount ≡ fresh_amount sizes n (get_or order place 0)) where
    inside : get_or order place 0 < length xs
    inside = (let at = in_range sizes order is place here in omega (arith, at, same))

    pub past_more : ((j : ℕ) → low ≤ j → j < place → get_or xs (get_or order j 0) 0 ≡ fresh_amount sizes n (get_or order j 0)) → (j : ℕ) → low ≤ j → j < place + 1 → get_or (set xs (get_or order place 0) amount) (get_or order j 0) 0 ≡ fresh_amount sizes n (get_or order j 0)
    past_more past j from to =
        elim (cases_eq (get_or order j 0) (get_or order place 0)) [
          | inl e ↦ rw (e, get_or-set_same xs (get_or order place 0) amount 0 inside) amount_is
          | inr other ↦
              (let apart : j ≢ place = λ at. other (ap (λ (i : ℕ). get_or order i 0) at) in
              rw (get_or-set_other xs (get_or order place 0) (get_or order j 0) amount 0 other) (past j from (omega arith)))
        ]

    pub most_more : ((k : ℕ) → k < length sizes → get_or xs k 0 ≤ fresh_amount sizes n k) → (k : ℕ) → k < length sizes → get_or (set xs (get_or order place 0) amount) k 0 ≤ fresh_amount sizes n k
    most_more most k k_here =
        elim (cases_eq k (get_or order place 0)) [
          | inl e ↦ rw (e, get_or-set_same xs (get_or order place 0) amount 0 inside) (omega (arith, amount_is))
          | inr other ↦ rw (get_or-set_other xs (get_or order place 0) k amount 0 other) (most k k_here)
        ]

-- what a turn of the loop has: a unit that is certain now alone, and its amount
pub record IsDue (sizes order : List ℕ) (n place count rest : ℕ) : Type 0 where
  pub here : place < length sizes
  pub in_order : place < length order
  pub unit : get_or order place 0 < length sizes
  pub share : get_or sizes (get_or order place 0) 0 * (n - 1 - count) ≤ rest
  pub amount : rest - get_or sizes (get_or order place 0) 0 * (n - 1 - count) ≡ fresh_amount sizes n (get_or order place 0)

pub is_due : (sizes order : List ℕ) → InFallingOrder sizes order → ((k : ℕ) → k < length sizes → 1 ≤ get_or sizes k 0) → (n : ℕ) (cut next : Cut) → n ≤ length sizes → IsCutAt n sizes cut → IsCutAt (n - 1) sizes next → (place : ℕ) → next.count ≤ place → place < cut.count
    → IsDue sizes order n place next.count next.rest
is_due sizes order is positive n cut next asked cut_is next_is place after before =
    let enough = enough_of sizes positive n asked in
    let here : place < length sizes = omega (arith, before, cut_is.count_is, certain_within n sizes enough, asked) in
    let to : place < certain_units n sizes = omega (arith, before, cut_is.count_is) in
    let from : certain_units (n - 1) sizes ≤ place = omega (arith, after, next_is.count_is) in
    let share = share_there sizes order is positive n enough place from to here in
    let amount = amount_there sizes order is positive n enough place from to here in
    let product = ap (λ (b : ℕ). get_or sizes (get_or order place 0) 0 * (n - 1 - b)) next_is.count_is in
    record {
      here = here;
      in_order = omega (arith, here, long sizes order is);
      unit = in_range sizes order is place here;
      share = omega (arith, share, next_is.rest_is, product);
      amount = omega (arith, amount, next_is.rest_is, product);
    }
