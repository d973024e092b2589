-- The units in rising order of their sizes, and the last of them that is open.
use Rattle.std.proofs.Common.{◌≡◌, ◌≢◌, ℕ, suc, ◌-◌, ◌<◌, ◌≤◌, List, [], ◌∷◌, length, get_or, set, length-set, inl, inr, arith}
use Rattle.std.specs.{List.{range_with_len}, List.Sorted.{IsPermutation}}
use Rattle.std.proofs.{lemmas.Bool.{cases_eq, cases_lt}, lemmas.List.{get_or-set_same, get_or-set_other, get_or_past}}
use Rattle.smp_brewer.specs.Kept.Orders.{IsRanked}
use Rattle.smp_values.specs.Largest.{largest_of}
use Rattle.smp_values.proofs.Largest.{largest-at}
use Rattle.smp_places.proofs.Orders.{order_below, order_reaches}

-- what is taken is 0, and the others stay
taken_at : (sizes : List ℕ) (unit k : ℕ) → 1 ≤ get_or (set sizes unit 0) k 0 → (k ≢ unit) × (get_or (set sizes unit 0) k 0 ≡ get_or sizes k 0)
taken_at sizes unit k h =
    elim (cases_eq k unit) [
      | inl e ↦
          (elim (cases_lt unit (length sizes)) [
            | inl here ↦ absurd (let none : get_or (set sizes unit 0) unit 0 ≡ 0 = get_or-set_same sizes unit 0 0 here in let is : 1 ≤ get_or (set sizes unit 0) unit 0 = rw e at h in omega arith)
            | inr past ↦ absurd (let none : get_or (set sizes unit 0) k 0 ≡ 0 = get_or_past (set sizes unit 0) k 0 (let long = length-set sizes unit 0 in omega arith) in omega arith)
          ])
      | inr other ↦ (other, get_or-set_other sizes unit k 0 0 other)
    ]

less_at : (sizes : List ℕ) (unit k : ℕ) → get_or (set sizes unit 0) k 0 ≤ get_or sizes k 0
less_at sizes unit k =
    elim (cases_lt 0 (get_or (set sizes unit 0) k 0)) [
      | inl some ↦ (let same = (taken_at sizes unit k (omega arith)).1 in omega arith)
      | inr none ↦ omega arith
    ]

largest_below : (sizes : List ℕ) (bound : ℕ) → ((k : ℕ) → get_or sizes k 0 ≤ bound) → largest_of sizes ≤ bound
largest_below [] bound h = omega arith
largest_below (z ∷ zs) bound h =
    let first : z ≤ bound = h 0 in
    let rest = largest_below zs bound (λ k. h (suc k)) in
    omega arith

module _ (sizes order : List ℕ) (left : ℕ) (is : IsRanked sizes order left) where
  pub IsRanked-taken : (unit : ℕ) → IsRanked (set sizes unit 0) order left
  IsRanked-taken unit = record {
    end = is.end;
    unit = λ place here. (let within = is.unit place here in let long = length-set sizes unit 0 in omega arith);
    rises = λ a b before here some.
        (let same = (taken_at sizes unit (get_or order b 0) some).1 in
        let risen = is.rises a b before here (omega arith) in
        let less = less_at sizes unit (get_or order a 0) in
        omega arith);
    reached = λ k some. is.reached k (let same = (taken_at sizes unit k some).1 in omega arith);
  }

  passed : 1 ≤ left → get_or sizes (get_or order (left - 1) 0) 0 ≡ 0 → (k : ℕ) → 1 ≤ get_or sizes k 0 → (place : ℕ) × (place < left) × (get_or order place 0 ≡ k) → (place : ℕ) × (place < left - 1) × (get_or order place 0 ≡ k)
  passed more none k some found =
      elim (cases_lt found.0 (left - 1)) [
        | inl here ↦ (found.0, here, found.2)
        | inr last ↦
            absurd
            (let is_last : found.0 ≡ left - 1 = (let within = found.1 in omega arith) in
            let at : get_or order (left - 1) 0 ≡ k = rw is_last at found.2 in
            let gone : get_or sizes k 0 ≡ 0 = rw at at none in
            omega arith)
      ]

  pub IsRanked-passed : 1 ≤ left → get_or sizes (get_or order (left - 1) 0) 0 ≡ 0 → IsRanked sizes order (left - 1)
  IsRanked-passed more none = record {
    end = (let end = is.end in omega arith);
    unit = is.unit;
    rises = is.rises;
    reached = λ k some. passed more none k some (is.reached k some);
  }

  -- the last that is left is the largest
  pub largest_last : 1 ≤ left → 1 ≤ get_or sizes (get_or order (left - 1) 0) 0 → get_or sizes (get_or order (left - 1) 0) 0 ≡ largest_of sizes
  largest_last more some =
      let below : (k : ℕ) → get_or sizes k 0 ≤ get_or sizes (get_or order (left - 1) 0) 0 =
      λ k.
      elim (cases_lt 0 (get_or sizes k 0)) [
        | inl one ↦
            (let found = is.reached k one in
            let risen = is.rises found.0 (left - 1) (let within = found.1 in omega arith) (let end = is.end in omega arith) some in
            rw found.2 at risen)
        | inr none ↦ omega arith
      ] in
      let least = largest_below sizes (get_or sizes (get_or order (left - 1) 0) 0) below in
      let at = largest-at sizes (get_or order (left - 1) 0) in
      omega arith

  pub largest_none : left ≡ 0 → 0 ≡ largest_of sizes
  largest_none none =
      let below : (k : ℕ) → get_or sizes k 0 ≤ 0 =
      λ k.
      elim (cases_lt 0 (get_or sizes k 0)) [
        | inl one ↦ absurd (let found = is.reached k one in let within = found.1 in omega arith)
        | inr zero_is ↦ zero_is
      ] in
      let least = largest_below sizes 0 below in
      omega arith

within : (sizes : List ℕ) (unit : ℕ) → 1 ≤ get_or sizes unit 0 → unit < length sizes
within sizes unit some =
    elim (cases_lt unit (length sizes)) [
      | inl here ↦ here
      | inr past ↦ absurd (let none : get_or sizes unit 0 ≡ 0 = get_or_past sizes unit 0 past in omega arith)
    ]

-- the units in rising order, none of which is passed over
pub IsRanked-sorted : (sizes order : List ℕ) → IsPermutation (range_with_len 0 (length sizes)) order → ((a b : ℕ) → a ≤ b → b < length order → get_or sizes (get_or order a 0) 0 ≤ get_or sizes (get_or order b 0) 0) → IsRanked sizes order (length order)
IsRanked-sorted sizes order permuted rises = record {
  end = omega arith;
  unit = order_below (length sizes) order permuted;
  rises = λ a b before here some. rises a b before here;
  reached = λ unit some. order_reaches (length sizes) order permuted unit (within sizes unit some);
}
