-- Sums over sizes, and the sizes in another order.
use Rattle.std.proofs.Common.{◌≡◌, ℕ, suc, ◌+◌, ◌-◌, ◌^◌, ◌<◌, ◌≤◌, nat_lt, List, [], ◌∷◌, length, get_or, reverse, inl, inr, arith, refl}
use Rattle.std.specs.{Prelude.{slice_index, sum_by, EachIndex}, List.Sorted.{IsPermutation, IsSorted}, Ordering.{nat_cmp}}
use Rattle.std.proofs.{lemmas.Bool.{cases_Bool, ltb-true, ltb-false}, lemmas.List.{get_or_past, get_or-reverse, length-reverse}}
use Rattle.std.proofs.{lemmas.List.Elements.{All-get_or, All-from_get_or}, lemmas.List.Sums.{sum_by-cons, get_or-le-sum_by}}
use Rattle.std.proofs.lemmas.List.Sorted.{IsPermutation-sym, All-permutation, IsNonDecreasingBy-from_sort}
use Rattle.smp_prob.specs.Requested.{IsFalling}

-- each size is part of the sum
pub sum_by-at : (f : ℕ → ℕ) → f 0 ≡ 0 → (xs : List ℕ) (k : ℕ) → f (get_or xs k 0) ≤ sum_by f xs
sum_by-at f none xs k =
    elim (cases_Bool (nat_lt k (length xs))) [
      | inl e ↦ get_or-le-sum_by f xs k 0 (ltb-true k (length xs) e)
      | inr e ↦ rw (get_or_past xs k 0 (ltb-false k (length xs) e)) (omega (arith, none))
    ]

-- functions that are the same at each size
pub sum_by-same : (f g : ℕ → ℕ) (xs : List ℕ) → ((k : ℕ) → f (get_or xs k 0) ≡ g (get_or xs k 0)) → sum_by f xs ≡ sum_by g xs
sum_by-same f g [] h = refl
sum_by-same f g (x ∷ xs) h = rw (sum_by-cons f x xs, sum_by-cons g x xs) (omega (arith, h 0, sum_by-same f g xs (λ k. h (suc k))))

pub sum_by-plus : (f g both : ℕ → ℕ) → ((x : ℕ) → both x ≡ f x + g x) → (xs : List ℕ) → sum_by both xs ≡ sum_by f xs + sum_by g xs
sum_by-plus f g both h [] = refl
sum_by-plus f g both h (x ∷ xs) =
    rw (sum_by-cons both x xs, sum_by-cons f x xs, sum_by-cons g x xs) (omega (arith, h x, sum_by-plus f g both h xs))

-- what holds of each size holds of each in another order
pub each_order : (P : ℕ → Type 0) (xs ys : List ℕ) → IsPermutation xs ys → P 0 → ((k : ℕ) → P (get_or ys k 0)) → (k : ℕ) → P (get_or xs k 0)
each_order P xs ys perm none h k =
    elim (cases_Bool (nat_lt k (length xs))) [
      | inl e ↦ All-get_or P xs k 0 (ltb-true k (length xs) e) (All-permutation P ys xs (IsPermutation-sym xs ys perm) (All-from_get_or P ys 0 (λ i l. h i)))
      | inr e ↦ rw (get_or_past xs k 0 (ltb-false k (length xs) e)) none
    ]

pub small_order : (xs ys : List ℕ) → IsPermutation xs ys → EachIndex xs (λ i. slice_index xs i < 2 ^ 31) → EachIndex ys (λ i. slice_index ys i < 2 ^ 31)
small_order xs ys same small i here =
    All-get_or (λ z. z < 2 ^ 31) ys i 0 here (All-permutation (λ z. z < 2 ^ 31) xs ys same (All-from_get_or (λ z. z < 2 ^ 31) xs 0 small))

pub falling_reverse : (xs : List ℕ) → IsSorted nat_cmp xs → IsFalling (reverse xs)
falling_reverse xs sorted i j l =
    elim (cases_Bool (nat_lt j (length xs))) [
      | inl e ↦
          (let m : j < length xs = ltb-true j (length xs) e in
          rw (get_or-reverse xs j 0 m, get_or-reverse xs i 0 (omega arith)) (IsNonDecreasingBy-from_sort (λ x. x) xs sorted (length xs - 1 - j) (length xs - 1 - i) 0 (omega arith) (omega arith)))
      | inr e ↦ (let past : length xs ≤ j = ltb-false j (length xs) e in rw (get_or_past (reverse xs) j 0 (omega (arith, past, length-reverse xs))) (omega arith))
    ]

-- what bounds each element bounds what is read at any place
pub all_at_most : (xs : List ℕ) (most : ℕ) → ((i : ℕ) → i < length xs → get_or xs i 0 ≤ most) → (k : ℕ) → get_or xs k 0 ≤ most
all_at_most xs most each k =
    elim (cases_Bool (nat_lt k (length xs))) [
      | inl e ↦ each k (ltb-true k (length xs) e)
      | inr e ↦ rw (get_or_past xs k 0 (ltb-false k (length xs) e)) (omega arith)
    ]
