-- The allocation gives all n units.
use Rattle.std.proofs.Common.{◌≡◌, ℕ, zero, suc, ◌+◌, ◌-◌, ◌*◌, ◌/◌, ◌%◌, ◌<◌, ◌≤◌, Bool, cond, nat_lt, nat_le, nat_eq, ◌^◌, List, [], ◌∷◌, length, map, get_or, inl, inr, arith, refl, sym, ap, ◌∙◌}
use Rattle.std.specs.{Prelude.{count_by, sum_by, sum}, List.{range_with_len}}
use Rattle.std.proofs.{lemmas.Bool.{cases_lt, le-ltb}, lemmas.List.FromFn.{fill_by_all, length-map-range_with_len}}
use Rattle.std.proofs.{lemmas.List.Sums.{sum_by-cons}, lemmas.Nat.{div-add-mod', mod_below}}
use Rattle.smp_strata.specs.{Allocations.{remainder, whole, left_over, rank, allocation}, Kept.Keys.{key, keys}}
use Rattle.smp_strata.proofs.{Ranks.{key_rank}, Distinct.{once}}

-- the whole parts and the remainders
parts : (n all : ℕ) (counts : List ℕ) → sum_by (whole n all) counts * all + sum_by (remainder n all) counts ≡ n * sum counts
parts n all [] = grind arith
parts n all (c ∷ counts) =
    let one : n * c / all * all + n * c % all ≡ n * c = div-add-mod' (n * c) all in
    rw (sum_by-cons (whole n all) c counts, sum_by-cons (remainder n all) c counts, sum_by-cons (λ x. x) c counts)
    (grind (arith, one, parts n all counts))

small : (n all : ℕ) (counts : List ℕ) → 1 ≤ all → sum_by (remainder n all) counts + length counts ≤ length counts * all
small n all [] some = omega arith
small n all (c ∷ counts) some =
    let one : n * c % all < all = mod_below (n * c) all some in
    rw (sum_by-cons (remainder n all) c counts) (grind (arith, one, small n all counts some))

too_many : (n d r all : ℕ) → 1 ≤ all → (n + 1 + d) * all + r ≡ n * all → ⊥
too_many n d r all some e = grind (arith, some, e)

too_few : (w d r h all : ℕ) → 1 ≤ all → w * all + r ≡ (w + h + 1 + d) * all → r + h ≤ h * all → ⊥
too_few w d r h all some e l = grind (arith, some, e, l)

within : (n w r all : ℕ) → 1 ≤ all → w * all + r ≡ n * all → w ≤ n
within n w r all some e =
    elim (cases_lt n w) [
      | inl l ↦ absurd (too_many n (w - (n + 1)) r all some (ap (λ x. x * all + r) (omega (arith, l)) ∙ e))
      | inr g ↦ g
    ]

few : (n w r h all : ℕ) → 1 ≤ all → w * all + r ≡ n * all → r + h ≤ h * all → n - w ≤ h
few n w r h all some e l =
    elim (cases_lt h (n - w)) [
      | inl m ↦ absurd (too_few w (n - w - (h + 1)) r h all some (e ∙ ap (λ x. x * all) (omega (arith, m))) l)
      | inr g ↦ g
    ]

pub wholes_within : (n : ℕ) (counts : List ℕ) → 1 ≤ sum counts → sum_by (whole n (sum counts)) counts ≤ n
wholes_within n counts some = within n _ _ (sum counts) some (parts n (sum counts) counts)

pub left_within : (n : ℕ) (counts : List ℕ) → 1 ≤ sum counts → left_over n counts ≤ length counts
left_within n counts some = few n _ _ (length counts) (sum counts) some (parts n (sum counts) counts) (small n (sum counts) counts some)

sum_share : (f : ℕ → ℕ) (t : ℕ → Bool) (hs : List ℕ) → sum (map (λ h. f h + cond (t h) 1 0) hs) ≡ sum_by f hs + count_by t hs
sum_share f t [] = refl
sum_share f t (h ∷ hs) =
    rw (sum_by-cons (λ x. x) (f h + cond (t h) 1 0) (map (λ h. f h + cond (t h) 1 0) hs), sum_by-cons f h hs, sum_by-cons (λ (x : ℕ). cond (t x) 1 0) h hs)
    (omega (arith, sum_share f t hs))

sum_map : (f g : ℕ → ℕ) (hs : List ℕ) → sum_by f (map g hs) ≡ sum_by (λ h. f (g h)) hs
sum_map f g [] = refl
sum_map f g (h ∷ hs) = rw (sum_by-cons f (g h) (map g hs), sum_by-cons (λ h. f (g h)) h hs) (omega (arith, sum_map f g hs))

over_places : (f : ℕ → ℕ) (xs : List ℕ) → sum_by (λ h. f (get_or xs h 0)) (range_with_len 0 (length xs)) ≡ sum_by f xs
over_places f xs =
    sym (sum_map f (λ h. get_or xs h 0) (range_with_len 0 (length xs)))
    ∙ ap (sum_by f) (sym (fill_by_all (λ h. get_or xs h 0) xs (length xs) 0 refl (λ k l. refl)))

same_tests : (p : ℕ → Bool) (g : ℕ → ℕ) (t : ℕ → Bool) (a m : ℕ) → ((k : ℕ) → k < a + m → p (g k) ≡ t k) → count_by p (map g (range_with_len a m)) ≡ count_by t (range_with_len a m)
same_tests p g t a zero h = refl
same_tests p g t a (suc m) h =
    rw (sum_by-cons (λ (x : ℕ). cond (p x) 1 0) (g a) (map g (range_with_len (a + 1) m)), sum_by-cons (λ (x : ℕ). cond (t x) 1 0) a (range_with_len (a + 1) m), h a (omega arith), same_tests p g t (a + 1) m (λ k l. h k (omega (arith, l)))) refl

none_below : (f : ℕ → ℕ) (hs : List ℕ) → count_by (λ h. nat_lt (f h) 0) hs ≡ 0
none_below f [] = refl
none_below f (h ∷ hs) = rw (sum_by-cons (λ (x : ℕ). cond (nat_lt (f x) 0) 1 0) h hs, le-ltb (f h) 0 (omega arith)) (omega (arith, none_below f hs))

key_small : (r h : ℕ) → r < 200000 → r * 200000 + (199999 - h) < 2 ^ 40
key_small r h l = omega (arith, l)

module _ (n : ℕ) (counts : List ℕ) (border : ℕ) (short : length counts ≤ 200000) (some : 1 ≤ sum counts) (total : sum counts ≤ 200000)
    (test : (v : ℕ) → v < 2 ^ 40 → nat_le border v ≡ nat_lt (count_by (nat_lt v) (keys n (sum counts) counts)) (left_over n counts))
    (number : ((v : ℕ) → count_by (nat_eq v) (keys n (sum counts) counts) ≤ 1) → 1 ≤ left_over n counts → left_over n counts ≤ length (keys n (sum counts) counts)
    → count_by (nat_le border) (keys n (sum counts) counts) ≡ left_over n counts) where
  gets_more : (h : ℕ) → h < length counts → nat_le border (key n (sum counts) (get_or counts h 0) h) ≡ nat_lt (rank n counts h) (left_over n counts)
  gets_more h here =
      test (key n (sum counts) (get_or counts h 0) h) (key_small (remainder n (sum counts) (get_or counts h 0)) h (omega (arith, total, mod_below (n * get_or counts h 0) (sum counts) some)))
      ∙ ap (λ m. nat_lt m (left_over n counts)) (key_rank n counts h short here)

  many_more : count_by (λ h. nat_lt (rank n counts h) (left_over n counts)) (range_with_len 0 (length counts)) ≡ left_over n counts
  many_more =
      elim (cases_lt 0 (left_over n counts)) [
        | inl l ↦
            sym (same_tests (nat_le border) (λ h. key n (sum counts) (get_or counts h 0) h) (λ h. nat_lt (rank n counts h) (left_over n counts)) 0 (length counts) (λ k m. gets_more k (omega (arith, m))))
            ∙ number (once n (sum counts) counts short) (omega (arith, l))
            (rw (length-map-range_with_len (λ h. key n (sum counts) (get_or counts h 0) h) 0 (length counts)) (left_within n counts some))
        | inr g ↦
            (let none : left_over n counts ≡ 0 = omega (arith, g) in
            ap (λ m. count_by (λ h. nat_lt (rank n counts h) m) (range_with_len 0 (length counts))) none ∙ none_below (rank n counts) (range_with_len 0 (length counts)) ∙ sym none)
      ]

  pub given : sum (allocation n counts) ≡ n
  given =
      sum_share (λ h. whole n (sum counts) (get_or counts h 0)) (λ h. nat_lt (rank n counts h) (left_over n counts)) (range_with_len 0 (length counts))
      ∙ omega (arith, over_places (whole n (sum counts)) counts, many_more, wholes_within n counts some)
