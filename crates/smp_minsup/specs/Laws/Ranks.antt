-- Of any units exactly r are among the r largest.
use Rattle.std.proofs.Common.{◌≡◌, ◌≢◌, ℕ, zero, suc, ◌+◌, ◌-◌, ◌<◌, ◌≤◌, true, false, cond, nat_lt, nat_eq}
use Rattle.std.proofs.Common.{◌&&◌, List, length, get_or, arith, refl, sym, ap, ◌∙◌, inl, inr, ◌⊎◌}
use Rattle.std.proofs.lemmas.Bool.{cases_Bool, cases_eq, cases_order, or_cases, and_parts, ltb-true, lt-ltb, le-ltb, eqb-true, eq-eqb}
use Rattle.std.proofs.lemmas.Bool.{false_from_ne_true}
use Rattle.smp_minsup.specs.Support.{is_larger, larger_units}
use Rattle.smp_split.proofs.NumberSums.{counts, sums_less, sums-none, sums_constant, sum_by-range, weight_true, weight_false}

module _ (numer : List ℕ) where
  abbrev at : ℕ → ℕ
  at k = get_or numer k 0

  pub larger_is : (j k : ℕ) → is_larger numer j k ≡ true → (at k < at j) ⊎ ((at k ≡ at j) × (k < j))
  larger_is j k h =
      elim (or_cases (nat_lt (at k) (at j)) (nat_eq (at k) (at j) && nat_lt k j) h) [
        | inl e ↦ inl (ltb-true (at k) (at j) e)
        | inr e ↦ (let both = and_parts (nat_eq (at k) (at j)) (nat_lt k j) e in inr (eqb-true (at k) (at j) both.0, ltb-true k j both.1))
      ]

  pub larger_of : (j k : ℕ) → (at k < at j) ⊎ ((at k ≡ at j) × (k < j)) → is_larger numer j k ≡ true
  larger_of j k (inl l) = rw (lt-ltb (at k) (at j) l) refl
  larger_of j k (inr same) = rw (le-ltb (at k) (at j) (omega (arith, same.0)), eq-eqb (at k) (at j) same.0, lt-ltb k j same.1) refl

  pub larger_means : (j k : ℕ) → is_larger numer j k ≡ true → at k ≤ at j
  larger_means j k h = elim (larger_is j k h) [ inl l ↦ omega arith | inr l ↦ omega (arith, l.0) ]

  pub not_itself : (k : ℕ) → is_larger numer k k ≡ false
  not_itself k = false_from_ne_true (is_larger numer k k)
      (λ h. elim (larger_is k k h) [ inl l ↦ omega arith | inr l ↦ omega (arith, l.1) ])

  pub larger_trans : (i j k : ℕ) → is_larger numer i j ≡ true → is_larger numer j k ≡ true → is_larger numer i k ≡ true
  larger_trans i j k g h =
      elim (larger_is i j g) [
        | inl l ↦ elim (larger_is j k h) [
          | inl m ↦ larger_of i k (inl (omega arith))
          | inr m ↦ larger_of i k (inl (omega (arith, m.0)))
        ]
        | inr l ↦ elim (larger_is j k h) [
          | inl m ↦ larger_of i k (inl (omega (arith, l.0)))
          | inr m ↦ larger_of i k (inr (omega (arith, l.0, m.0), omega (arith, l.1, m.1)))
        ]
      ]

  -- of two units one is the larger
  pub larger_total : (i j : ℕ) → i ≢ j → is_larger numer i j ≡ false → is_larger numer j i ≡ true
  larger_total i j ne h =
      let no : ((at j < at i) ⊎ ((at j ≡ at i) × (j < i))) → ⊥ =
      λ l. (let is : is_larger numer i j ≡ true = larger_of i j l in cc) in
      elim (cases_order (at i) (at j)) [
        | inl same ↦ elim (cases_order i j) [
          | inl e ↦ absurd (ne e)
          | inr l ↦ elim l [ inl m ↦ larger_of j i (inr (same, m)) | inr m ↦ absurd (no (inr (sym same, m))) ]
        ]
        | inr l ↦ elim l [ inl m ↦ larger_of j i (inl m) | inr m ↦ absurd (no (inl m)) ]
      ]

  -- ---- how many units are larger

  pub larger_units_are : (k : ℕ) → larger_units numer k ≡ counts (length numer) (λ j. is_larger numer j k)
  larger_units_are k = sum_by-range (length numer) (λ j. cond (is_larger numer j k) 1 0)

  -- than the larger of two, fewer units are
  pub fewer_larger : (i j : ℕ) → i < length numer → is_larger numer i j ≡ true → larger_units numer i < larger_units numer j
  fewer_larger i j l h =
      let fewer = sums_less (length numer) i (λ k. cond (is_larger numer k i) 1 0) (λ k. cond (is_larger numer k j) 1 0) l
      (λ k m. elim (cases_Bool (is_larger numer k i))
      [ inl e ↦ rw (e, larger_trans k i j e h) (omega arith) | inr e ↦ rw e (omega arith) ]) in
      omega (arith, fewer, weight_true h, weight_false (not_itself i), larger_units_are i, larger_units_are j)

  larger_within : (k : ℕ) → k < length numer → larger_units numer k < length numer
  larger_within k l =
      let fewer = sums_less (length numer) k (λ j. cond (is_larger numer j k) 1 0) (λ j. 1) l
      (λ j m. elim (cases_Bool (is_larger numer j k)) [ inl e ↦ rw e (omega arith) | inr e ↦ rw e (omega arith) ]) in
      omega (arith, fewer, weight_false (not_itself k), larger_units_are k, sums_constant (length numer) 1)

  -- no two have the same number
  one_rank : (i j : ℕ) → i < length numer → j < length numer → larger_units numer i ≡ larger_units numer j → i ≡ j
  one_rank i j l m same =
      elim (cases_eq i j) [
        | inl e ↦ e
        | inr ne ↦ elim (cases_Bool (is_larger numer i j)) [
          | inl e ↦ absurd (omega (arith, fewer_larger i j l e, same))
          | inr e ↦ absurd (omega (arith, fewer_larger j i m (larger_total i j ne e), same))
        ]
      ]

  -- so at most one has a given number
  at_most_one : (r n : ℕ) → n ≤ length numer → counts n (λ k. nat_eq (larger_units numer k) r) ≤ 1
  at_most_one r zero h = omega arith
  at_most_one r (suc n) h =
      elim (cases_Bool (nat_eq (larger_units numer n) r)) [
        | inr e ↦ rw e (omega (arith, at_most_one r n (omega arith)))
        | inl e ↦
            (let here : larger_units numer n ≡ r = eqb-true (larger_units numer n) r e in
            let none = sums-none n (λ k. cond (nat_eq (larger_units numer k) r) 1 0)
            (λ k l. elim (cases_Bool (nat_eq (larger_units numer k) r)) [
              | inr f ↦ rw f refl
              | inl f ↦ (let same : larger_units numer k ≡ larger_units numer n =
                  eqb-true (larger_units numer k) r f ∙ sym here in
                  absurd (omega (arith, one_rank k n (omega arith) (omega arith) same)))
            ]) in
            rw e (omega (arith, none)))
      ]

  abbrev below : ℕ → ℕ
  below r = counts (length numer) (λ k. nat_lt (larger_units numer k) r)

  one_more : (r n : ℕ) → counts n (λ k. nat_lt (larger_units numer k) (suc r))
      ≡ counts n (λ k. nat_lt (larger_units numer k) r) + counts n (λ k. nat_eq (larger_units numer k) r)
  one_more r zero = omega arith
  one_more r (suc n) =
      elim (cases_order (larger_units numer n) r) [
        | inl e ↦ rw (
          lt-ltb (larger_units numer n) (suc r) (omega arith),
          le-ltb (larger_units numer n) r (omega arith),
          eq-eqb (larger_units numer n) r e,
        )
            (omega (arith, one_more r n))
        | inr l ↦ elim l [
          | inl m ↦ rw (
            lt-ltb (larger_units numer n) (suc r) (omega arith),
            lt-ltb (larger_units numer n) r m,
            other (larger_units numer n) r (omega arith),
          ) (omega (arith, one_more r n))
          | inr m ↦ rw (
            le-ltb (larger_units numer n) (suc r) (omega arith),
            le-ltb (larger_units numer n) r (omega arith),
            other (larger_units numer n) r (omega arith),
          )
              (omega (arith, one_more r n))
        ]
      ]
    where
      other : (a b : ℕ) → a ≢ b → nat_eq a b ≡ false
      other a b ne = false_from_ne_true (nat_eq a b) (λ h. ne (eqb-true a b h))

  steps_up : (r d : ℕ) → below (r + d) ≤ below r + d
  steps_up r zero = let none : r + 0 ≡ r = omega arith in rw none (omega arith)
  steps_up r (suc d) =
      let next : r + suc d ≡ suc (r + d) = omega arith in
      rw next (omega (arith, one_more (r + d) (length numer), at_most_one (r + d) (length numer) (omega arith), steps_up r d))

  all_below : (n : ℕ) → n ≤ length numer → counts n (λ k. nat_lt (larger_units numer k) (length numer)) ≡ n
  all_below zero h = refl
  all_below (suc n) h = rw (lt-ltb (larger_units numer n) (length numer) (larger_within n (omega arith)))
      (omega (arith, all_below n (omega arith)))

  none_below : (n : ℕ) → counts n (λ k. nat_lt (larger_units numer k) 0) ≡ 0
  none_below zero = refl
  none_below (suc n) = rw (le-ltb (larger_units numer n) 0 (omega arith)) (omega (arith, none_below n))

  -- r units are among the r largest
  pub ranked : (r : ℕ) → r ≤ length numer → counts (length numer) (λ k. nat_lt (larger_units numer k) r) ≡ r
  ranked r h =
      let from_none : below (0 + r) ≤ below 0 + r = steps_up 0 r in
      let none : 0 + r ≡ r = omega arith in
      let to_all : below (r + (length numer - r)) ≤ below r + (length numer - r) = steps_up r (length numer - r) in
      let all : r + (length numer - r) ≡ length numer = omega arith in
      omega (arith, none_below (length numer), all_below (length numer) (omega arith), ap below none, ap below all)
