-- The allocation does what its rule says.
use Rattle.std.proofs.Common.{◌≡◌, ◌⊎◌, ℕ, ◌+◌, ◌<◌, ◌≤◌, Bool, true, false, cond, nat_lt, ◌==◌, ◌&&◌, ◌||◌, List, length, get_or, inl, inr, arith, refl, sym, ap, ◌∙◌, true≢false}
use Rattle.std.specs.{Prelude.{sum}, List.{range_with_len}}
use Rattle.std.proofs.lemmas.Bool.{cases_Bool, cases_eq, cases_lt, ltb-true, ltb-false, lt-ltb, le-ltb, eq-eqb, ne_eqb}
use Rattle.std.proofs.{lemmas.List.FromFn.{get_or-map-range_with_len, length-map-range_with_len}, lemmas.List.Sums.{sum_by-le-sum_by}}
use Rattle.smp_strata.specs.Allocations.{remainder, whole, left_over, comes_before, rank, share, allocation, GetsMore, GetsWhole, IsAllocation}

-- k comes before h, by remainders
abbrev before : ℕ → ℕ → ℕ → ℕ → Bool
before mine h other k = nat_lt mine other || other == mine && nat_lt k h

is_before : (mine h other k : ℕ) → (mine < other) ⊎ ((other ≡ mine) × (k < h)) → before mine h other k ≡ true
is_before mine h other k (inl l) = rw (lt-ltb mine other l) refl
is_before mine h other k (inr e) =
    elim (cases_Bool (nat_lt mine other)) [
      | inl f ↦ rw f refl
      | inr f ↦ rw (f, eq-eqb other mine e.0, lt-ltb k h e.1) refl
    ]

says_before : (mine h other k : ℕ) → before mine h other k ≡ true → (mine < other) ⊎ ((other ≡ mine) × (k < h))
says_before mine h other k b =
    elim (cases_lt mine other) [
      | inl l ↦ inl l
      | inr ge ↦ elim (cases_eq other mine) [
        | inl same ↦ elim (cases_lt k h) [
          | inl l ↦ inr (same, l)
          | inr past ↦ absurd (true≢false (sym b ∙ rw (le-ltb mine other ge, eq-eqb other mine same, le-ltb k h past) refl))
        ]
        | inr differs ↦ absurd (true≢false (sym b ∙ rw (le-ltb mine other ge, ne_eqb other mine differs) refl))
      ]
    ]

-- what comes before k comes before h too, where h doesn't come before k
passes_on : (a h b k c x : ℕ) → before b k a h ≡ false → cond (before b k c x) 1 0 ≤ cond (before a h c x) 1 0
passes_on a h b k c x apart =
    elim (cases_Bool (before b k c x)) [
      | inr e ↦ rw e (omega arith)
      | inl e ↦ elim (cases_Bool (before a h c x)) [
        | inl f ↦ rw (e, f) (omega arith)
        | inr f ↦ absurd (elim (says_before b k c x e) [
          | inl l ↦ elim (cases_lt a c) [
            | inl m ↦ true≢false (sym (is_before a h c x (inl m)) ∙ f)
            | inr m ↦ true≢false (sym (is_before b k a h (inl (omega (arith, l, m)))) ∙ apart)
          ]
          | inr p ↦ elim (cases_lt a c) [
            | inl m ↦ true≢false (sym (is_before a h c x (inl m)) ∙ f)
            | inr m ↦ elim (cases_eq c a) [
              | inl same ↦ elim (cases_lt x h) [
                | inl n ↦ true≢false (sym (is_before a h c x (inr (same, n))) ∙ f)
                | inr n ↦ true≢false (sym (is_before b k a h (inr (sym same ∙ p.0, omega (arith, n, p.1)))) ∙ apart)
              ]
              | inr differs ↦ true≢false (sym (is_before b k a h (inl (omega (arith, m, differs, p.0)))) ∙ apart)
            ]
          ]
        ])
      ]
    ]

module _ (n : ℕ) (counts : List ℕ) where
  abbrev pub left_of : ℕ → ℕ
  left_of h = remainder n (sum counts) (get_or counts h 0)

  rank_le : (h k : ℕ) → comes_before n counts k h ≡ false → rank n counts k ≤ rank n counts h
  rank_le h k apart =
      sum_by-le-sum_by (λ x. cond (comes_before n counts k x) 1 0) (λ x. cond (comes_before n counts h x) 1 0) (range_with_len 0 (length counts))
      (λ x. passes_on (left_of h) h (left_of k) k (left_of x) x apart)

  size_at : (h : ℕ) → h < length counts → get_or (allocation n counts) h 0 ≡ share n counts h
  size_at h here = get_or-map-range_with_len (share n counts) 0 (length counts) h h 0 here (omega arith)

  pub paired : length (allocation n counts) ≡ length counts
  paired = length-map-range_with_len (share n counts) 0 (length counts)

  pub near : (h : ℕ) → h < length counts → GetsWhole n counts (allocation n counts) h ⊎ GetsMore n counts (allocation n counts) h
  near h here =
      elim (cases_Bool (nat_lt (rank n counts h) (left_over n counts))) [
        | inl e ↦ inr (size_at h here ∙ ap (λ b. whole n (sum counts) (get_or counts h 0) + cond b 1 0) e)
        | inr e ↦ inl (size_at h here ∙ ap (λ b. whole n (sum counts) (get_or counts h 0) + cond b 1 0) e ∙ omega arith)
      ]

  more_is : (h : ℕ) → h < length counts → GetsMore n counts (allocation n counts) h → rank n counts h < left_over n counts
  more_is h here more =
      elim (cases_Bool (nat_lt (rank n counts h) (left_over n counts))) [
        | inl e ↦ ltb-true _ _ e
        | inr e ↦ (let same : whole n (sum counts) (get_or counts h 0) + 0 ≡ whole n (sum counts) (get_or counts h 0) + 1 =
            sym (ap (λ b. whole n (sum counts) (get_or counts h 0) + cond b 1 0) e) ∙ sym (size_at h here) ∙ more in absurd (omega (arith, same)))
      ]

  whole_is : (h : ℕ) → h < length counts → GetsWhole n counts (allocation n counts) h → left_over n counts ≤ rank n counts h
  whole_is h here gets =
      elim (cases_Bool (nat_lt (rank n counts h) (left_over n counts))) [
        | inr e ↦ ltb-false _ _ e
        | inl e ↦ (let same : whole n (sum counts) (get_or counts h 0) + 1 ≡ whole n (sum counts) (get_or counts h 0) =
            sym (ap (λ b. whole n (sum counts) (get_or counts h 0) + cond b 1 0) e) ∙ sym (size_at h here) ∙ gets in absurd (omega (arith, same)))
      ]

  pub largest : (h k : ℕ) → h < length counts → k < length counts → GetsMore n counts (allocation n counts) h → GetsWhole n counts (allocation n counts) k
      → (left_of k < left_of h) ⊎ ((left_of h ≡ left_of k) × (h < k))
  largest h k here there more gets =
      elim (cases_Bool (comes_before n counts k h)) [
        | inl e ↦ says_before (left_of k) k (left_of h) h e
        | inr e ↦ absurd (omega (arith, rank_le h k e, more_is h here more, whole_is k there gets))
      ]

  pub by_rule : sum (allocation n counts) ≡ n → IsAllocation n counts (allocation n counts)
  by_rule given = record { paired = paired; near = near; largest = largest; given = given }
