-- The rank of a stratum, by the keys.
use Rattle.std.proofs.Common.{◌≡◌, ℕ, zero, suc, ◌+◌, ◌-◌, ◌*◌, ◌<◌, ◌≤◌, Bool, cond, nat_lt, nat_le, ◌==◌, ◌&&◌, ◌||◌, List, length, map, get_or, inl, inr, arith, refl, ◌∙◌, ◌^◌}
use Rattle.std.specs.{Prelude.{count_by, sum}, List.{range_with_len}}
use Rattle.std.proofs.lemmas.Bool.{cases_Bool, ltb-true, ltb-false, lt-ltb, le-ltb, eq-eqb, ne_eqb, cases_eq}
use Rattle.std.proofs.lemmas.List.Sums.{sum_by-cons}
use Rattle.smp_strata.specs.{Allocations.{remainder, comes_before, rank, whole, left_over, share}, Kept.Keys.{key, keys}}

same_count : (p : ℕ → Bool) (f : ℕ → ℕ) (test : ℕ → Bool) (a m : ℕ) → ((k : ℕ) → k < a + m → p (f k) ≡ test k)
    → count_by p (map f (range_with_len a m)) ≡ count_by test (range_with_len a m)
same_count p f test a zero h = refl
same_count p f test a (suc m) h =
    rw (sum_by-cons (λ (x : ℕ). cond (p x) 1 0) (f a) (map f (range_with_len (a + 1) m)), sum_by-cons (λ (x : ℕ). cond (test x) 1 0) a (range_with_len (a + 1) m), h a (omega arith), same_count p f test (a + 1) m (λ k l. h k (omega (arith, l)))) refl

-- keys fall as strata come later among those that get one more
key_order : (mine other h k : ℕ) → h < 200000 → k < 200000
    → nat_lt (mine * 200000 + (199999 - h)) (other * 200000 + (199999 - k)) ≡ (nat_lt mine other || other == mine && nat_lt k h)
key_order mine other h k small less =
    elim (cases_Bool (nat_lt mine other)) [
      | inl e ↦ (let l = ltb-true mine other e in rw e (lt-ltb _ _ (omega (arith, l, small, less))))
      | inr e ↦ (let m = ltb-false mine other e in
          elim (cases_eq other mine) [
            | inl same ↦ elim (cases_Bool (nat_lt k h)) [
              | inl e2 ↦ (let l2 = ltb-true k h e2 in rw (e, eq-eqb other mine same, e2) (lt-ltb _ _ (omega (arith, l2, same, small, less))))
              | inr e2 ↦ (let l2 = ltb-false k h e2 in rw (e, eq-eqb other mine same, e2) (le-ltb _ _ (omega (arith, l2, same, small, less))))
            ]
            | inr differs ↦ rw (e, ne_eqb other mine differs) (le-ltb _ _ (omega (arith, m, differs, small, less)))
          ])
    ]

pub key_rank : (n : ℕ) (counts : List ℕ) (h : ℕ) → length counts ≤ 200000 → h < length counts
    → count_by (nat_lt (key n (sum counts) (get_or counts h 0) h)) (keys n (sum counts) counts) ≡ rank n counts h
key_rank n counts h few here =
    same_count _ (λ k. key n (sum counts) (get_or counts k 0) k) (comes_before n counts h) 0 (length counts)
    (λ k l. key_order (remainder n (sum counts) (get_or counts h 0)) (remainder n (sum counts) (get_or counts k 0)) h k (omega (arith, few, here)) (omega (arith, few, l)))

-- what a stratum gets, by its key and the border
pub share_is : (n : ℕ) (counts : List ℕ) (h all v border left : ℕ) (ks : List ℕ) → length counts ≤ 200000 → h < length counts → all ≡ sum counts
    → v ≡ key n all (get_or counts h 0) h → v < 2 ^ 40 → ks ≡ keys n all counts → left ≡ left_over n counts
    → ((v : ℕ) → v < 2 ^ 40 → nat_le border v ≡ nat_lt (count_by (nat_lt v) ks) left)
    → whole n all (get_or counts h 0) + cond (nat_le border v) 1 0 ≡ share n counts h
share_is n counts h all v border left ks few here all_is v_is small ks_is left_is b =
    let test : nat_le border v ≡ nat_lt (rank n counts h) (left_over n counts) =
    b v small ∙ rw (v_is, ks_is, all_is, left_is, key_rank n counts h few here) refl in
    rw (all_is, test) refl
