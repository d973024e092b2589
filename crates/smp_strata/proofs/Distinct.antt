-- No two strata have the same key.
use Rattle.std.proofs.Common.{◌≡◌, ◌≢◌, ℕ, zero, suc, ◌+◌, ◌-◌, ◌*◌, ◌<◌, ◌≤◌, cond, nat_eq, List, length, map, get_or, inl, inr, arith, refl, sym, ◌∙◌}
use Rattle.std.specs.{Prelude.{count_by}, List.{range_with_len}}
use Rattle.std.proofs.{lemmas.Bool.{cases_eq, eq-eqb, ne_eqb}, lemmas.List.Sums.{sum_by-cons}}
use Rattle.smp_strata.specs.{Allocations.{remainder}, Kept.Keys.{key, keys}}

none_equal : (f : ℕ → ℕ) (v a m : ℕ) → ((k : ℕ) → a ≤ k → k < a + m → v ≢ f k) → count_by (nat_eq v) (map f (range_with_len a m)) ≡ 0
none_equal f v a zero h = refl
none_equal f v a (suc m) h =
    rw (sum_by-cons (λ (x : ℕ). cond (nat_eq v x) 1 0) (f a) (map f (range_with_len (a + 1) m)), ne_eqb v (f a) (h a (omega arith) (omega arith)))
    (omega (arith, none_equal f v (a + 1) m (λ k l u. h k (omega (arith, l)) (omega (arith, u)))))

at_most_one : (f : ℕ → ℕ) (v a m : ℕ) → ((j k : ℕ) → j < a + m → k < a + m → f j ≡ f k → j ≡ k) → count_by (nat_eq v) (map f (range_with_len a m)) ≤ 1
at_most_one f v a zero h = omega arith
at_most_one f v a (suc m) h =
    elim (cases_eq v (f a)) [
      | inl e ↦
          (let rest : count_by (nat_eq v) (map f (range_with_len (a + 1) m)) ≡ 0 =
          none_equal f v (a + 1) m (λ k l u same. omega (arith, l, h a k (omega arith) (omega (arith, u)) (sym e ∙ same))) in
          rw (sum_by-cons (λ (x : ℕ). cond (nat_eq v x) 1 0) (f a) (map f (range_with_len (a + 1) m)), eq-eqb v (f a) e) (omega (arith, rest)))
      | inr d ↦
          (let rest = at_most_one f v (a + 1) m (λ j k l u. h j k (omega (arith, l)) (omega (arith, u))) in
          rw (sum_by-cons (λ (x : ℕ). cond (nat_eq v x) 1 0) (f a) (map f (range_with_len (a + 1) m)), ne_eqb v (f a) d) (omega (arith, rest)))
    ]

key_of_one : (r s j k : ℕ) → j < 200000 → k < 200000 → r * 200000 + (199999 - j) ≡ s * 200000 + (199999 - k) → j ≡ k
key_of_one r s j k l u e = omega (arith, l, u, e)

pub once : (n all : ℕ) (counts : List ℕ) → length counts ≤ 200000 → (v : ℕ) → count_by (nat_eq v) (keys n all counts) ≤ 1
once n all counts few v =
    at_most_one (λ h. key n all (get_or counts h 0) h) v 0 (length counts)
    (λ j k l u e. key_of_one (remainder n all (get_or counts j 0)) (remainder n all (get_or counts k 0)) j k (omega (arith, few, l)) (omega (arith, few, u)) e)
