-- Numbers that fall: how many of them are above a number.
use Rattle.std.proofs.Common.{◌≡◌, ℕ, zero, suc, ◌+◌, ◌-◌, ◌<◌, ◌≤◌, cond, nat_lt, nat_le, nat_eq, List, [], ◌∷◌, length, get_or, inl, inr, arith, refl}
use Rattle.std.specs.Prelude.{count_by}
use Rattle.std.proofs.lemmas.Bool.{cases_Bool, cases_eq, cases_lt, eq-eqb, ne_eqb, le-leb, lt-leb, ltb-true, ltb-false, lt-ltb, le-ltb}
use Rattle.std.proofs.lemmas.List.Sums.{sum_by-cons}
use Rattle.smp_prob.specs.Requested.{IsFalling}

none_above : (v : ℕ) (zs : List ℕ) → ((k : ℕ) → get_or zs k 0 ≤ v) → count_by (nat_lt v) zs ≡ 0
none_above v [] h = refl
none_above v (z ∷ zs) h = rw (sum_by-cons (λ (x : ℕ). cond (nat_lt v x) 1 0) z zs, le-ltb v z (h 0)) (omega (arith, none_above v zs (λ k. h (suc k))))

few_above : (v : ℕ) (zs : List ℕ) → IsFalling zs → (k : ℕ) → get_or zs k 0 ≤ v → count_by (nat_lt v) zs ≤ k
few_above v [] f k h = omega arith
few_above v (z ∷ zs) f zero h = rw (none_above v (z ∷ zs) (λ k. omega (arith, f 0 k (omega arith), h))) (omega arith)
few_above v (z ∷ zs) f (suc k) h =
    let rest : count_by (nat_lt v) zs ≤ k = few_above v zs (λ i j l. f (suc i) (suc j) (omega (arith, l))) k h in
    elim (cases_Bool (nat_lt v z)) [
      | inl e ↦ rw (sum_by-cons (λ (x : ℕ). cond (nat_lt v x) 1 0) z zs, e) (omega (arith, rest))
      | inr e ↦ rw (sum_by-cons (λ (x : ℕ). cond (nat_lt v x) 1 0) z zs, e) (omega (arith, rest))
    ]

many_above : (v : ℕ) (zs : List ℕ) → IsFalling zs → (k : ℕ) → v < get_or zs k 0 → k < count_by (nat_lt v) zs
many_above v [] f k h = absurd (omega (arith, h))
many_above v (z ∷ zs) f zero h = rw (sum_by-cons (λ (x : ℕ). cond (nat_lt v x) 1 0) z zs, lt-ltb v z h) (omega arith)
many_above v (z ∷ zs) f (suc k) h =
    let rest : k < count_by (nat_lt v) zs = many_above v zs (λ i j l. f (suc i) (suc j) (omega (arith, l))) k h in
    let first : v < z = omega (arith, f 0 (suc k) (omega arith), h) in
    rw (sum_by-cons (λ (x : ℕ). cond (nat_lt v x) 1 0) z zs, lt-ltb v z first) (omega (arith, rest))

-- the number at a place is at most v exactly where fewer numbers than come before it, or it, are above v
pub above : (v : ℕ) (zs : List ℕ) → IsFalling zs → (left : ℕ) → 1 ≤ left → nat_le (get_or zs (left - 1) 0) v ≡ nat_lt (count_by (nat_lt v) zs) left
above v zs f left some =
    elim (cases_Bool (nat_lt v (get_or zs (left - 1) 0))) [
      | inl e ↦ (let many = many_above v zs f (left - 1) (ltb-true v _ e) in rw (le-ltb (count_by (nat_lt v) zs) left (omega (arith, many, some))) (grind (arith, e)))
      | inr e ↦ (let few = few_above v zs f (left - 1) (ltb-false v _ e) in rw (lt-ltb (count_by (nat_lt v) zs) left (omega (arith, few, some))) (grind (arith, e)))
    ]

-- ---- the largest numbers, where no two are the same

many_from : (v : ℕ) (zs : List ℕ) → IsFalling zs → (k : ℕ) → k < length zs → v ≤ get_or zs k 0 → k < count_by (nat_le v) zs
many_from v [] f k l h = absurd (omega (arith, l))
many_from v (z ∷ zs) f zero l h = rw (sum_by-cons (λ (x : ℕ). cond (nat_le v x) 1 0) z zs, le-leb v z h) (omega arith)
many_from v (z ∷ zs) f (suc k) l h =
    let rest : k < count_by (nat_le v) zs = many_from v zs (λ i j m. f (suc i) (suc j) (omega (arith, m))) k (omega (arith, l)) h in
    let first : v ≤ z = omega (arith, f 0 (suc k) (omega arith), h) in
    rw (sum_by-cons (λ (x : ℕ). cond (nat_le v x) 1 0) z zs, le-leb v z first) (omega (arith, rest))

one_of_two : (v z : ℕ) → cond (nat_le v z) 1 0 ≡ cond (nat_lt v z) 1 0 + cond (nat_eq v z) 1 0
one_of_two v z =
    elim (cases_eq v z) [
      | inl e ↦ rw (eq-eqb v z e, le-leb v z (omega (arith, e)), le-ltb v z (omega (arith, e))) refl
      | inr d ↦ elim (cases_lt v z) [
        | inl l ↦ rw (ne_eqb v z d, le-leb v z (omega (arith, l)), lt-ltb v z l) refl
        | inr g ↦ rw (ne_eqb v z d, lt-leb v z (omega (arith, g, d)), le-ltb v z g) refl
      ]
    ]

from_split : (v : ℕ) (zs : List ℕ) → count_by (nat_le v) zs ≡ count_by (nat_lt v) zs + count_by (nat_eq v) zs
from_split v [] = refl
from_split v (z ∷ zs) =
    rw (sum_by-cons (λ (x : ℕ). cond (nat_le v x) 1 0) z zs, sum_by-cons (λ (x : ℕ). cond (nat_lt v x) 1 0) z zs, sum_by-cons (λ (x : ℕ). cond (nat_eq v x) 1 0) z zs)
    (omega (arith, one_of_two v z, from_split v zs))

-- from the number at a place on, there are as many as stand up to it
pub exactly : (zs : List ℕ) → IsFalling zs → ((v : ℕ) → count_by (nat_eq v) zs ≤ 1) → (left : ℕ) → 1 ≤ left → left ≤ length zs
    → count_by (nat_le (get_or zs (left - 1) 0)) zs ≡ left
exactly zs f once left some within =
    let v : ℕ = get_or zs (left - 1) 0 in
    omega (arith, some, many_from v zs f (left - 1) (omega (arith, some, within)) (omega arith), few_above v zs f (left - 1) (omega arith), from_split v zs, once v)
