-- Values that add up to a whole number: one fractional unit alone has none, and the settled ones count the selected units.
use Rattle.std.proofs.Common.{◌≡◌, ℕ, suc, ◌+◌, ◌*◌, ◌<◌, ◌≤◌, true, false, cond, nat_eq, List, [], ◌∷◌, length, get_or, set, arith, refl, ap, inl, inr}
use Rattle.std.specs.List.{sum, sum_by, count_by}
use Rattle.std.proofs.{Math.Nat.{mul-le-mul_right}, lemmas.Bool.{cases_Bool, cases_eq, cases_lt, eq-eqb, ne_eqb}}
use Rattle.std.proofs.{lemmas.List.{get_or-set_same, get_or-set_other}, lemmas.List.Sums.{sum_by-set, sum_by-cons}}
use Rattle.smp_prob.specs.Shares.{Shares}
use Rattle.smp_values.specs.Values.{AddTo, IsValues, fractional, is_fractional, fractional_count}
use Rattle.smp_values.proofs.{Fractional.{fractional_is, not_fractional}, Units.{fractional_within, only_one}}

-- the sum, apart from the fractional units
abbrev pub part_of : ℕ → ℕ → ℕ
part_of den a = cond (fractional den a) a 0

one_apart : (den a : ℕ) → 1 ≤ den → a ≤ den → a ≡ den * cond (nat_eq a den) 1 0 + part_of den a
one_apart den a p le =
    elim (cases_Bool (fractional den a)) [
      | inl f ↦ (let in_between = fractional_is den a f in let below : a < den = in_between.1 in let n : nat_eq a den ≡ false = ne_eqb a den (omega arith) in rw (f, n) (omega arith))
      | inr f ↦ elim (not_fractional den a le f) [
        | inl z ↦ (let n : nat_eq a den ≡ false = ne_eqb a den (omega arith) in rw (f, n) (omega arith))
        | inr d ↦ (let e : nat_eq a den ≡ true = eq-eqb a den d in rw (f, e) (omega arith))
      ]
    ]

apart : (den : ℕ) (xs : List ℕ) → 1 ≤ den → ((k : ℕ) → get_or xs k 0 ≤ den) → sum xs ≡ den * count_by (λ a. nat_eq a den) xs + sum_by (part_of den) xs
apart den [] p all = omega arith
apart den (x ∷ xs) p all =
    let here : x ≡ den * cond (nat_eq x den) 1 0 + part_of den x = one_apart den x p (all 0) in
    let rest : sum xs ≡ den * count_by (λ a. nat_eq a den) xs + sum_by (part_of den) xs = apart den xs p (λ k. all (suc k)) in
    let t : sum (x ∷ xs) ≡ x + sum xs = sum_by-cons (λ a. a) x xs in
    let c : count_by (λ a. nat_eq a den) (x ∷ xs) ≡ cond (nat_eq x den) 1 0 + count_by (λ a. nat_eq a den) xs = sum_by-cons (λ a. cond (nat_eq a den) 1 0) x xs in
    let s : sum_by (part_of den) (x ∷ xs) ≡ part_of den x + sum_by (part_of den) xs = sum_by-cons (part_of den) x xs in
    omega (arith, ap (λ n. den * n) c)

no_parts : (den : ℕ) (xs : List ℕ) → ((k : ℕ) → k < length xs → fractional den (get_or xs k 0) ≡ false) → sum_by (part_of den) xs ≡ 0
no_parts den [] none = refl
no_parts den (x ∷ xs) none =
    let s : sum_by (part_of den) (x ∷ xs) ≡ part_of den x + sum_by (part_of den) xs = sum_by-cons (part_of den) x xs in
    let here : part_of den x ≡ 0 = rw (none 0 (omega arith)) refl in
    omega (arith, no_parts den xs (λ k l. none (suc k) (omega arith)))

no_whole : (n c a den : ℕ) → 0 < a → a < den → n * den ≡ den * c + a → ⊥
no_whole n c a den p q h =
    elim (cases_lt c n) [
      | inl l ↦ (let m : (c + 1) * den ≤ n * den = mul-le-mul_right den (let k : c + 1 ≤ n = omega arith in k) in omega arith)
      | inr l ↦ (let m : n * den ≤ c * den = mul-le-mul_right den l in omega arith)
    ]

-- one unit that alone is fractional has no whole sum
pub lone_never : (units most n : ℕ) (s : Shares) → IsValues units most s → (i : ℕ) → is_fractional s i ≡ true → fractional_count s ≤ 1 → AddTo n s → ⊥
lone_never units most n s ok i i_open few adds =
    let here : i < length s.numer = fractional_within s i i_open in
    let in_between = fractional_is s.den (get_or s.numer i 0) i_open in
    let others : (k : ℕ) → k < length (set s.numer i 0) → fractional s.den (get_or (set s.numer i 0) k 0) ≡ false =
    λ k h. (elim (cases_eq k i) [
      | inl e ↦ rw (e, get_or-set_same s.numer i 0 0 here) refl
      | inr ne ↦ rw (get_or-set_other s.numer i k 0 0 ne) (only_one s i k few i_open ne)
    ]) in
    let zero_rest : sum_by (part_of s.den) (set s.numer i 0) ≡ 0 = no_parts s.den (set s.numer i 0) others in
    let changed : sum_by (part_of s.den) (set s.numer i 0) + part_of s.den (get_or s.numer i 0) ≡ sum_by (part_of s.den) s.numer + part_of s.den 0 = sum_by-set (part_of s.den) s.numer i 0 0 here in
    let alone : part_of s.den (get_or s.numer i 0) ≡ get_or s.numer i 0 = rw i_open refl in
    let parts : sum s.numer ≡ s.den * count_by (λ b. nat_eq b s.den) s.numer + sum_by (part_of s.den) s.numer = apart s.den s.numer ok.positive ok.each in
    no_whole n (count_by (λ b. nat_eq b s.den) s.numer) (get_or s.numer i 0) s.den in_between.0 in_between.1 (omega arith)
