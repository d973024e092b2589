-- Numerators over one denominator: those that are fractional, and those that are settled, at 0 or at the denominator.
use Rattle.std.proofs.Common.{◌≡◌, ◌≢◌, ℕ, suc, ◌+◌, ◌*◌, ◌<◌, ◌≤◌, Bool, true, false, cond, nat_eq, nat_lt, List, [], ◌∷◌, length, get_or, arith, refl, sym, ap, subst, inl, inr, ◌⊎◌}
use Rattle.std.specs.List.{sum, count_by}
use Rattle.std.proofs.lemmas.Bool.{and_cases, and_parts, and_right, eq-eqb, lt-ltb, ltb-true, ltb-false, le-ltb, ne_eqb}
use Rattle.std.proofs.lemmas.List.Sums.{sum_by-cons}
use Rattle.smp_values.specs.Values.{fractional}
use Rattle.smp_frac.specs.Fractions.{Same, whole, over}
use Rattle.smp_frac.proofs.{Arithmetic.{cancel}, Over.{over_zero, over_one}}

pub fractional_is : (den a : ℕ) → fractional den a ≡ true → (0 < a) × (a < den)
fractional_is den a h =
    let parts = and_parts (nat_lt 0 a) (nat_lt a den) h in
    (ltb-true 0 a parts.0, ltb-true a den parts.1)

pub is_fractional-between : (den a : ℕ) → 0 < a → a < den → fractional den a ≡ true
is_fractional-between den a some less = rw (lt-ltb 0 a some, lt-ltb a den less) refl

abbrev pub IsSettled : ℕ → ℕ → Type 0
IsSettled den a = (a ≡ 0) ⊎ (a ≡ den)

pub fractional_den : (den : ℕ) → fractional den den ≡ false
fractional_den den = and_right (nat_lt 0 den) (nat_lt den den) (le-ltb den den (omega arith))

pub not_fractional : (den a : ℕ) → a ≤ den → fractional den a ≡ false → IsSettled den a
not_fractional den a le h =
    elim (and_cases (nat_lt 0 a) (nat_lt a den) h) [ inl e ↦ inl (omega (arith, ltb-false 0 a e)) | inr e ↦ inr (omega (arith, ltb-false a den e)) ]

-- its value is 1 or 0
pub over_settled : (den a : ℕ) → 1 ≤ den → IsSettled den a → Same (over a den) (whole (cond (nat_eq a den) 1 0))
over_settled den a one settled =
    let at : (b : Bool) → nat_eq a den ≡ b → Same (over a den) (whole (cond b 1 0)) → Same (over a den) (whole (cond (nat_eq a den) 1 0)) =
    λ b e. subst (λ (x : Bool). Same (over a den) (whole (cond x 1 0))) (sym e) in
    elim settled [
      | inl zero ↦ (let other : a ≢ den = omega arith in at _ (ne_eqb a den other) (subst (λ (m : ℕ). Same (over m den) (whole 0)) (sym zero) (over_zero den)))
      | inr all ↦ at _ (eq-eqb a den all) (subst (λ (m : ℕ). Same (over m den) (whole 1)) (sym all) (over_one den one))
    ]

one_settled : (den a : ℕ) → 1 ≤ den → IsSettled den a → a ≡ den * cond (nat_eq a den) 1 0
one_settled den a one settled =
    elim settled [
      | inl zero ↦ (let other : a ≢ den = omega arith in rw (ne_eqb a den other) (omega arith))
      | inr all ↦ rw (eq-eqb a den all) (omega arith)
    ]

pub settled_sum : (den : ℕ) (xs : List ℕ) → 1 ≤ den → ((k : ℕ) → k < length xs → IsSettled den (get_or xs k 0)) → sum xs ≡ den * count_by (λ a. nat_eq a den) xs
settled_sum den [] one all = omega arith
settled_sum den (x ∷ xs) one all =
    let here : x ≡ den * cond (nat_eq x den) 1 0 = one_settled den x one (all 0 (omega arith)) in
    let rest : sum xs ≡ den * count_by (λ a. nat_eq a den) xs = settled_sum den xs one (λ k l. all (suc k) (omega arith)) in
    let total : sum (x ∷ xs) ≡ x + sum xs = sum_by-cons (λ a. a) x xs in
    let count : count_by (λ a. nat_eq a den) (x ∷ xs) ≡ cond (nat_eq x den) 1 0 + count_by (λ a. nat_eq a den) xs = sum_by-cons (λ a. cond (nat_eq a den) 1 0) x xs in
    omega (arith, ap (λ n. den * n) count)

-- as many are at 1 as the values add up to
pub settled_count : (den n : ℕ) (xs : List ℕ) → 1 ≤ den → ((k : ℕ) → k < length xs → IsSettled den (get_or xs k 0)) → sum xs ≡ n * den → count_by (λ a. nat_eq a den) xs ≡ n
settled_count den n xs one all total = cancel (count_by (λ a. nat_eq a den) xs) n den one (omega (arith, settled_sum den xs one all))
