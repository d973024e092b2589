-- The greatest number that divides both is what each number that divides both divides.
use Rattle.std.proofs.Common.{◌≡◌, ℕ, zero, suc, ◌+◌, ◌%◌, ◌<◌, ◌≤◌, max, true, arith, refl, sym, subst}
use Rattle.std.proofs.Common.{◌∙◌, inl, inr}
use Rattle.std.proofs.lemmas.Bool.{cases_Bool, cases_eq, and_from, and_parts, eq-eqb, eqb-true, true≢false}
use Rattle.std.proofs.Math.Nat.{eq-zero_of_zero-dvd}
use Prim.Native.Nat.{◌∣◌}
use Rattle.std.proofs.lemmas.Nat.Gcd.{IsGcd-from_zero, IsGcd-from_mod, same_from_IsGcd, le_from_IsGcd, le_of_dvd, dvd_of_mod-eq-zero}
use Rattle.std.proofs.lemmas.Nat.Gcd.{mod-eq-zero_of_dvd}
use Rattle.std.proofs.lemmas.Nat.{mod_below}
use Rattle.std.specs.Int.{IsGcd}
use Rattle.smp_frac.specs.Divisors.{divides_both, greatest_up_to, greatest_common_divisor}

-- some number has the property, as Euclid finds it: b is at most the number of steps
some_gcd : (steps a b : ℕ) → b ≤ steps → (g : ℕ) × IsGcd a b g
some_gcd zero a b h = (a, IsGcd-from_zero a b (omega (arith, h)))
some_gcd (suc steps) a b h =
    elim (cases_eq b 0) [
      | inl e ↦ (a, IsGcd-from_zero a b e)
      | inr n ↦
          (let found = some_gcd steps b (a % b) (omega (arith, h, mod_below a b (omega (arith, n)))) in
          (found.0, IsGcd-from_mod a b found.0 found.1))
    ]

-- a number that divides both passes the test, and the other way round
divides_both-true : (a b d : ℕ) → d ∣ a → d ∣ b → divides_both a b d ≡ true
divides_both-true a b d p q =
    and_from _ _ (eq-eqb (a % d) 0 (mod-eq-zero_of_dvd d p)) (eq-eqb (b % d) 0 (mod-eq-zero_of_dvd d q))

dvd_from_divides_both : (a b d : ℕ) → divides_both a b d ≡ true → (d ∣ a) × (d ∣ b)
dvd_from_divides_both a b d e =
    let parts = and_parts _ _ e in
    (dvd_of_mod-eq-zero d (eqb-true (a % d) 0 parts.0), dvd_of_mod-eq-zero d (eqb-true (b % d) 0 parts.1))

-- the search from the last number downwards stops at the greatest common divisor
greatest_up_to-IsGcd : (a b g last : ℕ) → IsGcd a b g → 0 < g → g ≤ last → g ≡ greatest_up_to a b last
greatest_up_to-IsGcd a b g zero h some le = omega (arith, le, some)
greatest_up_to-IsGcd a b g (suc n) h some le =
    elim (cases_Bool (divides_both a b (suc n))) [
      | inl e ↦
          (let parts = dvd_from_divides_both a b (suc n) e in
          let above : suc n ≤ g = le_from_IsGcd a b g (suc n) h some parts.0 parts.1 in
          rw e (omega (arith, above, le)))
      | inr e ↦
          (let other : g ≡ suc n → ⊥ = λ same. true≢false
          (sym (divides_both-true a b (suc n) (subst (λ (d : ℕ). d ∣ a) same h.0)
          (subst (λ (d : ℕ). d ∣ b) same h.1)) ∙ e) in
          rw e (greatest_up_to-IsGcd a b g n h some (omega (arith, le, other))))
    ]

-- it is at most the larger number
le_max_from_IsGcd : (a b g : ℕ) → IsGcd a b g → 0 < a + b → g ≤ max a b
le_max_from_IsGcd a b g h some =
    elim (cases_eq a 0) [
      | inl e ↦ (let le : g ≤ b = le_of_dvd (omega (arith, e, some)) h.1 in omega arith)
      | inr n ↦ (let le : g ≤ a = le_of_dvd (omega (arith, n)) h.0 in omega arith)
    ]

pub greatest_from_IsGcd : (a b g : ℕ) → IsGcd a b g → g ≡ greatest_common_divisor a b
unfolding greatest_common_divisor
greatest_from_IsGcd a b zero h =
    let a_none : a ≡ 0 = eq-zero_of_zero-dvd h.0 in
    let b_none : b ≡ 0 = eq-zero_of_zero-dvd h.1 in
    rw (a_none, b_none) refl
greatest_from_IsGcd a b (suc g) h =
    elim (cases_eq (a + b) 0) [
      | inl e ↦
          (let none : suc g ≡ a = same_from_IsGcd a b (suc g) a h (IsGcd-from_zero a b (omega (arith, e))) in
          absurd (omega (arith, none, e)))
      | inr n ↦ greatest_up_to-IsGcd a b (suc g) (max a b) h (omega arith) (le_max_from_IsGcd a b (suc g) h (omega (arith, n)))
    ]

pub IsGcd-greatest_common_divisor : (a b : ℕ) → IsGcd a b (greatest_common_divisor a b)
IsGcd-greatest_common_divisor a b =
    let found = some_gcd b a b (omega arith) in
    subst (λ (g : ℕ). IsGcd a b g) (greatest_from_IsGcd a b found.0 found.1) found.1
