-- Fractions as numerators over a multiple of their denominators, and what the tests on them pick.
use Rattle.std.proofs.Common.{◌≡◌, ℕ, suc, ◌+◌, ◌*◌, ◌/◌, ◌<◌, ◌≤◌, Bool, not, nat_lt, ◌&&◌, List, [], ◌∷◌, map, arith, refl, ap, inl, inr}
use Rattle.std.specs.Prelude.{filter, All}
use Rattle.std.proofs.lemmas.Bool.{cases_Bool, cases_eq, cases_lt, lt-ltb, le-ltb, eq-eqb, ne_eqb}
use Rattle.std.proofs.Math.Nat.{div-mul_cancel, div-mul-le_self, mul-le-mul_right, mul-lt-mul_of_pos_right}
use Prim.Native.Nat.{◌∣◌}
use Rattle.smp_frac.specs.{Fractions.{Same, over}, declared.fractions.Frac.{Frac}, Exact.{fraction}, Laws.Coprime.{part_positive}}
use Rattle.smp_frac.proofs.Over.{over_from_cross}
use Rattle.smp_prob.specs.{Requested.{places}, Given.{is_certain, is_free, numerator_over}}

-- a numerator is at most the multiple
pub numerator_within : (multiple : ℕ) (p : Frac) → p.num ≤ p.den → numerator_over multiple p ≤ multiple
numerator_within multiple p most =
    let grows : p.num * (multiple / p.den) ≤ p.den * (multiple / p.den) = mul-le-mul_right (multiple / p.den) most in
    omega (arith, grows, div-mul-le_self multiple p.den)

module _ (multiple : ℕ) (p : Frac) (divides : p.den ∣ multiple) where
  quotient_is : multiple / p.den * p.den ≡ multiple
  quotient_is = div-mul_cancel p.den divides

  -- numerator / multiple is the fraction
  numerator-cross : p.num * multiple ≡ numerator_over multiple p * p.den
  numerator-cross = omega (arith, ap (λ x. p.num * x) quotient_is)

  module _ (some : 1 ≤ multiple) where
    pub fraction_is_over : Same (fraction p) (over (numerator_over multiple p) multiple)
    fraction_is_over = over_from_cross p.num (numerator_over multiple p) multiple p.den p.positive some numerator-cross

    quotient_positive : 1 ≤ multiple / p.den
    quotient_positive = part_positive multiple p.den some divides

    below_one : p.num < p.den → numerator_over multiple p < multiple
    below_one below =
        let less : p.num * (multiple / p.den) < p.den * (multiple / p.den) = mul-lt-mul_of_pos_right below quotient_positive in
        omega (arith, less, quotient_is)

    above_zero : 0 < p.num → 0 < numerator_over multiple p
    above_zero above =
        let less : 0 * (multiple / p.den) < p.num * (multiple / p.den) = mul-lt-mul_of_pos_right above quotient_positive in
        omega (arith, less)

    -- a numerator of the whole multiple is that of a certain unit, and one between is that of a free one
    pub certain_over : p.num ≤ p.den → not (nat_lt (numerator_over multiple p) multiple) ≡ is_certain p
    certain_over most =
        elim (cases_lt p.num p.den) [
          | inl below ↦
              (let differs : p.num ≡ p.den → ⊥ = λ e. omega (arith, e, below) in
              rw (lt-ltb (numerator_over multiple p) multiple (below_one below), ne_eqb p.num p.den differs) refl)
          | inr from ↦
              (let same : p.num ≡ p.den = omega (arith, most, from) in
              let all : multiple ≤ numerator_over multiple p = omega (arith, quotient_is, ap (λ x. x * (multiple / p.den)) same) in
              rw (le-ltb (numerator_over multiple p) multiple all, eq-eqb p.num p.den same) refl)
        ]

    pub free_over : p.num ≤ p.den → (nat_lt 0 (numerator_over multiple p) && nat_lt (numerator_over multiple p) multiple) ≡ is_free p
    free_over most =
        elim (cases_eq p.num 0) [
          | inl none ↦
              (let nothing : numerator_over multiple p ≤ 0 = omega (arith, ap (λ x. x * (multiple / p.den)) none) in
              rw (le-ltb 0 p.num (omega (arith, none)), le-ltb 0 (numerator_over multiple p) nothing) refl)
          | inr more ↦
              (let above : 0 < p.num = omega (arith, more) in
              rw (lt-ltb 0 p.num above, lt-ltb 0 (numerator_over multiple p) (above_zero above)) (elim (cases_lt p.num p.den) [
                | inl below ↦ rw (lt-ltb p.num p.den below, lt-ltb (numerator_over multiple p) multiple (below_one below)) refl
                | inr from ↦
                    (let same : p.num ≡ p.den = omega (arith, most, from) in
                    let all : multiple ≤ numerator_over multiple p = omega (arith, quotient_is, ap (λ x. x * (multiple / p.den)) same) in
                    rw (le-ltb p.num p.den from, le-ltb (numerator_over multiple p) multiple all) refl)
              ]))
        ]

-- ---- what a test picks of numbers that stand for other things

module _ {A : Type 0} (f : A → ℕ) (test : ℕ → Bool) (own : A → Bool) where
  pub places-map : (place : ℕ) (xs : List A) → All (λ x. test (f x) ≡ own x) xs → places test place (map f xs) ≡ places own place xs
  places-map place [] all = refl
  places-map place (x ∷ xs) all =
      rw (all 0 x (omega arith), places-map (place + 1) xs (λ i d here. all (suc i) d (omega (arith, here)))) refl

  pub filter-map : (xs : List A) → All (λ x. test (f x) ≡ own x) xs → filter test (map f xs) ≡ map f (filter own xs)
  filter-map [] all = refl
  filter-map (x ∷ xs) all =
      let rest = filter-map xs (λ i d here. all (suc i) d (omega (arith, here))) in
      elim (cases_Bool (own x)) [
        | inl e ↦ rw (all 0 x (omega arith), e, rest) refl
        | inr e ↦ rw (all 0 x (omega arith), e, rest) refl
      ]
