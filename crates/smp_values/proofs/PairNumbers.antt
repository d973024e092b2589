-- The numbers of a pair step: its weights keep the mean of both values.
use Rattle.std.proofs.Common.{◌≡◌, ℕ, ◌+◌, ◌-◌, ◌*◌, ◌<◌, ◌≤◌, min, false, nat_le, arith, refl, ap, ◌∙◌, inl, inr, ◌⊎◌}
use Rattle.std.proofs.lemmas.Bool.{cases_Bool, leb-true, leb-false}
use Rattle.smp_values.specs.{declared.pairs.TwoWeights.{TwoWeights}, Pairs.{pair_weights, pair_first, pair_second}, Values.{fractional}}
use Rattle.smp_values.proofs.Fractional.{fractional_den}

-- with den = p + q + r, a = r + p and b = q + r
wide_pair : (p q r : ℕ) → p * (p + q + r) + q * r ≡ (p + q) * (r + p)
wide_pair p q r = omega arith

wide_pair' : (p q r : ℕ) → p * r + q * (p + q + r) ≡ (p + q) * (q + r)
wide_pair' p q r = omega arith

-- what holds of the numbers of a pair step
pub record IsPair (a b den : ℕ) (w : TwoWeights) (first second : ℕ × ℕ) : Type 0 where
  pub heavy : (1 ≤ w.first) × (1 ≤ w.second)
  pub total : w.first + w.second ≤ 2 * den
  pub keeps_a : w.first * first.0 + w.second * second.0 ≡ (w.first + w.second) * a
  pub keeps_b : w.first * first.1 + w.second * second.1 ≡ (w.first + w.second) * b
  pub first_within : (first.0 ≤ den) × (first.1 ≤ den)
  pub second_within : (second.0 ≤ den) × (second.1 ≤ den)
  pub first_falls : (fractional den first.0 ≡ false) ⊎ (fractional den first.1 ≡ false)
  pub second_falls : (fractional den second.0 ≡ false) ⊎ (fractional den second.1 ≡ false)

small_pair : (a b den : ℕ) → 0 < a → 0 < b → a + b ≤ den → IsPair a b den (record { first = a; second = b }) (a + b, 0) (0, a + b)
small_pair a b den ha hb h = record {
  heavy = (omega arith, omega arith);
  total = omega arith;
  keeps_a = omega arith;
  keeps_b = omega arith;
  first_within = (h, omega arith);
  second_within = (omega arith, h);
  first_falls = inr refl;
  second_falls = inl refl;
}

large_pair : (a b den : ℕ) → a < den → b < den → den < a + b → IsPair a b den (record { first = den - b; second = den - a }) (den, a + b - den) (a + b - den, den)
large_pair a b den ha hb h =
    let p : ℕ = den - b in
    let q : ℕ = den - a in
    let r : ℕ = a + b - den in
    let d : den ≡ p + q + r = omega arith in
    let ea : r + p ≡ a = omega arith in
    let eb : q + r ≡ b = omega arith in
    record {
      heavy = (omega arith, omega arith);
      total = omega arith;
      keeps_a = ap (λ x. p * x + q * r) d ∙ wide_pair p q r ∙ ap (λ x. (p + q) * x) ea;
      keeps_b = ap (λ x. p * r + q * x) d ∙ wide_pair' p q r ∙ ap (λ x. (p + q) * x) eb;
      first_within = (omega arith, omega arith);
      second_within = (omega arith, omega arith);
      first_falls = inl (fractional_den den);
      second_falls = inr (fractional_den den);
    }

pub is_pair : (a b den : ℕ) → 0 < a → a < den → 0 < b → b < den → IsPair a b den (pair_weights a b den) (pair_first a b den) (pair_second a b den)
is_pair a b den a0 ad b0 bd =
    elim (cases_Bool (nat_le (a + b) den)) [
      | inl e ↦
          (let l : a + b ≤ den = leb-true (a + b) den e in
          let takes : min (a + b) den ≡ a + b = omega arith in
          let leaves : a + b - den ≡ 0 = omega arith in
          rw (e, takes, leaves) (small_pair a b den a0 b0 l))
      | inr e ↦
          (let l : den < a + b = leb-false (a + b) den e in
          let takes : min (a + b) den ≡ den = omega arith in
          rw (e, takes) (large_pair a b den ad bd l))
    ]
