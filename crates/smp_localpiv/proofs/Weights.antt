-- The weights of units in a choice, and the fractional unit at a place among them.
use Rattle.std.proofs.Common.{◌≡◌, ℕ, zero, suc, ◌+◌, ◌<◌, ◌≤◌, true, false, cond, List, [], ◌∷◌, length, map, replicate, get_or, set, refl, sym, ap, ◌∙◌, arith, inl, inr}
use Rattle.std.specs.List.{sum}
use Rattle.std.proofs.{Math.Seq.{map-set_same}, lemmas.Bool.{cases_Bool}, lemmas.List.{get_or-map, length-map, map-set}}
use Rattle.std.proofs.lemmas.List.Sums.{sum-map}
use Rattle.smp_places.specs.Amounts.{sum_before}
use Rattle.smp_places.proofs.Summing.{before_more, before_none}
use Rattle.smp_prob.specs.Shares.{Shares}
use Rattle.smp_values.specs.Values.{fractional, fractional_at, fractional_count, is_fractional, with_one}
use Rattle.smp_values.proofs.Units.{count_before, count_before_more, fractional_at-before}
use Rattle.smp_localpiv.specs.Kept.States.{weights_of}

-- values that are all fractional have the weight 1 each
pub all_ones : (den : ℕ) (xs : List ℕ) → ((k : ℕ) → k < length xs → fractional den (get_or xs k 0) ≡ true) → replicate {A = ℕ} (length xs) 1 ≡ map (λ a. cond (fractional den a) 1 0) xs
all_ones den [] all = refl
all_ones den (x ∷ xs) all = rw (all 0 (omega arith)) (ap (λ (rest : List ℕ). 1 ∷ rest) (all_ones den xs (λ k h. all (suc k) (omega arith))))

module _ (s : Shares) where
  -- they add up to the number of the fractional units
  pub weights_sum : sum (weights_of s) ≡ fractional_count s
  weights_sum = sum-map (λ a. cond (fractional s.den a) 1 0) s.numer

  weight_at : (unit : ℕ) → unit < length s.numer → get_or (weights_of s) unit 0 ≡ cond (is_fractional s unit) 1 0
  weight_at unit here = get_or-map (λ a. cond (fractional s.den a) 1 0) s.numer unit 0 0 here

  -- those before a unit, to the number of the fractional units before it
  weights_before : (unit : ℕ) → unit ≤ length s.numer → sum_before (weights_of s) unit ≡ count_before s unit
  weights_before zero here = before_none (weights_of s)
  weights_before (suc unit) here =
      let next : suc unit ≡ unit + 1 = omega arith in
      let rest = weights_before unit (omega arith) in
      rw next (omega (arith, before_more (weights_of s) unit, count_before_more s unit (omega arith), weight_at unit (omega arith), rest))

  -- where the weights up to a unit pass a place, the unit stands at that place
  module _ (place unit : ℕ) (here : unit < length (weights_of s)) (from : sum_before (weights_of s) unit ≤ place) (passes : place < sum_before (weights_of s) unit + get_or (weights_of s) unit 0) where
    within : unit < length s.numer
    within = omega (arith, here, length-map {B = ℕ} s.numer (λ a. cond (fractional s.den a) 1 0))

    pub found_open : is_fractional s unit ≡ true
    found_open =
        elim (cases_Bool (is_fractional s unit)) [
          | inl e ↦ e
          | inr e ↦ absurd (let none : get_or (weights_of s) unit 0 ≡ 0 = weight_at unit within ∙ ap (λ b. cond b 1 0) e in omega arith)
        ]

    pub found_is : unit ≡ fractional_at s place
    found_is =
        let one : get_or (weights_of s) unit 0 ≡ 1 = weight_at unit within ∙ ap (λ b. cond b 1 0) found_open in
        let count : count_before s unit ≡ place = omega (arith, weights_before unit (omega (arith, within)), one) in
        sym (fractional_at-before s unit found_open) ∙ ap (fractional_at s) count

-- ---- another value of a unit

module _ (s : Shares) (unit x : ℕ) where
  -- a unit that is settled loses its weight
  pub weights_settled : fractional s.den x ≡ false → set (weights_of s) unit 0 ≡ weights_of (with_one s unit x)
  weights_settled settled =
      let f : ℕ → ℕ = λ a. cond (fractional s.den a) 1 0 in
      let none : f x ≡ 0 = ap (λ b. cond b 1 0) settled in
      ap (λ (weight : ℕ). set (map f s.numer) unit weight) (sym none) ∙ sym (map-set f s.numer unit x)

  -- and one that stays fractional keeps it
  pub weights_open : is_fractional s unit ≡ true → fractional s.den x ≡ true → weights_of s ≡ weights_of (with_one s unit x)
  weights_open was stays =
      let f : ℕ → ℕ = λ a. cond (fractional s.den a) 1 0 in
      let same : f x ≡ f (get_or s.numer unit 0) = ap (λ b. cond b 1 0) (stays ∙ sym was) in
      sym (map-set_same f s.numer unit x 0 same)
