-- The unit that a choice finds by its weights.
use Rattle.std.proofs.Common.{◌≡◌, ℕ, zero, suc, ◌+◌, ◌<◌, ◌≤◌, true, false, cond, ℤ, List, [], length, get_or, arith, refl, sym, ap, ◌∙◌, if◌then◌else◌, inl, inr}
use Rattle.std.proofs.{lemmas.Bool.{cases_Bool}, lemmas.List.{get_or-map, length-map}, lemmas.List.FromFn.{length-map-range_with_len}}
use Rattle.smp_places.specs.Amounts.{sum_before}
use Rattle.smp_places.proofs.Summing.{before_more, before_none}
use Rattle.smp_prob.specs.Shares.{Shares}
use Rattle.smp_values.specs.Values.{fractional_at, is_fractional}
use Rattle.smp_values.proofs.Units.{count_before, count_before_more, fractional_at-before}
use Rattle.smp_localcube.specs.{Kept.States.{weights_of}, Laws.Orders.{untouched_at}, Local.{untouched}, Kept.Orders.{is_untouched}}

module _ (coords : List (List ℤ)) (s : Shares) where
  abbrev weights : List ℕ
  weights = weights_of (untouched coords s []).living

  weights_long : length weights ≡ length s.numer
  weights_long = omega (arith, length-map {B = ℕ} (untouched coords s []).living (λ alive. if alive then 1 else 0), length-map-range_with_len (is_untouched s []) 0 (length s.numer))

  weight_at : (unit : ℕ) → unit < length s.numer → get_or weights unit 0 ≡ cond (is_fractional s unit) 1 0
  weight_at unit here =
      get_or-map (λ alive. if alive then 1 else 0) (untouched coords s []).living unit false 0 (omega (arith, here, length-map-range_with_len (is_untouched s []) 0 (length s.numer)))
      ∙ ap (λ alive. if alive then 1 else 0) (untouched_at coords s [] unit)
      ∙ elim (cases_Bool (is_fractional s unit)) [ inl e ↦ rw e refl | inr e ↦ rw e refl ]

  weights_before : (unit : ℕ) → unit ≤ length s.numer → sum_before weights unit ≡ count_before s unit
  weights_before zero here = before_none weights
  weights_before (suc unit) here =
      let next : suc unit ≡ unit + 1 = omega arith in
      let rest = weights_before unit (omega arith) in
      rw next (omega (arith, before_more weights unit, count_before_more s unit (omega arith), weight_at unit (omega arith), rest))

  module _ (place unit : ℕ) (here : unit < length weights) (from : sum_before weights unit ≤ place) (passes : place < sum_before weights unit + get_or weights unit 0) where
    within : unit < length s.numer
    within = omega (arith, here, weights_long)

    pub found_open : is_fractional s unit ≡ true
    found_open =
        elim (cases_Bool (is_fractional s unit)) [
          | inl e ↦ e
          | inr e ↦ absurd (let none : get_or weights unit 0 ≡ 0 = weight_at unit within ∙ ap (λ b. cond b 1 0) e in omega arith)
        ]

    pub found_is : unit ≡ fractional_at s place
    found_is =
        let one : get_or weights unit 0 ≡ 1 = weight_at unit within ∙ ap (λ b. cond b 1 0) found_open in
        let count : count_before s unit ≡ place = omega (arith, weights_before unit (omega (arith, within)), one) in
        sym (fractional_at-before s unit found_open) ∙ ap (fractional_at s) count
