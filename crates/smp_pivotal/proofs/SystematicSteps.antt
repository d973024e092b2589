-- The steps of a systematic selection.
use Rattle.std.proofs.Common.{◌≡◌, ℕ, ◌+◌, ◌<◌, ◌≤◌, Bool, true, false, cond, nat_eq, length, get_or, arith, refl, ap, ◌∙◌}
use Rattle.std.proofs.{lemmas.Bool.{eq-eqb, ne_eqb}, lemmas.Bool.Decides.{Decides-at}, lemmas.List.FromFn.{get_or-range_with_len}}
use Rattle.std.specs.{Bool.{Decides}, List.{count_by, range_with_len}}
use Rattle.smp_split.specs.{Counts.{draws_selecting, selected_after}, Trees.{weight_sum, picked}}
use Rattle.smp_split.specs.{Orders.{Placing, Ordered, in_order, frame_order}, Laws.Parts.{weight_sum-equal, picked-equal}}
use Rattle.smp_split.proofs.{Orders.{inner_bound, inner_picked, place_in}, NumberSums.{sums_same, sum_by-range}}
use Rattle.smp_prob.specs.Shares.{Shares}
use Rattle.smp_values.specs.{InOrder.{places_tree}, Values.{exchanged_values}}
use Rattle.smp_pivotal.specs.Systematic.{IsSystematic, PointsAt, cumulated, takes, sampled, place_of, numerator_of, systematic_rule, systematic_tree}
use Rattle.smp_pivotal.specs.{Laws.Points.{meets_decides}, Laws.SystematicSplits.{sampled_at, draws_taking}}

either_is : (den : ℕ) (b : Bool) → 1 ≤ den → nat_eq (cond b den 0) den ≡ b
either_is den true one = eq-eqb den den refl
either_is den false one = ne_eqb 0 den (omega arith)

module _ (units : ℕ) (s : Ordered Shares) (drawn : nat_eq s.order.left 0 ≡ true) where
  -- ---- the systematic draw

  pub system_bound : weight_sum ((systematic_tree units).parts s) ≡ s.state.den
  system_bound = inner_bound (places_tree systematic_rule units) exchanged_values s drawn ∙ weight_sum-equal (sampled s.state) s.state.den

  pub draw_within : (draw : ℕ) → draw < weight_sum ((systematic_tree units).parts s) → draw < s.state.den
  draw_within draw h = rw system_bound at h

  pub system_picked : (draw : ℕ) → draw < s.state.den → picked s ((systematic_tree units).parts s) draw ≡ in_order s.order (sampled s.state draw)
  system_picked draw h = rw (inner_picked (places_tree systematic_rule units) exchanged_values s draw drawn, picked-equal (sampled s.state) s.state s.state.den draw h) refl

  module _ (ok : IsSystematic units s) where
    -- a draw selects a unit where it takes its place
    selects_at : (draw unit : ℕ) → draw < s.state.den → unit < units → selected_after (systematic_tree units) s draw unit ≡ takes s.state draw (place_of s unit)
    selects_at draw unit h here =
        let place_here : get_or s.order.places unit 0 < length s.state.numer = omega (arith, place_in units s.order ok.order unit here, ok.state.count) in
        ap (λ t. (systematic_tree units).selected t unit) (system_picked draw h)
        ∙ ap (λ n. nat_eq n s.state.den) (sampled_at s.state draw (place_of s unit) place_here)
        ∙ either_is s.state.den (takes s.state draw (place_of s unit)) ok.state.positive

    pub selects_where : (draw unit : ℕ) → draw < s.state.den → unit < units → Decides (selected_after (systematic_tree units) s draw unit) (PointsAt s draw unit)
    selects_where draw unit h here =
        Decides-at _ _ (selects_at draw unit h here) (meets_decides s.state.den (cumulated s.state.numer (place_of s unit)) (cumulated s.state.numer (place_of s unit + 1)) draw ok.state.positive)

    -- so many draws select a unit
    pub draws_are : (unit : ℕ) → unit < units → draws_selecting (systematic_tree units) s unit ≡ numerator_of s unit
    draws_are unit here =
        ap (λ n. count_by (λ draw. selected_after (systematic_tree units) s draw unit) (range_with_len 0 n)) system_bound
        ∙ sum_by-range s.state.den _
        ∙ sums_same s.state.den _ (λ draw. cond (takes s.state draw (place_of s unit)) 1 0) (λ draw l. ap (λ (b : Bool). cond b 1 0) (selects_at draw unit l here))
        ∙ draws_taking units s.state ok.state (place_of s unit) (place_in units s.order ok.order unit here)

-- in the order of the frame, so many draws select a unit as its numerator says
pub draws_in_frame : (s : Ordered Shares) → IsSystematic (length s.state.numer) s → s.order ≡ frame_order (length s.state.numer) → (unit : ℕ) → unit < length s.state.numer → draws_selecting (systematic_tree (length s.state.numer)) s unit ≡ get_or s.state.numer unit 0
draws_in_frame s ok frame unit here =
    let drawn : nat_eq s.order.left 0 ≡ true = rw frame refl in
    let none : 0 + unit ≡ unit = omega arith in
    let place : place_of s unit ≡ unit = ap (λ (o : Placing). get_or o.places unit 0) frame ∙ get_or-range_with_len 0 (length s.state.numer) unit 0 here ∙ none in
    draws_are (length s.state.numer) s drawn ok unit here ∙ ap (λ p. get_or s.state.numer p 0) place
