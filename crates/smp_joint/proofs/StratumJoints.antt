-- A stratum whose free units are drawn systematically in the order of the frame: the joint probabilities of its units, and their sums.
use Rattle.std.proofs.Common.{◌≡◌, ℕ, ◌-◌, ◌^◌, ◌<◌, Bool, true, false, true≢false, cond, nat_eq, length, Option, Some, None, refl, sym, arith, ◌∙◌, inl, inr}
use Rattle.std.specs.Prelude.{slice_index}
use Rattle.std.proofs.lemmas.Bool.{cases_Bool, eqb-true}
use Rattle.smp_frac.specs.Fractions.{Fraction, Same, whole, times, sum_below}
use Rattle.smp_frac.proofs.Arithmetic.{same_refl, same_sym, same_trans, times_same, one-times, sum_same}
use Rattle.smp_prob.specs.{declared.orders.Order.TheVariants.{Frame}, declared.requests.Request.{Request}, Requests.{IsRequest}}
use Rattle.smp_prob.specs.{declared.inclusions.Inclusion.TheVariants.{Free}, Shares.{Shares, numerators, shares_of}}
use Rattle.smp_prob.specs.Inclusions.{AreApart, IsRising, asked_fraction}
use Rattle.smp_prob.proofs.Fractions.{length-numerators}
use Rattle.smp_split.specs.{Counts.{LeavesSelectAround}, Means.{joint_probability, value_sum}, Orders.{Ordered}, Trees.{Tree, Lawful}}
use Rattle.smp_split.proofs.{Counts.{around_select}, Embeds.{embedded_around}, RowsAround.{rows_around}, RowsAsked.{value_is_asked}}
use Rattle.smp_values.specs.{Starts.{IsRequested}, Values.{fractional_count, is_settled, value_at}, InOrder.{places_tree, started}}
use Rattle.smp_values.proofs.Requests.{few_shares, requested_in_order, shares_fractional, shares_in_range, starts_in_order, wider}
use Rattle.smp_values.proofs.Units.{none_fractional}
use Rattle.smp_pivotal.specs.Systematic.{IsSystematic, systematic_rule, systematic_tree}
use Rattle.smp_pivotal.specs.Laws.SystematicSplits.{leaf_around, systematic_lawful}
use Rattle.smp_split.specs.{Laws.Rows.{rows_lawful}, Rows.{BelongsToRows, SelectsAsRequested, rows_tree}}
use Rattle.smp_methods.specs.{declared.any.AnyDesign.{AnyDesign}, declared.any.AnyState.{AnyState}, Designs.{first_state}}
use Rattle.smp_methods.specs.declared.any.AnyDesign.TheVariants as designs
use Rattle.smp_methods.specs.declared.any.AnyState.TheVariants as states
use Rattle.smp_methods.specs.Methods.{method_of}
use Rattle.smp_joint.specs.Joints.{joint_at, joint_of}
use Rattle.smp_joint.proofs.{Draws.{joint_draws}, Inside.{joint_embedded, joint_rows}, Others.{joint_sum, joint_with}}

-- the states of a systematic selection among those of all methods
abbrev out_of : AnyState → Option (Ordered Shares)
out_of = elim [ states.Systematic state ↦ Some state | other ↦ None ]

module _ (request : Request) (sound : IsRequest request) where
  -- the state before the draw
  abbrev start : Ordered Shares
  start = started request Frame

  abbrev units : ℕ
  units = length (numerators request)

  pub start_belongs : IsSystematic units start
  start_belongs =
      starts_in_order Frame (2 ^ 126 - 1) (shares_of request) (few_shares request sound)
      (wider units (2 ^ 80) (2 ^ 126 - 1) (shares_of request) (omega arith) (shares_in_range request sound))

  start_requested : IsRequested (systematic_tree units) request start
  start_requested = requested_in_order request sound (places_tree systematic_rule units) Frame refl (λ k. same_refl (value_at (shares_of request) k))

  -- where there is a unit, it is fractional
  start_goes : (u : ℕ) → u < units → is_settled (shares_of request) ≡ false
  start_goes u h =
      elim (cases_Bool (is_settled (shares_of request))) [
        | inl e ↦ absurd (true≢false (sym (shares_fractional request sound u h) ∙ none_fractional (shares_of request) (eqb-true (fractional_count (shares_of request)) 0 e) u))
        | inr e ↦ e
      ]

  -- ---- the same design among those of all methods

  abbrev pub design : AnyDesign
  design = designs.Systematic start

  abbrev tree : Tree AnyState
  tree = (method_of design).tree

  abbrev belongs : AnyState → Type 0
  belongs = (method_of design).belongs

  abbrev state : AnyState
  state = first_state design

  pub member : belongs state
  member = start_belongs

  paired : length request.free ≡ tree.units
  paired = sym (length-numerators request sound)

  pub requested : IsRequested tree request state
  requested = record { units = start_requested.units; values = start_requested.values; whole = start_requested.whole }

  free_joint : (u v : ℕ) → u < length request.free → v < length request.free → Same (joint_probability tree state u v) (joint_at request (Free u) (Free v))
  free_joint u v hu hv =
      let u_in : u < units = omega (arith, length-numerators request sound) in
      let v_in : v < units = omega (arith, length-numerators request sound) in
      same_trans
      (joint_embedded states.Systematic out_of (systematic_tree units) (λ _. refl) (IsSystematic units) (systematic_lawful units) u v start start_belongs)
      (joint_draws units start start_belongs refl (start_goes u u_in) u v u_in v_in)

  pub around : LeavesSelectAround tree state
  around = embedded_around states.Systematic out_of (systematic_tree units) (λ _. refl) (IsSystematic units) start (leaf_around units start start_belongs)

  pub serves : SelectsAsRequested request tree state
  serves = record { values = start_requested.values; count = λ n. around_select tree n state around }

  -- ---- over all units of the stratum

  module _ (rising : IsRising request) (count : ℕ) where
    abbrev all : Tree AnyState
    all = rows_tree count request tree

    abbrev among : AnyState → Type 0
    among = BelongsToRows request tree belongs

    pub all_member : among state
    all_member = record { member = member; ordered = rising; paired = paired }

    pub unit_joint : (j k : ℕ) → Same (joint_probability all state j k) (joint_of request j k)
    unit_joint j k = joint_rows request tree belongs (method_of design).lawful paired state member serves.values free_joint count rising j k

    law : Lawful all among
    law = rows_lawful count request tree belongs (method_of design).lawful

    -- Where the fractions of all units add up to n, the joint probabilities of a unit with all others add up to n - 1 times its own.
    abbrev pub joint_with_other : ℕ → ℕ → Fraction
    joint_with_other unit other = cond (nat_eq other unit) (whole 0) (joint_of request unit other)

    with_is : (unit other : ℕ) → Same (joint_with_other unit other) (joint_with all among law state unit other)
    with_is unit other = by (nat_eq other unit)
      where
        by : (b : Bool) → Same (cond b (whole 0) (joint_of request unit other)) (cond b (whole 0) (joint_probability all state unit other))
        by true = same_refl (whole 0)
        by false = same_sym (unit_joint unit other)

    expected : Same (value_sum all (λ _. whole 1) state) (sum_below count (asked_fraction request))
    expected =
        sum_same count (λ k. times (whole 1) (all.value state k)) (asked_fraction request)
        (λ k _. same_trans (one-times (all.value state k)) (value_is_asked count request tree state serves k))

    pub unit_sum : ((u : ℕ) → u < length request.free → slice_index request.free u < count) → AreApart request → (n unit : ℕ) → unit < count → Same (sum_below count (asked_fraction request)) (whole n)
        → Same (sum_below count (joint_with_other unit)) (times (whole (n - 1)) (asked_fraction request unit))
    unit_sum inside apart n unit h sum =
        let selects = around_select all n state (rows_around count request inside apart tree paired belongs state around) (same_trans expected sum) in
        same_trans (sum_same count (joint_with_other unit) (joint_with all among law state unit) (λ k _. with_is unit k))
        (same_trans (joint_sum all among law n unit state all_member h selects)
        (times_same (same_refl (whole (n - 1))) (value_is_asked count request tree state serves unit)))
