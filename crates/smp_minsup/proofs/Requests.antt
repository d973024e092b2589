-- The shares of a request are values that add up to a whole number.
use Rattle.std.proofs.Common.{◌≡◌, ℕ, ◌-◌, ◌*◌, ◌^◌, ◌≤◌, List, [], ◌∷◌, length, arith, refl, sym, ap, ◌∙◌, inl, inr}
use Rattle.std.specs.Prelude.{Bool, ◌==◌, if◌then◌else◌, sum}
use Rattle.std.proofs.lemmas.Bool.{cases_Bool, cases_eq, eqb-false, eqb-true}
use Rattle.smp_prob.specs.{declared.requests.Request.{Request}, Requests.{IsRequest}, Shares.{numerators, common_denominator}}
use Rattle.smp_prob.specs.Shares as shares
use Rattle.smp_prob.proofs.Fractions.{denominator_positive, length-numerators, sum-numerators}
use Rattle.smp_values.proofs.Requests.{shares_in_range, wider}
use Rattle.smp_minsup.specs.{Method.{started}, Support.{IsSupport, draws_of}, Kept.Starts.{IsStart}, Laws.Splits.{whole_sum, draws_are}}

sum_of_none : (xs : List ℕ) → length xs ≡ 0 → sum xs ≡ 0
sum_of_none [] h = refl
sum_of_none (x ∷ xs) h = absurd (omega (arith, h))

module _ (request : Request) (is : IsRequest request) (whole : sum request.shape ≡ request.total) where
  -- how many units are to be selected
  draws_requested : 1 ≤ length request.free → draws_of (started request) ≡ request.r
  draws_requested some = draws_are request.r (started request) (denominator_positive request is) (sum-numerators request is some whole)

  none_selected : length request.free ≡ 0 → sum (numerators request) ≡ 0 * common_denominator request
  none_selected none = sum_of_none (numerators request) (omega (arith, length-numerators request is)) ∙ omega arith

  none_requested : length request.free ≡ 0 → draws_of (started request) ≡ 0
  none_requested none = draws_are 0 (started request) (denominator_positive request is) (none_selected none)

  pub belongs_requested : IsSupport (length (numerators request)) (started request)
  belongs_requested = record {
    values = wider (length (numerators request)) (2 ^ 80) (2 ^ 126 - 1) (started request) (omega arith) (shares_in_range request is);
    whole = elim (cases_eq (length request.free) 0) [
      | inl none ↦ whole_sum 0 (started request) (denominator_positive request is) (none_selected none)
      | inr ne ↦ whole_sum request.r (started request) (denominator_positive request is) (sum-numerators request is (omega (arith, ne)) whole)
    ];
  }

  abbrev drawn : Bool → ℕ
  drawn none = if none then 0 else request.r

  -- the design, with as many units to select as are drawn
  pub start_requested : IsStart (shares.draws_of request) (started request)
  start_requested = record {
    state = belongs_requested;
    draws_are = elim (cases_Bool (length request.free == 0)) [
      | inl none ↦ ap drawn none ∙ sym (none_requested (eqb-true _ _ none))
      | inr some ↦ ap drawn some ∙ sym (draws_requested (omega (arith, eqb-false (length request.free) 0 some)))
    ];
  }
