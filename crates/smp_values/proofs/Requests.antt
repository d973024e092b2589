-- The shares of a request are values in range, each of them fractional, and each is the probability that is requested.
use Rattle.std.proofs.{Common.{◌≡◌, ℕ, ◌+◌, ◌^◌, ◌<◌, ◌≤◌, length, get_or, arith, refl, sym, ◌∙◌, inl, inr}, lemmas.List.{get_or_past}}
use Rattle.std.proofs.{lemmas.Bool.{cases_eq, cases_lt}, lemmas.List.FromFn.{get_or-range_with_len}}
use Rattle.smp_frac.specs.Fractions.{Same}
use Rattle.smp_frac.proofs.Arithmetic.{same_trans}
use Rattle.smp_prob.specs.{declared.orders.Order.{Order}, declared.orders.Order.TheVariants.{Frame, Random}, Requests.{IsRequest}}
use Rattle.smp_prob.specs.{declared.requests.Request.{Request}, Shares.{Shares, numerators, common_denominator, shares_of}}
use Rattle.smp_prob.proofs.Fractions.{denominator_positive, denominator_narrow, length-numerators, numerator_positive, numerator_below, numerator_is_free_fraction, sum-numerators}
use Rattle.smp_split.specs.{Counts.{AddsUp}, Orders.{IsPlacing, IsInOrder, ordered_tree}, Trees.{Tree}}
use Rattle.smp_split.proofs.{Orders.{frame_placing, undrawn_placing}, Sums.{list_adds_up, none_adds_up}}
use Rattle.smp_values.specs.Starts.{IsRequested, DrawsWhole, first_order, ordered_values}
use Rattle.smp_values.specs.Values.{AllFractional, IsValues, exchanged_values, value_at}
use Rattle.smp_values.proofs.Fractional.{is_fractional-between}

-- values over a narrower denominator are values over a wider one
pub wider : (units most more : ℕ) (s : Shares) → most ≤ more → IsValues units most s → IsValues units more s
wider units most more s le ok = record { count = ok.count; positive = ok.positive; narrow = omega (arith, ok.narrow); each = ok.each }

-- ---- orders

-- in both orders each unit stands at its own place at first
pub first_place : (order : Order) (units unit : ℕ) → unit < units → get_or (first_order order units).places unit 0 ≡ unit
first_place Frame units unit h = let none : 0 + unit ≡ unit = omega arith in get_or-range_with_len 0 units unit 0 h ∙ none
first_place Random units unit h = let none : 0 + unit ≡ unit = omega arith in get_or-range_with_len 0 units unit 0 h ∙ none

-- and has one of its own
pub first_placing : (order : Order) (units : ℕ) → units < 2 ^ 64 → IsPlacing units (first_order order units)
first_placing Frame units few = frame_placing units few
first_placing Random units few = undrawn_placing units few

pub starts_in_order : (order : Order) (most : ℕ) (s : Shares) → length s.numer < 2 ^ 64 → IsValues (length s.numer) most s → IsInOrder (length s.numer) (IsValues (length s.numer) most) (ordered_values order s)
starts_in_order order most s few ok = record { order = first_placing order (length s.numer) few; state = ok }

-- ---- requests

module _ (request : Request) (is : IsRequest request) where
  pub shares_in_range : IsValues (length (numerators request)) (2 ^ 80) (shares_of request)
  shares_in_range = record {
    count = refl;
    positive = denominator_positive request is;
    narrow = omega (arith, denominator_narrow request is);
    each = λ unit.
        elim (cases_lt unit (length request.free)) [
          | inl here ↦ omega (arith, numerator_below request is unit here)
          | inr past ↦ (let none : get_or (numerators request) unit 0 ≡ 0 = get_or_past (numerators request) unit 0 (omega (arith, length-numerators request is)) in omega (arith, none))
        ];
  }

  pub few_shares : length (numerators request) < 2 ^ 64
  few_shares = omega (arith, length-numerators request is, is.few)

  pub shares_fractional : AllFractional (shares_of request)
  shares_fractional unit h =
      let here : unit < length request.free = omega (arith, length-numerators request is) in
      is_fractional-between (common_denominator request) (get_or (numerators request) unit 0) (omega (arith, numerator_positive request is unit here)) (numerator_below request is unit here)

  -- a state whose values are the shares of the request has the requested values
  pub requested_values : {State : Type 0} (tree : Tree State) (state : State) → tree.units ≡ length (numerators request) → ((k : ℕ) → k < length (numerators request) → Same (tree.value state k) (value_at (shares_of request) k)) → IsRequested tree request state
  requested_values tree state units values = record {
    units = units ∙ length-numerators request is;
    values = λ k here. same_trans (values k (omega (arith, length-numerators request is))) (numerator_is_free_fraction request is k here);
    whole = λ some whole.
        list_adds_up tree state (numerators request) (common_denominator request) (denominator_positive request is) (sym units)
        (λ k h. values k (omega (arith, units))) request.r (sum-numerators request is some whole);
  }

  -- in particular in an order
  pub requested_in_order : (tree : Tree Shares) (order : Order) → tree.units ≡ length (numerators request) → ((k : ℕ) → Same (tree.value (shares_of request) k) (value_at (shares_of request) k))
      → IsRequested (ordered_tree tree exchanged_values) request (ordered_values order (shares_of request))
  requested_in_order tree order units values =
      requested_values (ordered_tree tree exchanged_values) (ordered_values order (shares_of request)) units
      (λ k h. rw (first_place order (length (numerators request)) k h) (values k))

-- where the number of units drawn is whole, the values add up to it
pub adds_to_draws : {State : Type 0} (tree : Tree State) (request : Request) (state : State) → IsRequested tree request state → DrawsWhole request → AddsUp tree request.r state
adds_to_draws tree request state requested whole =
    elim (cases_eq (length request.free) 0) [
      | inl none ↦ rw (whole.none_free none) (none_adds_up tree state (requested.units ∙ none))
      | inr some ↦ requested.whole (let one : 1 ≤ length request.free = omega (arith, some) in one) whole.total
    ]
