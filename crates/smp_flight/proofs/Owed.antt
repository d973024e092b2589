-- A selection by flight and landing owes what a balanced selection owes: of each step, and of the state that it starts from.
use Rattle.std.proofs.Common.{◌≡◌, ◌≢◌, ℕ, zero, suc, ◌*◌, ◌<◌, ◌≤◌, mul-pos, false, List, [], length, get_or, arith, refl, sym, ap, ◌∙◌, subst, inl, inr}
use Rattle.std.proofs.lemmas.Bool.{eqb-false}
use Rattle.smp_frac.specs.Fractions.{Fraction, Same, times}
use Rattle.smp_frac.proofs.Arithmetic.{same_refl, sum_same, one-times}
use Rattle.smp_kernel.specs.Vectors.{entry}
use Rattle.smp_split.specs.{Trees.{EachPart}, declared.kind.Kind.{Kind}}
use Rattle.smp_split.specs.declared.kind.Kind.TheVariants as kind
use Rattle.smp_values.specs.Values.{fractional_count, fractional_units, is_fractional, is_settled, value_at}
use Rattle.smp_moves.specs.{Moves.{independent, Next, move, wide}, Balances.{Begins}, Steps.{IsNext, IsStuck}}
use Rattle.smp_moves.specs.Owed.{HasKept, HasStayed, IsStart, Owes, weighed_total}
use Rattle.smp_moves.proofs.{Owed.{is_balanced}, Proportions.{weight_cancels}, Flights.{IsInFlight, flies_at, is_independent, is_wide, lands_at, later_at, no_flight, no_landing}}
use Rattle.smp_moves.specs.Cubes.{flying, pairing, values_in, rows_in, left_in, flight_kind, flight_parts, HasIndependentColumns}
use Rattle.smp_flight.specs.States as flights
use Rattle.smp_flight.specs.{States.{Units, Flight, IsFlight, column, size}, Steps.{next_on}, Moves.{setting_of}}
use Rattle.smp_flight.specs.{Totals.{expanded, addend, row_total}, Landings.{IsBalanced, weighed_of}}
use Rattle.smp_flight.specs.Selections.{Balancing, GoesOn, IsBalancing, IsSelection, IsWholeOrder, Selection, chooses, flies, kind_by, parts_by, starting, shares_cube}
use Rattle.smp_flight.specs.{Laws.ByOrder.{both_totals, few_fractional, values_ok}, Laws.NextProperties.{independent_columns, next_is}}
use Rattle.smp_flight.proofs.{NeverWide.{KeepsFront, never_wide}, Seen.{Flies, each_seen, each_so, each_unmoved, total_is}}
use Rattle.smp_flight.proofs.Settled.{IsSettledAt, step_settled}
use Rattle.smp_flight.specs.Laws.WholeOrders.{independent_in_frame_order}

some_left : (s : Balancing) → is_settled (values_in s) ≡ false → 1 ≤ fractional_count (values_in s)
some_left s going = (let ne : fractional_count (values_in s) ≢ 0 = eqb-false (fractional_count (values_in s)) 0 going in omega (arith, ne))

-- ---- the steps through an order

-- a step before the landing leaves the rows in force and their totals as they were
pub record StaysSo (units : Units) (s to : Balancing) : Type 0 where
  pub flies : IsInFlight to
  pub rows : rows_in to ≡ rows_in s
  pub left : left_in to ≡ left_in s
  pub totals : (row : ℕ) → row < rows_in s → Same (row_total units (values_in to) row) (row_total units (values_in s) row)

module _ (units : Units) (order : List ℕ) where
  stays_by : (f : Flight) (left : ℕ) → IsFlight units f → IsWholeOrder f.values order → (a : Next) → next_on units order f ≡ a → (Begins (flight_kind a) → ⊥) →
      EachPart (λ p. StaysSo units (flying f left) p.state) (flight_parts (shares_cube units) f left a)
  stays_by f left ok w independent is not = absurd (not (inl refl))
  stays_by f left ok w wide is not = absurd (not (inr refl))
  stays_by f left ok w (move m) is not = (
    record { flies = tt; rows = refl; left = refl; totals = λ row l. (both_totals units f left order ok w.is_order m is row l).0 },
    (record { flies = tt; rows = refl; left = refl; totals = λ row l. (both_totals units f left order ok w.is_order m is row l).1.0 }, tt),
  )

  stays : (s : Balancing) → IsBalancing units s → IsWholeOrder (values_in s) order → IsInFlight s → (Begins (kind_by units order s) → ⊥) →
      EachPart (λ p. StaysSo units s p.state) (parts_by units order s)
  stays (flying f left) ok w air not = stays_by f left ok w (next_on units order f) refl not
  stays (pairing s left) ok w air not = absurd air

  drop_independent : (s : Balancing) → IsWholeOrder (values_in s) order → kind_by units order s ≡ kind.Drop → HasIndependentColumns (shares_cube units) s
  drop_independent (flying f left) w k =
      independent_in_frame_order units f.rows f.values order w (independent_columns units f order (is_independent (next_on units order f) k))
  drop_independent (pairing s left) w k = absurd (no_landing (fractional_units s) (inl k))

  drop_few : (s : Balancing) → IsBalancing units s → IsWholeOrder (values_in s) order → kind_by units order s ≡ kind.Drop → fractional_count (values_in s) ≤ rows_in s
  drop_few (flying f left) ok w k = few_fractional units f left order ok w (is_independent (next_on units order f) k)
  drop_few (pairing s left) ok w k = absurd (no_landing (fractional_units s) (inl k))

  lands_there : (s : Balancing) → IsBalancing units s → IsWholeOrder (values_in s) order → Begins (kind_by units order s) → IsStuck (shares_cube units) order s
  lands_there (flying f left) ok w (inl drops) = inl (drop_independent (flying f left) w drops)
  lands_there (flying f left) ok w (inr wides) =
      inr (subst (IsNext (setting_of units) f order) (is_wide (next_on units order f) wides) (next_is units f order ok w.is_order))
  lands_there (pairing s left) ok w begins = absurd (no_landing (fractional_units s) begins)

-- ---- the steps of a selection

module _ {State : Type 0} (c : Selection State) (belongs : State → Type 0) (is : IsSelection c belongs) where
  abbrev w : State → ℕ → Fraction
  w = weighed_total (weighed_of c)

  -- a step of another kind than a choice goes through the state's order
  flies_by : (k : Kind) → kind.Choose ≢ k → (s : State) → GoesOn c s → c.tree.kind s ≡ k → Flies c s (c.order s)
  flies_by k ne s (chooses e same) h = absurd (ne (sym e ∙ h))
  flies_by k ne s (flies w e parts) h = record { whole_order = w; kind = e; parts = parts }

  module _ (s : State) (ok : belongs s) where
    drop_flies : c.tree.kind s ≡ kind.Drop → Flies c s (c.order s)
    drop_flies k = flies_by kind.Drop (λ e. cc) s (is.step s ok) k

    landing_flies : Begins (c.tree.kind s) → Flies c s (c.order s)
    landing_flies (inl k) = drop_flies k
    landing_flies (inr k) = flies_by kind.Wide (λ e. cc) s (is.step s ok) k

    landing_kind : (begins : Begins (c.tree.kind s)) → Begins (kind_by c.units (c.order s) (c.seen s))
    landing_kind begins = subst Begins (landing_flies begins).kind begins

    flight_flies : c.tree.kind s ≡ kind.Flight → IsInFlight (c.seen s)
    flight_flies k =
        let step = flies_by kind.Flight (λ e. cc) s (is.step s ok) k in
        flies_at (shares_cube c.units) (next_on c.units (c.order s)) (λ t. no_flight (fractional_units t)) (c.seen s) (sym step.kind ∙ k)

    settled_kept : (k : ℕ) → is_fractional (values_in (c.seen s)) k ≡ false → EachPart (λ p. HasKept (weighed_of c) s p.state k) (c.tree.parts s)
    settled_kept k still =
        let v : Fraction = value_at (values_in (c.seen s)) k in
        each_so (λ p. IsSettledAt k v (values_in (c.seen p.state))) (λ p. HasKept (weighed_of c) s p.state k)
        (λ p h. record { still = h.still; same = rw (is.value s, is.value p.state) h.same }) (c.tree.parts s)
        (each_seen c (λ b. IsSettledAt k v (values_in b)) s (is.step s ok) (record { still = still; same = same_refl v })
        (λ f. step_settled c.units (c.order s) k v (c.seen s) (is.member s ok) f.whole_order (record { still = still; same = same_refl v })))

    -- a choice leaves all as it was
    stays_here : IsInFlight (c.seen s) → StaysSo c.units (c.seen s) (c.seen s)
    stays_here air = record { flies = air; rows = refl; left = refl; totals = λ row l. same_refl (row_total c.units (values_in (c.seen s)) row) }

    all_stays : IsInFlight (c.seen s) → (Begins (c.tree.kind s) → ⊥) → EachPart (λ p. HasStayed (weighed_of c) (λ t. IsInFlight (c.seen t)) s p.state) (c.tree.parts s)
    all_stays air not =
        each_so (λ p. StaysSo c.units (c.seen s) (c.seen p.state)) (λ p. HasStayed (weighed_of c) (λ t. IsInFlight (c.seen t)) s p.state)
        (λ p h. record {
          flies = h.flies;
          rows = h.rows;
          left = h.left;
          totals = λ row l. rw (total_is c belongs is s row, total_is c belongs is p.state row) (h.totals row l);
        }) (c.tree.parts s)
        (each_seen c (StaysSo c.units (c.seen s)) s (is.step s ok) (stays_here air)
        (λ f. stays c.units (c.order s) (c.seen s) (is.member s ok) f.whole_order air (λ begins. not (subst Begins (sym f.kind) begins))))

    all_land : IsInFlight (c.seen s) → left_in (c.seen s) ≡ 0 → Begins (c.tree.kind s) → EachPart (λ p. left_in (c.seen p.state) ≡ fractional_count (values_in (c.seen s))) (c.tree.parts s)
    all_land air none begins =
        let f = landing_flies begins in
        each_unmoved c.seen (λ t. left_in t ≡ fractional_count (values_in (c.seen s))) (c.tree.parts s)
        (subst (EachPart (λ p. left_in p.state ≡ fractional_count (values_in (c.seen s)))) (sym f.parts)
        (lands_at (shares_cube c.units) (next_on c.units (c.order s)) (c.seen s) air none (landing_kind begins)))

    all_later : (n : ℕ) → 1 ≤ n → left_in (c.seen s) ≡ n → EachPart (λ p. left_in (c.seen p.state) ≡ n) (c.tree.parts s)
    all_later n some e =
        each_seen c (λ b. left_in b ≡ n) s (is.step s ok) e (λ f. later_at (shares_cube c.units) (next_on c.units (c.order s)) n some (c.seen s) e)

    all_stuck : Begins (c.tree.kind s) → IsStuck (shares_cube c.units) (c.order s) (c.seen s)
    all_stuck begins = lands_there c.units (c.order s) (c.seen s) (is.member s ok) (landing_flies begins).whole_order (landing_kind begins)

    all_drops : c.tree.kind s ≡ kind.Drop → HasIndependentColumns (shares_cube c.units) (c.seen s)
    all_drops k = (let f = drop_flies k in drop_independent c.units (c.order s) (c.seen s) f.whole_order (sym f.kind ∙ k))

    all_few : c.tree.kind s ≡ kind.Drop → fractional_count (values_in (c.seen s)) ≤ rows_in (c.seen s)
    all_few k = (let f = drop_flies k in drop_few c.units (c.order s) (c.seen s) (is.member s ok) f.whole_order (sym f.kind ∙ k))

  selection_owes : Owes (weighed_of c) belongs (λ s. IsInFlight (c.seen s))
  selection_owes = record {
    lawful = is.lawful;
    value = λ s ok k l. rw (is.value s) (same_refl (value_at (values_in (c.seen s)) k));
    within = λ s ok k. (let values = values_ok c.units (c.seen s) (is.member s ok) in (values.positive, values.each k));
    settled = λ s ok going k still. settled_kept s ok k still;
    some = λ s ok going. some_left (c.seen s) (sym (is.done s) ∙ going);
    flies = λ s ok going k. flight_flies s ok k;
    stays = λ s ok going air not. all_stays s ok air not;
    lands = λ s ok going air none begins. all_land s ok air none begins;
    later = λ n some s ok going e. all_later s ok n some e;
    stuck = λ s ok begins. all_stuck s ok begins;
    drops = λ s ok k. all_drops s ok k;
    few = λ s ok k. all_few s ok k;
  }

-- ---- at the start

start_term : (units : Units) → IsFlight units (flights.tracked_start units).flight → (row k : ℕ) → k < length units.sizes → Same (times (expanded units row k) (value_at units.requested k)) (addend units row k)
start_term units is_flight zero k l = one-times (value_at units.requested k)
start_term units is_flight (suc row) k l =
    let some : 1 ≤ size units k * is_flight.are.factor = mul-pos (is_flight.are.some_size k l) is_flight.are.some_factor in
    weight_cancels (entry (column units k) (suc row)) (get_or units.requested.numer k 0) units.requested.den
    (subst (λ (n : ℕ). 1 ≤ n) (sym (is_flight.are.proportional k l)) some) is_flight.values.positive

module _ {State : Type 0} (c : Selection State) (belongs : State → Type 0) (is : IsSelection c belongs) (from : State) (member : belongs from) (is_start : c.seen from ≡ starting c.units) where
  is_flight : IsFlight c.units (flights.tracked_start c.units).flight
  is_flight = subst (IsBalancing c.units) is_start (is.member from member)

  start_total : (row : ℕ) → Same (weighed_total (weighed_of c) from row) ((weighed_of c).known row)
  start_total row =
      rw (total_is c belongs is from row, is_start)
      (sum_same (length c.units.sizes) (λ k. times (expanded c.units row k) (value_at c.units.requested k)) (addend c.units row) (start_term c.units is_flight row))

  selection_start : IsStart (weighed_of c) belongs (λ s. IsInFlight (c.seen s)) from
  selection_start = record {
    member = member;
    flies = subst IsInFlight (sym is_start) tt;
    rows = ap rows_in is_start;
    left = ap left_in is_start;
    totals = λ row l. start_total row;
  }

  -- so it is balanced, and where its numbers are small no step is wide, as its searches begin with what moves have changed
  pub selection_balanced : (front : State → List ℕ → Type 0) → KeepsFront c front belongs → front from [] → IsBalanced c from
  selection_balanced front keeps first =
      is_balanced (weighed_of c) belongs (λ s. IsInFlight (c.seen s)) (selection_owes c belongs is) from selection_start
      (λ n. never_wide c belongs is front keeps is_flight.are n from member is_start first)
