-- The steps of flight and landing, whichever order their search goes in: the parts are lawful, a move keeps the totals, and the
-- landing begins only where no direction is left or a number is wide.
use Rattle.std.proofs.Common.{◌≡◌, ◌≢◌, ℕ, ◌+◌, ◌<◌, ◌≤◌, ℤ, Bool, true, false, List, length, arith, refl}
use Rattle.std.proofs.Common.{sym, ◌∙◌, subst}
use Rattle.std.proofs.lemmas.Bool.{eqb-false}
use Rattle.smp_frac.specs.Limits.{most_denominator}
use Rattle.smp_frac.specs.Fractions.{Same, whole, integer, plus, times}
use Rattle.smp_frac.proofs.Arithmetic.{same_refl}
use Rattle.smp_prob.specs.Shares.{Shares}
use Rattle.smp_split.specs.Lenses.{as_unit}
use Rattle.smp_split.specs.Parts.{moved}
use Rattle.smp_split.specs.Trees.{EachPart, LawfulParts, LawfulEnd}
use Rattle.smp_split.specs.Laws.Lenses.{parts_through}
use Rattle.smp_values.specs.Values.{IsValues, fractional_count, is_settled, value_at}
use Rattle.smp_values.specs.Steps.{pivotal_parts, steps_tree}
use Rattle.smp_values.proofs.Pivotal.{steps_lawful}
use Rattle.smp_moves.proofs.Computed.{few_by}
use Rattle.smp_moves.proofs.Flights.{lone_split}
use Rattle.smp_moves.specs.Ends.{end_of}
use Rattle.smp_moves.specs.Cubes.{flying, pairing, values_in, flight_parts, landed, tree_by}
use Rattle.smp_moves.specs.Kept.Computed.{dropped}
use Rattle.smp_flight.specs.States.{Units, Flight, IsFlight}
use Rattle.smp_moves.specs.Moves.{Move, IsOrder, fraction_of, entry_of, Next, move, independent, wide, chosen_line, chosen_extent}
use Rattle.smp_flight.specs.Steps.{next_on, next_on_is, chosen}
use Rattle.smp_flight.specs.Statements.{GoesBothWays}
use Rattle.smp_moves.specs.Steps.{IsNext}
use Rattle.smp_flight.specs.Moves.{setting_of}
use Rattle.smp_flight.specs.Totals.{row_total}
use Rattle.smp_flight.specs.Selections.{Balancing, IsBalancing, IsWholeOrder, parts_by, shares_cube}
use Rattle.smp_moves.proofs.Evens.{even_ends, entry_of_turned}
use Rattle.smp_flight.specs.Laws.Moved.{IsChosen, chosen_there}
use Rattle.smp_flight.specs.Laws.MoveTotals.{end_total}
use Rattle.smp_flight.specs.Laws.Nexts.{IsKnown}
use Rattle.smp_flight.specs.Laws.NextProperties.{known, next_is}
use Rattle.smp_flight.specs.Laws.Sizes.{flown_both_ways}
use Rattle.smp_flight.specs.Laws.WholeOrders.{whole_length}

-- ---- a move

module _ (units : Units) (f : Flight) (left : ℕ) (order : List ℕ) (ok : IsFlight units f)
    (ordered : IsOrder f.values order) (m : Move) (is : next_on units order f ≡ move m) where
  pub knows : IsKnown units f order m
  knows = known units f order ok ordered m is

  -- one of its ends
  pub ends_at : (plus : Bool) → IsChosen units f (chosen_line m plus) (chosen_extent m plus) (chosen units f m plus).values
  ends_at plus = chosen_there units f ok order m plus knows

  pub both_ways : GoesBothWays m
  both_ways =
      flown_both_ways units f order ok ordered m (subst (IsNext (setting_of units) f order) is (next_is units f order ok ordered))

  flown_even : (k : ℕ) → Same (plus (times (whole m.plus_weight) (value_at (chosen units f m true).values k))
      (plus (times (whole m.minus_weight) (value_at (chosen units f m false).values k)) (whole 0)))
      (times (whole (m.plus_weight + (m.minus_weight + 0))) (value_at f.values k))
  flown_even k =
      let down = subst (λ (z : ℤ). Same (value_at (chosen units f m false).values k)
      (plus (value_at f.values k) (times (fraction_of m.down) (integer z)))) (entry_of_turned m.direction k)
      ((ends_at false).moved.values k) in
      even_ends m.plus_weight m.minus_weight (value_at f.values k) (value_at (chosen units f m true).values k)
      (value_at (chosen units f m false).values k) (fraction_of m.up) (fraction_of m.down)
      (entry_of m.direction k)
      ((ends_at true).moved.values k) down knows.is.weights

  pub move_split : (o : Flight → Next) → LawfulParts (tree_by (shares_cube units) o) (IsBalancing units)
      (flying f left) (flight_parts (shares_cube units) f left (move m))
  move_split o = record {
    some = omega (arith, both_ways.plus_weight);
    narrow = omega (arith, both_ways.bound);
    each = (
      record { heavy = both_ways.plus_weight; falls = omega (arith, (ends_at true).settles); member = (ends_at true).flight },
      (record { heavy = both_ways.minus_weight; falls = omega (arith, (ends_at false).settles); member = (ends_at false).flight }, tt),
    );
    even = λ k _. flown_even k;
  }

  -- it keeps the total of each row in force, at both ends
  pub both_totals : (row : ℕ) → row < f.rows
      → EachPart (λ p. Same (row_total units (values_in p.state) row) (row_total units f.values row))
      (flight_parts (shares_cube units) f left (move m))
  both_totals row l = (end_total units f order ok m knows true row l, (end_total units f order ok m knows false row l, tt))

-- ---- where no direction is left

module _ (units : Units) (f : Flight) (left : ℕ) (order : List ℕ) (ok : IsFlight units f)
    (whole_order : IsWholeOrder f.values order) where
  -- where no direction is left, no more units are fractional than there are rows in force
  pub few_fractional : next_on units order f ≡ independent → fractional_count f.values ≤ f.rows
  few_fractional is =
      let few = few_by (setting_of units) (end_of units.requested.den) f order (sym (next_on_is units order f) ∙ is) in
      omega (arith, few, whole_length f.values order whole_order)

  -- so where units are fractional, some row is in force
  pub some_row : next_on units order f ≡ independent → is_settled f.values ≡ false → 1 ≤ f.rows
  some_row is going =
      let some : fractional_count f.values ≢ 0 = eqb-false (fractional_count f.values) 0 going in
      omega (arith, few_fractional is, some)

  pub dropped_flight : IsFlight units (dropped f)
  dropped_flight = record {
    are = ok.are;
    values = ok.values;
    fixed_is = ok.fixed_is;
    multiple = ok.multiple;
    rows_in = omega (arith, ok.rows_in);
  }

  split_by : (o : Flight → Next) → is_settled f.values ≡ false → (a : Next) → next_on units order f ≡ a
      → LawfulParts (tree_by (shares_cube units) o) (IsBalancing units) (flying f left)
      (flight_parts (shares_cube units) f left a)
  split_by o going (move m) is = move_split units f left order ok whole_order.is_order m is o
  split_by o going independent is =
      let some = some_row is going in
      lone_split (tree_by (shares_cube units) o) (IsBalancing units) (flying f left)
      (flying (dropped f) (landed (fractional_count f.values) left)) (λ k. refl) (omega (arith, some)) dropped_flight
  split_by o going wide is = lone_split (tree_by (shares_cube units) o) (IsBalancing units) (flying f left)
      (pairing f.values (landed (fractional_count f.values) left)) (λ k. refl) (omega arith) ok.values

-- ---- the pivotal steps

module _ (units : Units) (o : Flight → Next) (s : Shares) (left : ℕ)
    (ok : IsValues (length units.sizes) most_denominator s) (going : is_settled s ≡ false) where
  pairing_split : LawfulParts (tree_by (shares_cube units) o) (IsBalancing units) (pairing s left)
      (moved (λ t. pairing t left) (pivotal_parts s))
  pairing_split =
      parts_through (steps_tree (length units.sizes)) (IsValues (length units.sizes) most_denominator)
      (tree_by (shares_cube units) o) (IsBalancing units) (λ t. pairing t left) as_unit s (pairing s left)
      (record {
        within = λ k h. h;
        part = λ p is. record { heavy = is.heavy; falls = is.falls; member = is.member };
        value = λ k h. same_refl (value_at s k);
        values = λ t here k h. same_refl (value_at t k);
      }) (pivotal_parts s) ((steps_lawful (length units.sizes)).split s ok going)

-- ---- all states

-- the parts are lawful, whichever order the search goes in
pub parts_lawful : (units : Units) (o : Flight → Next) (s : Balancing) (order : List ℕ) → IsBalancing units s
    → IsWholeOrder (values_in s) order → is_settled (values_in s) ≡ false →
    LawfulParts (tree_by (shares_cube units) o) (IsBalancing units) s (parts_by units order s)
parts_lawful units o (flying f left) order ok whole_order going =
    split_by units f left order ok whole_order o going (next_on units order f) refl
parts_lawful units o (pairing s left) order ok whole_order going = pairing_split units o s left ok going

pub values_ok : (units : Units) (s : Balancing) → IsBalancing units s → IsValues (length units.sizes) most_denominator (values_in s)
values_ok units (flying f left) ok = ok.values
values_ok units (pairing s left) ok = ok

pub end_lawful : (units : Units) (o : Flight → Next) (s : Balancing) → IsBalancing units s
    → is_settled (values_in s) ≡ true → LawfulEnd (tree_by (shares_cube units) o) s
end_lawful units o s ok done = (steps_lawful (length units.sizes)).end (values_in s) (values_ok units s ok) done
