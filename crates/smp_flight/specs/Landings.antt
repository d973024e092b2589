-- What is balanced by a selection over its units: their totals (Horvitz and Thompson 1952), and where its landing may begin (Deville and
-- Tillé 2004).
use Rattle.std.specs.Prelude.{◌≡◌, ℕ, ◌≤◌, length, slice_index}
use Rattle.smp_frac.specs.Limits.{most_rows}
use Rattle.smp_prob.specs.Shares.{Shares}
use Rattle.smp_values.specs.Values.{fractional_count}
use Rattle.smp_moves.specs.Balances as moves
use Rattle.smp_moves.specs.Cubes.{HasIndependentColumns, left_in, rows_in, values_in}
use Rattle.smp_moves.specs.Kept.Phases.{balancing_of}
use Rattle.smp_moves.specs.Owed.{Weighed, balance_of}
use Rattle.smp_flight.specs.States.{row_count}
use Rattle.smp_flight.specs.declared.landing.Landing.{Landing}
use Rattle.smp_moves.specs.Steps.{IsStuck}
use Rattle.smp_flight.specs.Narrow.{IsNarrow}
use Rattle.smp_flight.specs.Totals.{expanded, target}
use Rattle.smp_flight.specs.Selections.{Balancing, Selection, shares_cube}

-- The total of a row at a state is the sum of what each unit counts for, times its value; in the first row it is the sum of the values.
abbrev pub weighed_of : {State : Type 0} → Selection State → Weighed State
weighed_of c = record {
  tree = c.tree;
  rows = λ s. rows_in (c.seen s);
  left = λ s. left_in (c.seen s);
  undecided = λ s. fractional_count (values_in (c.seen s));
  all_rows = row_count c.units;
  numer = λ s k. slice_index (values_in (c.seen s)).numer k;
  denom = λ s k. (values_in (c.seen s)).den;
  expanded = expanded c.units;
  known = target c.units;
  independent = λ s. HasIndependentColumns (shares_cube c.units) (c.seen s);
  stuck = λ s. IsStuck (shares_cube c.units) (c.order s) (c.seen s);
  narrow = IsNarrow c.units;
}

-- the selection is balanced from a state
abbrev pub IsBalanced : {State : Type 0} → Selection State → State → Type 0
IsBalanced c = moves.IsBalanced (balance_of (weighed_of c))

-- ---- a state of flight and landing as the code has it

-- what it is
abbrev pub balancing_in : Landing → Balancing
balancing_in l = balancing_of l.phase l.flight.flight l.steps l.left

-- there is room for the values of the pivotal steps of so many units, which can be counted
pub record HasRoom (units : ℕ) (room : Shares) : Type 0 where
  pub fits : length room.numer ≡ units
  pub few : units ≤ most_rows
