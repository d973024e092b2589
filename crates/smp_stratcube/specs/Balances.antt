-- What the cube over all strata keeps: the sum of the values of each stratum, and the total of each variable over all strata (Deville and
-- Tillé 2004, with the balancing equations of Chauvet 2009).
use Rattle.std.specs.Prelude.{ℕ, cond, nat_eq, nat_lt, length}
use Rattle.smp_frac.specs.Fractions.{Fraction, whole, integer, times, inverse, sum_below}
use Rattle.smp_kernel.specs.Vectors.{entry}
use Rattle.smp_moves.specs.Balances as moves
use Rattle.smp_moves.specs.Cubes.{HasIndependentColumns, left_in, rows_in, values_in}
use Rattle.smp_moves.specs.Moves.{fraction_of}
use Rattle.smp_moves.specs.Owed.{Weighed, balance_of}
use Rattle.smp_stratcube.specs.Units.{Units, column, share, stratum}
use Rattle.smp_stratcube.specs.Values.{fractional_count, fractional_units, value}
use Rattle.smp_stratcube.specs.States.{Balancing}
use Rattle.smp_moves.specs.Steps.{IsStuck}
use Rattle.smp_stratcube.specs.Cube.{strat_cube, strat_tree}

-- What a unit counts for in the total of a row. In the row of a stratum it is 1 for its units and 0 for all others; in the row of a
-- variable it is its balancing value divided by its probability.
abbrev pub expanded : Units → ℕ → ℕ → Fraction
expanded units row k =
    cond (nat_lt row (length units.firsts)) (whole (cond (nat_eq (stratum units k) row) 1 0))
    (times (integer (entry (column units k) row)) (inverse (fraction_of (share units k))))

-- what a unit adds to that which is estimated: its probability in the row of its stratum, and its balancing value in that of a variable
abbrev pub addend : Units → ℕ → ℕ → Fraction
addend units row k =
    cond (nat_lt row (length units.firsts))
    (times (whole (cond (nat_eq (stratum units k) row) 1 0)) (fraction_of (share units k)))
    (integer (entry (column units k) row))

-- what is estimated: the sum of the probabilities of a stratum, or that of the balancing values over all strata
abbrev pub target : Units → ℕ → Fraction
target units row = sum_below (length units.members) (addend units row)

-- The total of a row at a state is the sum of what each unit counts for, times its value. Of no units is it said here that their numbers
-- are narrow.
abbrev pub weighed_of : Units → Weighed Balancing
weighed_of units = record {
  tree = strat_tree units;
  rows = rows_in;
  left = left_in;
  undecided = λ s. fractional_count (values_in s);
  all_rows = units.rows;
  numer = λ s k. (value (values_in s) k).at.num;
  denom = λ s k. (value (values_in s) k).at.den;
  expanded = expanded units;
  known = target units;
  independent = HasIndependentColumns (strat_cube units);
  stuck = λ s. IsStuck (strat_cube units) (fractional_units (values_in s)) s;
  narrow = ⊥;
}

-- the cube over all strata of these units is balanced from a state
abbrev pub IsBalanced : Units → Balancing → Type 0
IsBalanced units = moves.IsBalanced (balance_of (weighed_of units))
