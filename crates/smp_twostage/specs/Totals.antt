-- Balancing totals over all units of the strata that are drawn in one selection, and what is estimated of them by design weights (Horvitz
-- and Thompson 1952): of one stratum alone, by the cube or the local cube; or of all strata together (Chauvet 2009). The first rows are the
-- sizes of the strata, the others the variables.
use Rattle.std.specs.Prelude.{◌≡◌, ℕ, zero, suc, ◌+◌, ◌-◌, ◌≤◌, nat_lt, if◌then◌else◌}
use Rattle.std.specs.Prelude.{Bool, true, false, cond, All, List, [], ◌∷◌, ℤ, pos}
use Rattle.std.specs.Prelude.{length, map}
use Rattle.smp_frac.specs.Fractions.{Fraction, whole, integer, plus, times, inverse, sum_below}
use Rattle.smp_frac.specs.Bounds.{absolute}
use Rattle.smp_prob.specs.declared.inclusions.Inclusion.{Inclusion}
use Rattle.smp_prob.specs.declared.inclusions.Inclusion.TheVariants.{Free, Never}
use Rattle.smp_prob.specs.Inclusions.{inclusion, is_taken, asked_fraction}
use Rattle.smp_split.specs.Rows.{row_value}
use Rattle.smp_split.specs.Trees.{Tree}
use Rattle.smp_moves.specs.Balances.{Balance, IsBalanced}
use Rattle.smp_moves.specs.Cubes.{Balancing, Cube, HasIndependentColumns, left_in, rows_in, values_in}
use Rattle.smp_flight.specs.Selections.{IsBalancing, Selection, shares_cube, starting}
use Rattle.smp_moves.specs.Steps.{IsStuck}
use Rattle.smp_flight.specs.Narrow.{IsNarrow}
use Rattle.smp_flight.specs.Cube.{cube_of}
use Rattle.smp_localcube.specs.Local.{IsLocal, local_of}
use Rattle.smp_localcube.specs.Method.{started}
use Rattle.smp_stratcube.specs.Cube.{strat_cube, strat_tree}
use Rattle.smp_stratcube.specs.Layers.{Layer}
use Rattle.smp_stratcube.specs.States as strata
use Rattle.smp_stratcube.specs.Units.{Units, units_of}
use Rattle.smp_stratcube.specs.Values.{fractional_units}
use Rattle.smp_twostage.specs.Strata.{StratumUnits, AreStratumUnits, column_count, free_units, free_values, value_in}

-- ---- what a unit counts for

-- whether a unit can be selected: its probability isn't 0
abbrev pub can_be_selected : Inclusion → Bool
can_be_selected Never = false
can_be_selected other = true

-- the balancing value of a unit that can be selected, and 0 of any other
abbrev pub known_value : StratumUnits → ℕ → ℕ → ℤ
known_value s column k =
    cond (can_be_selected (inclusion s.request k)) (value_in s column k) (pos 0)

-- What a unit counts for in the total of a row: 1 in that of a size; in that of a variable its balancing value over the probability that is
-- asked for it, and 0 where that is 0. Row 0 is that of the size of its stratum, and those behind are the variables.
abbrev pub counted : StratumUnits → ℕ → ℕ → Fraction
counted s zero k = whole 1
counted s (suc column) k =
    times (integer (known_value s column k)) (inverse (asked_fraction s.request k))

-- what it adds to what is known of a row: to a size its probability, to a variable its value where it can be selected
abbrev pub known_of : StratumUnits → ℕ → ℕ → Fraction
known_of s zero k = asked_fraction s.request k
known_of s (suc column) k = integer (known_value s column k)

-- whether a unit that stands so is undecided, where these free units are
abbrev pub is_undecided : (ℕ → Bool) → Inclusion → Bool
is_undecided fractional (Free u) = fractional u
is_undecided fractional other = false

-- ---- the totals

-- A row over some strata, where `part` is what a stratum has of a row, with so many free units before it: the size of a stratum is that
-- of the stratum alone, a variable is summed up over all.
module _ (part : ℕ → ℕ → StratumUnits → Fraction) where
  abbrev pub size_of : ℕ → ℕ → List StratumUnits → Fraction
  size_of before h [] = whole 0
  size_of before zero (s ∷ frame) = part before 0 s
  size_of before (suc h) (s ∷ frame) = size_of (before + length s.request.free) h frame

  abbrev pub variable_of : ℕ → ℕ → List StratumUnits → Fraction
  variable_of before column [] = whole 0
  variable_of before column (s ∷ frame) =
      plus (part before (suc column) s) (variable_of (before + length s.request.free) column frame)

  abbrev pub over_frame : List StratumUnits → ℕ → Fraction
  over_frame frame row =
      if nat_lt row (length frame) then size_of 0 row frame
      else variable_of 0 (row - length frame) frame

-- The total of a row, where the free units have these values: the sum over the units of what each counts for, times its value, which is 1
-- where it is certain, and 0 where it is never selected.
abbrev pub total : List StratumUnits → (ℕ → Fraction) → ℕ → Fraction
total frame value = over_frame
    (λ before row s. sum_below (length s.values)
    (λ k. times (counted s row k) (row_value (λ u. value (before + u)) (inclusion s.request k))))
    frame

-- what is known of it: the sum of the probabilities of a stratum; of a variable the sum over the units that can be selected
abbrev pub known : List StratumUnits → ℕ → Fraction
known frame = over_frame (λ before row s. sum_below (length s.values) (known_of s row)) frame

-- the estimate, where these free units are selected: how many units of a stratum are; of a variable the sum of their values over their
-- probabilities
abbrev pub estimate : List StratumUnits → (ℕ → Bool) → ℕ → Fraction
estimate frame selected = over_frame
    (λ before row s. sum_below (length s.values)
    (λ k. cond (is_taken (λ u. selected (before + u)) (inclusion s.request k)) (counted s row k) (whole 0)))
    frame

-- the sum of |x| over the probability, over the units that are undecided, where these free units are; of a stratum, their number
abbrev pub error_bound : List StratumUnits → (ℕ → Bool) → ℕ → Fraction
error_bound frame fractional = over_frame
    (λ before row s. sum_below (length s.values)
    (λ k. cond (is_undecided (λ u. fractional (before + u)) (inclusion s.request k)) (absolute (counted s row k)) (whole 0)))
    frame

-- how many balancing columns there are: as many as in the first stratum
abbrev pub columns_in : List StratumUnits → ℕ
columns_in [] = 0
columns_in (s ∷ frame) = column_count s

-- how many balancing rows there are: one for each stratum and one for each column
abbrev pub row_count : List StratumUnits → ℕ
row_count frame = length frame + columns_in frame

-- ---- what is balanced

-- What a selection from the free units of these strata balances: by its draw tree, by the state of the cube that is seen of each of its
-- states, by the units that the search of a state goes through, and by whether the numbers of the free units are narrow.
module _ {State Values Fixed : Type 0} (frame : List StratumUnits) (cube : Cube Values) where
  abbrev pub balance_over : Tree State → (State → Balancing Values Fixed) → (State → List ℕ) → Type 0 → Balance State
  balance_over tree seen order narrow = record {
    tree = tree;
    rows = λ t. rows_in (seen t);
    left = λ t. left_in (seen t);
    undecided = λ t. cube.fractional_count (values_in (seen t));
    all_rows = row_count frame;
    total = λ t. total frame (cube.value_at (values_in (seen t)));
    known = known frame;
    estimate = λ t. estimate frame (cube.is_one (values_in (seen t)));
    bound = λ t. error_bound frame (cube.is_fractional (values_in (seen t)));
    independent = λ t. HasIndependentColumns cube (seen t);
    stuck = λ t. IsStuck cube (order t) (seen t);
    narrow = narrow;
  }

-- ---- one stratum alone

-- what a selection from the free units of a stratum balances
abbrev pub balance_of : {State : Type 0} → StratumUnits → Selection State → Balance State
balance_of s c =
    balance_over (s ∷ []) (shares_cube (free_units s)) c.tree c.seen c.order (IsNarrow (free_units s))

-- every selection from the stratum is balanced from its start: by the cube, and by the local cube wherever its free units lie
pub record AreBalanced (s : StratumUnits) : Type 0 where
  -- both start from a state of their own, and so is each to which a path leads from there, by the laws of the methods
  pub own : IsBalancing (free_units s) (starting (free_units s))
  pub local_own : (coords : List (List ℤ))
      → IsLocal (free_units s) (started (record { units = free_units s; coords = coords }))
  pub cube : IsBalanced (balance_of s (cube_of (free_units s))) (starting (free_units s))
  pub local_cube : (coords : List (List ℤ))
      → IsBalanced (balance_of s (local_of (free_units s))) (started (record { units = free_units s; coords = coords }))

abbrev pub EachIsBalanced : Type 0
EachIsBalanced = (s : StratumUnits) → AreStratumUnits s → AreBalanced s

-- ---- all strata together

-- the free units of each stratum with their balancing values
abbrev pub layers_of : List StratumUnits → List Layer
layers_of frame = map (λ s. record { request = s.request; values = free_values s }) frame

-- the units that the method draws from
abbrev pub frame_units : List StratumUnits → Units
frame_units frame = units_of (layers_of frame)

-- what the cube over all strata balances
abbrev pub frame_balance : List StratumUnits → Balance strata.Balancing
frame_balance frame =
    balance_over frame (strat_cube (frame_units frame)) (strat_tree (frame_units frame)) (λ t. t)
    (λ t. fractional_units (values_in t)) ⊥

-- the selection of all strata is balanced from its start, which is a state of its own
pub record IsBalancedFrame (frame : List StratumUnits) : Type 0 where
  pub own : strata.IsBalancing (frame_units frame) (strata.started (frame_units frame))
  pub balanced : IsBalanced (frame_balance frame) (strata.started (frame_units frame))

-- strata that can be drawn together: 15 at most, with as many balancing columns each, and 16 rows at most
pub record IsFrame (frame : List StratumUnits) : Type 0 where
  pub some : 1 ≤ length frame
  pub few : length frame ≤ 15
  pub rows : row_count frame ≤ 16
  pub each : All AreStratumUnits frame
  pub same : All (λ s. column_count s ≡ columns_in frame) frame

abbrev pub EachFrameIsBalanced : Type 0
EachFrameIsBalanced = (frame : List StratumUnits) → IsFrame frame → IsBalancedFrame frame
