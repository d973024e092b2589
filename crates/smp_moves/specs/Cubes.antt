-- The cube (Deville and Tillé 2004), in whatever its values are kept: its states and its draw tree. The flight's moves keep the balancing
-- totals as long as there is a direction for them. Then the landing begins. Where no direction is left, the last row in force is dropped,
-- and the flight goes on without it. Where a number would pass its gate, pivotal steps finish the selection.
use Rattle.std.specs.Prelude.{ℕ, ◌+◌, ◌-◌, Bool, nat_eq, if◌then◌else◌, List, [], ◌∷◌, map}
use Rattle.smp_frac.specs.Fractions.{Fraction}
use Rattle.smp_kernel.specs.RowReduction.{cut, AreIndependent}
use Rattle.smp_split.specs.Trees.{Part, Tree}
use Rattle.smp_split.specs.Parts.{moved}
use Rattle.smp_split.specs.declared.kind.Kind.{Kind}
use Rattle.smp_split.specs.declared.kind.Kind.TheVariants as kind
use Rattle.smp_moves.specs.Moves.{Line, Move, Next, Setting, move, independent, wide, chosen_line, turned}

-- ---- the states

-- a state of the flight: the values, how many rows are in force, which are the first ones, and what no step changes
pub record Flight (Values Fixed : Type 0) : Type 0 where
  pub values : Values
  pub rows : ℕ
  pub fixed : Fixed

-- A state: one of the flight, or values on which pivotal steps go on. With it stands how many units were fractional where the
-- landing began, and 0 as long as it hasn't begun.
pub data Balancing (Values Fixed : Type 0) : Type 0 where
  flying : Flight Values Fixed → ℕ → Balancing Values Fixed
  pairing : Values → ℕ → Balancing Values Fixed

module _ {Values Fixed : Type 0} where
  -- the values of a state
  abbrev pub values_in : Balancing Values Fixed → Values
  values_in (flying f left) = f.values
  values_in (pairing values left) = values

  -- how many rows are in force: none in pivotal steps
  abbrev pub rows_in : Balancing Values Fixed → ℕ
  rows_in (flying f left) = f.rows
  rows_in (pairing values left) = 0

  -- how many units were fractional where the landing began, or 0
  abbrev pub left_in : Balancing Values Fixed → ℕ
  left_in (flying f left) = left
  left_in (pairing values left) = left

  -- a step for each fractional unit, one for each row that may be dropped, and one over to pivotal steps
  abbrev pub rank_in : (Values → ℕ) → Balancing Values Fixed → ℕ
  rank_in fractional (flying f left) = fractional f.values + f.rows + 1
  rank_in fractional (pairing values left) = fractional values

  -- the state at the end of a move that is chosen, by the values at the end of a line
  abbrev pub chosen_by : (Values → Line → Values) → Flight Values Fixed → Move → Bool → Flight Values Fixed
  chosen_by end_at f m plus = record f { values = end_at f.values (chosen_line m plus) }

-- ---- the steps

-- the landing begins where so many units are fractional, unless it began before
abbrev pub landed : ℕ → ℕ → ℕ
landed fractional left = if nat_eq left 0 then fractional else left

-- the kind of a step in flight
abbrev pub flight_kind : Next → Kind
flight_kind (move m) = kind.Flight
flight_kind independent = kind.Drop
flight_kind wide = kind.Wide

-- A cube: how many units there are; the value of each, whether it is 1, and whether it is fractional; which units are, in order, and how
-- many; what a step goes by; the values at the end of a line; and the kind and the parts of a pivotal step.
pub record Cube (Values : Type 0) : Type 1 where
  pub units : ℕ
  pub value_at : Values → ℕ → Fraction
  pub is_one : Values → ℕ → Bool
  pub is_fractional : Values → ℕ → Bool
  pub fractional_units : Values → List ℕ
  pub fractional_count : Values → ℕ
  pub setting : Setting Values
  pub end_at : Values → Line → Values
  pub pair_kind : Values → Kind
  pub pair_parts : Values → List (Part Values)

module _ {Values Fixed : Type 0} (cube : Cube Values) where
  -- the parts of a state in flight, by its next step: to the ends of a move, or with the last row in force dropped, or over to pivotal
  -- steps
  abbrev pub flight_parts : Flight Values Fixed → ℕ → Next → List (Part (Balancing Values Fixed))
  flight_parts f left (move m) =
      record { weight = m.plus_weight; state = flying (record f { values = cube.end_at f.values m.direction }) left }
      ∷ record { weight = m.minus_weight; state = flying (record f { values = cube.end_at f.values (turned m.direction) }) left } ∷ []
  flight_parts f left independent =
      record {
        weight = 1;
        state = flying (record f { rows = f.rows - 1 }) (landed (cube.fractional_count f.values) left);
      } ∷ []
  flight_parts f left wide =
      record { weight = 1; state = pairing f.values (landed (cube.fractional_count f.values) left) } ∷ []

  -- the columns of the fractional units are independent in the rows in force
  abbrev pub HasIndependentColumns : Balancing Values Fixed → Type 0
  HasIndependentColumns s = AreIndependent (rows_in s)
      (cut (rows_in s) (map cube.setting.column (cube.fractional_units (values_in s))))

  module _ (next : Flight Values Fixed → Next) where
    -- the kind of the step of a state
    abbrev pub kind_by : Balancing Values Fixed → Kind
    kind_by (flying f left) = flight_kind (next f)
    kind_by (pairing values left) = cube.pair_kind values

    -- the parts of the step of a state
    abbrev pub parts_by : Balancing Values Fixed → List (Part (Balancing Values Fixed))
    parts_by (flying f left) = flight_parts f left (next f)
    parts_by (pairing values left) = moved (λ t. pairing t left) (cube.pair_parts values)

    -- the draw tree by such steps, which is done where no unit is fractional, and selects the units of value 1
    abbrev pub tree_by : Tree (Balancing Values Fixed)
    tree_by = record {
      units = cube.units;
      done = λ s. nat_eq (cube.fractional_count (values_in s)) 0;
      kind = kind_by;
      parts = parts_by;
      rank = rank_in cube.fractional_count;
      value = λ s unit. cube.value_at (values_in s) unit;
      selected = λ s unit. cube.is_one (values_in s) unit;
    }
