-- Selections by the cube over one stratum (Deville and Tillé 2004), whose values have a common denominator, whichever order the
-- searches of the flight go in.
use Rattle.std.specs.Prelude.{◌≡◌, ℕ, true, List, length}
use Rattle.std.specs.List.{Contains}
use Rattle.smp_frac.specs.Limits.{most_denominator}
use Rattle.smp_prob.specs.Shares.{Shares}
use Rattle.smp_split.specs.Trees.{Part, Tree, EachPart, Lawful}
use Rattle.smp_split.specs.Parts.{moved}
use Rattle.smp_split.specs.declared.kind.Kind.{Kind}
use Rattle.smp_split.specs.declared.kind.Kind.TheVariants as kind
use Rattle.smp_values.specs.Values.{IsValues, fractional_count, fractional_units, is_fractional, is_settled, is_one, value_at}
use Rattle.smp_values.specs.Steps.{pivotal_kind, pivotal_parts}
use Rattle.smp_moves.specs.Moves.{IsOrder}
use Rattle.smp_moves.specs.Cubes as cubes
use Rattle.smp_moves.specs.Cubes.{Cube, flying, pairing, values_in}
use Rattle.smp_flight.specs.States.{Units, IsFlight, row_count}
use Rattle.smp_flight.specs.Moves.{setting_of}
use Rattle.smp_flight.specs.Steps.{next_on, stepping}

-- a state of flight and landing
abbrev pub Balancing : Type 0
Balancing = cubes.Balancing Shares Units

-- a state of these units
abbrev pub IsBalancing : Units → Balancing → Type 0
IsBalancing units (flying f left) = IsFlight units f
IsBalancing units (pairing s left) = IsValues (length units.sizes) most_denominator s

-- the state before the first step: the requested probabilities with all rows in force, and no landing yet
abbrev pub starting : Units → Balancing
starting units = flying (record { values = units.requested; rows = row_count units; fixed = units }) 0

-- ---- the steps

-- the cube over these units, whose pivotal steps are sequential
abbrev pub shares_cube : Units → Cube Shares
shares_cube units = record {
  units = length units.sizes;
  value_at = value_at;
  is_one = is_one;
  is_fractional = is_fractional;
  fractional_units = fractional_units;
  fractional_count = fractional_count;
  setting = setting_of units;
  end_at = stepping.end_at units;
  pair_kind = pivotal_kind;
  pair_parts = pivotal_parts;
}

-- the kind and the parts of the step of a state whose search goes through these units
abbrev pub kind_by : Units → List ℕ → Balancing → Kind
kind_by units order = cubes.kind_by (shares_cube units) (next_on units order)

abbrev pub parts_by : Units → List ℕ → Balancing → List (Part Balancing)
parts_by units order = cubes.parts_by (shares_cube units) (next_on units order)

-- ---- selections whose states have more to them

-- all fractional units, each of them once
pub record IsWholeOrder (s : Shares) (order : List ℕ) : Type 0 where
  pub is_order : IsOrder s order
  pub all : (k : ℕ) → is_fractional s k ≡ true → Contains order k

-- A selection: its units, its draw tree, what each of its states is in flight and landing, and the units that the search of a state goes
-- through.
pub record Selection (State : Type 0) : Type 0 where
  pub units : Units
  pub tree : Tree State
  pub seen : State → Balancing
  pub order : State → List ℕ

-- a step that chooses a unit and changes nothing else, or one of flight and landing
pub data GoesOn {State : Type 0} (c : Selection State) (s : State) : Type 0 where
  chooses : c.tree.kind s ≡ kind.Choose → EachPart (λ p. c.seen p.state ≡ c.seen s) (c.tree.parts s) → GoesOn c s
  flies :
      IsWholeOrder (values_in (c.seen s)) (c.order s) → c.tree.kind s ≡ kind_by c.units (c.order s) (c.seen s)
      → moved c.seen (c.tree.parts s) ≡ parts_by c.units (c.order s) (c.seen s) → GoesOn c s

-- the states of the selection are those of flight and landing, and so are its steps, which are lawful
pub record IsSelection {State : Type 0} (c : Selection State) (belongs : State → Type 0) : Type 0 where
  pub lawful : Lawful c.tree belongs
  pub units : c.tree.units ≡ length c.units.sizes
  pub done : (s : State) → c.tree.done s ≡ is_settled (values_in (c.seen s))
  pub value : (s : State) → c.tree.value s ≡ value_at (values_in (c.seen s))
  pub selected : (s : State) → c.tree.selected s ≡ is_one (values_in (c.seen s))
  pub member : (s : State) → belongs s → IsBalancing c.units (c.seen s)
  pub step : (s : State) → belongs s → GoesOn c s
