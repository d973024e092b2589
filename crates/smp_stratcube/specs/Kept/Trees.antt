-- The draw tree by the steps that the code finds, and what is said of it.
use Rattle.std.specs.Prelude.{ℕ, List}
use Rattle.smp_split.specs.Trees.{Part, Tree}
use Rattle.smp_split.specs.declared.kind.Kind.{Kind}
use Rattle.smp_moves.specs.Moves.{Next}
use Rattle.smp_moves.specs.Owed.{Weighed}
use Rattle.smp_stratcube.specs.Units.{Units}
use Rattle.smp_stratcube.specs.States.{Balancing, Flight}
use Rattle.smp_moves.specs.Cubes as cubes
use Rattle.smp_stratcube.specs.Values.{fractional_units}
use Rattle.smp_stratcube.specs.Cube.{strat_cube}
use Rattle.smp_stratcube.specs.Moves.{Stepping}
use Rattle.smp_stratcube.specs.Balances as totals
use Rattle.smp_stratcube.specs.declared.values.Value.{Value}
use Rattle.smp_stratcube.specs.Laws.Nexts.{each_step}

-- the cube over these units, by any `Stepping`
abbrev pub cube_by : Stepping → Units → cubes.Cube (List Value)
cube_by steps units = record (strat_cube units) { end_at = steps.end_at units }

abbrev pub flight_parts : Units → Flight → ℕ → Next → List (Part Balancing)
flight_parts units = cubes.flight_parts (cube_by each_step units)

-- the step of a state, its kind and its parts, by any `Stepping`
abbrev pub next_by : Stepping → Units → Flight → Next
next_by steps units f = steps.next_on units (fractional_units f.values) f

abbrev pub kind_by : Stepping → Units → Balancing → Kind
kind_by steps units = cubes.kind_by (cube_by steps units) (next_by steps units)

abbrev pub parts_by : Stepping → Units → Balancing → List (Part Balancing)
parts_by steps units = cubes.parts_by (cube_by steps units) (next_by steps units)

abbrev pub strat_kind : Units → Balancing → Kind
strat_kind = kind_by each_step

abbrev pub strat_parts : Units → Balancing → List (Part Balancing)
strat_parts = parts_by each_step

-- its draw tree, and its totals
abbrev pub tree_by : Stepping → Units → Tree Balancing
tree_by steps units = cubes.tree_by (cube_by steps units) (next_by steps units)

abbrev pub weighed_by : Stepping → Units → Weighed Balancing
weighed_by steps units = record (totals.weighed_of units) { tree = tree_by steps units }

abbrev pub strat_tree : Units → Tree Balancing
strat_tree = tree_by each_step

abbrev pub weighed_of : Units → Weighed Balancing
weighed_of = weighed_by each_step
