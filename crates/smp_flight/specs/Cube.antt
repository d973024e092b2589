-- The cube method (Deville and Tillé 2004): a selection by flight and landing whose searches go in the order of the frame.
use Rattle.std.specs.Prelude.{List}
use Rattle.smp_split.specs.Trees.{Part, Tree}
use Rattle.smp_split.specs.declared.kind.Kind.{Kind}
use Rattle.smp_values.specs.Values.{fractional_units}
use Rattle.smp_moves.specs.Cubes.{kind_by, parts_by, tree_by, values_in}
use Rattle.smp_flight.specs.States.{Units}
use Rattle.smp_flight.specs.Selections.{Balancing, Selection, shares_cube}
use Rattle.smp_flight.specs.Steps.{next}

-- the kind of the next step of a state, and its parts
abbrev pub cube_kind : Units → Balancing → Kind
cube_kind units = kind_by (shares_cube units) (next units)

abbrev pub cube_parts : Units → Balancing → List (Part Balancing)
cube_parts units = parts_by (shares_cube units) (next units)

-- the draw tree of the cube method
abbrev pub cube_tree : Units → Tree Balancing
cube_tree units = tree_by (shares_cube units) (next units)

-- the cube as a selection, whose searches go through the fractional units in the order of the frame
abbrev pub cube_of : Units → Selection Balancing
cube_of units = record { units = units; tree = cube_tree units; seen = λ s. s; order = λ s. fractional_units (values_in s) }
