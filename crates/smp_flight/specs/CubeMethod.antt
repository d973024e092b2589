-- The cube as a method.
use Rattle.smp_split.specs.Methods.{Method}
use Rattle.smp_flight.specs.States.{Units}
use Rattle.smp_flight.specs.Selections.{Balancing, IsBalancing}
use Rattle.smp_flight.specs.Cube.{cube_tree}
use Rattle.smp_flight.specs.Laws.CubeSplits.{cube_lawful}

-- the method over these units
abbrev pub method_of : Units → Method Balancing
method_of units = record {
  tree = cube_tree units;
  belongs = IsBalancing units;
  lawful = cube_lawful units;
}
