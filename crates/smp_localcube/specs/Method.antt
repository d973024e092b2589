-- The local cube as a method, and where it starts.
use Rattle.std.specs.Prelude.{ℤ, List, [], None}
use Rattle.smp_split.specs.Methods.{Method}
use Rattle.smp_flight.specs.Selections.{starting}
use Rattle.smp_flight.specs.States.{Units}
use Rattle.smp_localcube.specs.Local.{IsLocal, Local, local_tree}
use Rattle.smp_localcube.specs.Laws.Splits.{local_lawful}

-- the units with their balancing values, and where they lie
pub record LocalUnits : Type 0 where
  pub units : Units
  pub coords : List (List ℤ)

-- the state before the first step: the requested probabilities with all rows in force, no unit touched and none chosen
abbrev pub started : LocalUnits → Local
started design = record {
  coords = design.coords;
  at = starting design.units;
  touched = [];
  chosen = None;
}

-- the method over these units
abbrev pub method_of : LocalUnits → Method Local
method_of design = record {
  tree = local_tree design.units;
  belongs = IsLocal design.units;
  lawful = local_lawful design.units;
}
