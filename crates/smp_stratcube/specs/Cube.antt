-- The cube over all strata together (Deville and Tillé 2004, with the balancing equations of Chauvet 2009). In its flight, moves
-- keep the size of each stratum and the total of each variable over all strata. Its pivotal steps go stratum by stratum.
use Rattle.std.specs.Prelude.{List, length}
use Rattle.smp_split.specs.Trees.{Tree}
use Rattle.smp_values.specs.Steps.{kind_on}
use Rattle.smp_moves.specs.Cubes as cubes
use Rattle.smp_moves.specs.Cubes.{Cube}
use Rattle.smp_stratcube.specs.declared.values.Value.{Value}
use Rattle.smp_stratcube.specs.Units.{Units}
use Rattle.smp_stratcube.specs.Values.{fractional_count, fractional_units, is_fractional, is_one, value_at}
use Rattle.smp_stratcube.specs.States.{Balancing}
use Rattle.smp_stratcube.specs.Moves.{setting_of}
use Rattle.smp_stratcube.specs.Steps.{stepping}
use Rattle.smp_stratcube.specs.Pairs.{paired_parts, step_units}

-- the cube over these units
abbrev pub strat_cube : Units → Cube (List Value)
strat_cube units = record {
  units = length units.members;
  value_at = value_at;
  is_one = is_one;
  is_fractional = is_fractional;
  fractional_units = fractional_units;
  fractional_count = fractional_count;
  setting = setting_of units;
  end_at = stepping.end_at units;
  pair_kind = λ values. kind_on (step_units units values);
  pair_parts = paired_parts units;
}

-- the draw tree of the cube over all strata of these units
abbrev pub strat_tree : Units → Tree Balancing
strat_tree units = cubes.tree_by (strat_cube units) (λ f. stepping.next_on units (fractional_units f.values) f)
