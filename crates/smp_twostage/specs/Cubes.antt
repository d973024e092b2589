-- What the cube draws of a stratum, on the way to a leaf of the whole selection.
use Rattle.std.specs.Prelude.{◌≡◌, ℕ, true, List, Some, map}
use Rattle.std.specs.List.{slice_get}
use Rattle.smp_split.specs.Paths.{Entry, Leads}
use Rattle.smp_split.specs.Trees.{Tree}
use Rattle.smp_flight.specs.Selections.{Balancing, starting}
use Rattle.smp_localpiv.specs.Coordinates.{points_of}
use Rattle.smp_flight.specs.Cube.{cube_tree}
use Rattle.smp_localcube.specs.Local.{local_tree}
use Rattle.smp_localcube.specs.Method.{LocalUnits, started}
use Rattle.smp_stratcube.specs.Cube.{strat_tree}
use Rattle.smp_stratcube.specs.States as together
use Rattle.smp_stratcube.specs.Units as strata
use Rattle.smp_twostage.specs.Strata.{StratumUnits, free_units}
use Rattle.smp_design.specs.declared.method.Method.TheVariants as method
use Rattle.smp_methods.specs.declared.any.AnyState.{AnyState}
use Rattle.smp_methods.specs.declared.any.AnyState.TheVariants as states
use Rattle.smp_strata.specs.Plans.{Plan}
use Rattle.smp_strata.specs.declared.strata.Stratum.{Stratum}
use Rattle.smp_twostage.specs.Selections.{first_number, free_points, layers_of}
pub use Rattle.smp_twostage.specs.Selections.{balancing}

-- A part of a path leads through the tree of a selection, from a state to a leaf, at which the stage of this number ends.
pub record IsDrawnFrom {State : Type 0} (tree : Tree State) (from : State) (into : State → AnyState)
    (number : ℕ) (part : List Entry) (ends : List AnyState) : Type 0 where
  pub leaf : State
  pub leaf_is : slice_get ends number ≡ Some (into leaf)
  pub leads : Leads tree from part leaf
  pub ended : tree.done leaf ≡ true

-- the units that the local cube draws from, and where they lie
abbrev pub local_units : Plan → Stratum → LocalUnits
local_units plan s = record {
  units = free_units (balancing s);
  coords = points_of plan.procedure.near (free_points s);
}

-- The stratum is drawn so from the requested probabilities, by the cube or by the local cube.
pub data IsDrawnByCube (plan : Plan) (h : ℕ) (s : Stratum) (part : List Entry) (ends : List AnyState) : Type 0 where
  by_cube : plan.procedure.method ≡ method.Cube
      → IsDrawnFrom (cube_tree (free_units (balancing s))) (starting (free_units (balancing s)))
      states.Cube (first_number plan h) part ends → IsDrawnByCube plan h s part ends
  by_local_cube : plan.procedure.method ≡ method.LocalCube
      → IsDrawnFrom (local_tree (free_units (balancing s))) (started (local_units plan s))
      states.LocalCube (first_number plan h) part ends → IsDrawnByCube plan h s part ends

-- the leaf, as a state of flight and landing
abbrev pub leaf_of : {plan : Plan} {h : ℕ} {s : Stratum} {part : List Entry} {ends : List AnyState}
    → IsDrawnByCube plan h s part ends → Balancing
leaf_of (by_cube is drawn) = drawn.leaf
leaf_of (by_local_cube is drawn) = drawn.leaf.at

-- ---- all strata together

-- all strata as they are balanced
abbrev pub frame_of : Plan → List StratumUnits
frame_of plan = map balancing plan.strata

-- the units of all strata that are free, as they are balanced together
abbrev pub units_together : Plan → strata.Units
units_together plan = strata.units_of (layers_of plan)

-- The path leads from the requested probabilities to a leaf of the cube over all strata, and it ends the selection.
abbrev pub IsDrawnTogether : Plan → List Entry → List AnyState → Type 0
IsDrawnTogether plan part ends = IsDrawnFrom (strat_tree (units_together plan)) (together.started (units_together plan))
    states.StratifiedCube 0 part ends
