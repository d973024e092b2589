-- The design of a request by any procedure, its draw tree, and its first state. Each method has a row in each of two
-- lists: how it starts, and by which tree it is drawn. What it owes stands in Methods.
use Rattle.std.specs.Prelude.{◌≡◌, ℕ, ℤ, List, [], ◌∷◌, length, Option, Some, None, refl}
use Rattle.smp_prob.specs.declared.requests.Request.{Request}
use Rattle.smp_split.specs.Embeds.{embedded}
use Rattle.smp_split.specs.Trees.{Tree}
use Rattle.smp_values.specs.InOrder.{placed_tree}
use Rattle.smp_design.specs.declared.method.Method as named
use Rattle.smp_design.specs.declared.method.Method.TheVariants as method
use Rattle.smp_pivotal.specs.PivotalMethod as pivotal
use Rattle.smp_pivotal.specs.Pivotal.{pivotal_rule}
use Rattle.smp_pivotal.specs.SystematicMethod as systematic
use Rattle.smp_pivotal.specs.Systematic.{systematic_rule}
use Rattle.smp_minsup.specs.Method as support
use Rattle.smp_minsup.specs.Support.{support_tree}
use Rattle.smp_brewer.specs.Method as brewer
use Rattle.smp_brewer.specs.Brewer.{brewing_tree, units_of as count_of}
use Rattle.smp_localpiv.specs.Method as local
use Rattle.smp_localpiv.specs.Local.{local_tree}
use Rattle.smp_elim.specs.Method as elimination
use Rattle.smp_elim.specs.Elimination.{elimination_tree}
use Rattle.smp_moves.specs.Cubes.{left_in}
use Rattle.smp_flight.specs.Requests.{units_of}
use Rattle.smp_flight.specs.Selections.{starting}
use Rattle.smp_flight.specs.Cube.{cube_tree}
use Rattle.smp_localpiv.specs.Coordinates.{points_of}
use Rattle.smp_localcube.specs.Local as near_cube
use Rattle.smp_localcube.specs.Method as local_cube
use Rattle.smp_stratcube.specs.States as stratified
use Rattle.smp_stratcube.specs.Layers.{Layer}
use Rattle.smp_stratcube.specs.Cube.{strat_tree}
use Rattle.smp_stratcube.specs.Units as strata
use Rattle.smp_design.specs.declared.procedure.Procedure.{Procedure}
use Rattle.smp_methods.specs.declared.any.AnyDesign.{AnyDesign}
use Rattle.smp_methods.specs.declared.any.AnyDesign.TheVariants as designs
use Rattle.smp_methods.specs.declared.any.AnyState.{AnyState}
use Rattle.smp_methods.specs.declared.any.AnyState.TheVariants as states

-- the design of all strata together, by the cube
abbrev pub design_of_strata : List Layer → AnyDesign
design_of_strata layers = designs.StratifiedCube (strata.units_of layers)

-- The design of a request by a method, with the requested probabilities: each free unit has a list of balancing values and one of
-- coordinates, which a method doesn't look at that takes none. By the cube over all strata it is that of one stratum.
abbrev pub design_by : named.Method → Procedure → Request → List (List ℤ) → List (List ℤ) → AnyDesign
design_by method.Pivotal way request values points =
    designs.Pivotal (pivotal.started request way.order)
design_by method.Systematic way request values points =
    designs.Systematic (systematic.started request way.order)
design_by method.MinimumSupport way request values points =
    designs.MinimumSupport (support.started request)
design_by method.Brewer way request values points = designs.Brewer (brewer.started request)
design_by method.LocalPivotal way request values points =
    designs.LocalPivotal (local.started request (points_of way.near points))
design_by method.Cube way request values points = designs.Cube (units_of request values)
design_by method.Elimination way request values points =
    designs.Elimination (elimination.started request)
design_by method.LocalCube way request values points =
    designs.LocalCube (record { units = units_of request values; coords = points_of way.near points })
design_by method.StratifiedCube way request values points =
    design_of_strata (record { request = request; values = values } ∷ [])

-- the same, by a procedure
abbrev pub design_of : Procedure → Request → List (List ℤ) → List (List ℤ) → AnyDesign
design_of way request values points = design_by way.method way request values points

-- One method's design among all: its method's name; its draw tree; the design, which is seen as its first state; `into`, which puts
-- the method's states among those of all methods, and `out`, which gives them back; and that it gives back what was put there.
pub data Variant : Type 1 where
  variant : {State : Type 0} → named.Method → Tree State → State → (into : State → AnyState)
      → (out : AnyState → Option State) → ((state : State) → out (into state) ≡ Some state)
      → Variant

-- the variant that each design is: the list of the methods, each with its tree over as many units as the design has
abbrev pub variant_of : AnyDesign → Variant
variant_of (designs.Pivotal s) =
    variant method.Pivotal (placed_tree pivotal_rule (length s.state.numer)) s states.Pivotal
    (elim [ states.Pivotal state ↦ Some state | other ↦ None ]) (λ _. refl)
variant_of (designs.Systematic s) =
    variant method.Systematic (placed_tree systematic_rule (length s.state.numer)) s states.Systematic
    (elim [ states.Systematic state ↦ Some state | other ↦ None ]) (λ _. refl)
variant_of (designs.MinimumSupport s) =
    variant method.MinimumSupport (support_tree (length s.numer)) s states.MinimumSupport
    (elim [ states.MinimumSupport state ↦ Some state | other ↦ None ]) (λ _. refl)
variant_of (designs.Brewer s) = variant method.Brewer (brewing_tree (count_of s)) s states.Brewer
    (elim [ states.Brewer state ↦ Some state | other ↦ None ]) (λ _. refl)
variant_of (designs.LocalPivotal s) =
    variant method.LocalPivotal (local_tree (length s.state.numer)) s states.LocalPivotal
    (elim [ states.LocalPivotal state ↦ Some state | other ↦ None ]) (λ _. refl)
variant_of (designs.Cube units) =
    variant method.Cube (cube_tree units) (starting units) states.Cube
    (elim [ states.Cube state ↦ Some state | other ↦ None ]) (λ _. refl)
variant_of (designs.Elimination s) =
    variant method.Elimination (elimination_tree (length s.sizes)) s states.Elimination
    (elim [ states.Elimination state ↦ Some state | other ↦ None ]) (λ _. refl)
variant_of (designs.LocalCube design) =
    variant method.LocalCube (near_cube.local_tree design.units) (local_cube.started design) states.LocalCube
    (elim [ states.LocalCube state ↦ Some state | other ↦ None ]) (λ _. refl)
variant_of (designs.StratifiedCube units) =
    variant method.StratifiedCube (strat_tree units) (stratified.started units) states.StratifiedCube
    (elim [ states.StratifiedCube state ↦ Some state | other ↦ None ]) (λ _. refl)

-- the tree over the states of all methods
abbrev pub tree_among : Variant → Tree AnyState
tree_among (variant name tree design into out back) = embedded into out tree

-- the design's first state among the states of all methods
abbrev pub state_among : Variant → AnyState
state_among (variant name tree design into out back) = into design

-- the method that a design is drawn by
abbrev pub name_of : Variant → named.Method
name_of (variant name tree design into out back) = name

abbrev pub drawn_by : AnyDesign → named.Method
drawn_by design = name_of (variant_of design)

-- the draw tree of a design
abbrev pub design_tree : AnyDesign → Tree AnyState
design_tree design = tree_among (variant_of design)

-- the state before the first step
abbrev pub first_state : AnyDesign → AnyState
first_state design = state_among (variant_of design)

-- how many units were undecided where the landing of the cube, of the local cube or of the cube over all strata began, and 0 by any
-- other method
abbrev pub left_at : AnyDesign → AnyState → ℕ
left_at (designs.Cube units) (states.Cube state) = left_in state
left_at (designs.LocalCube design) (states.LocalCube state) = left_in state.at
left_at (designs.StratifiedCube units) (states.StratifiedCube state) = left_in state
left_at design state = 0
