-- What the design of each method owes with its draw tree, for the proofs: what is said of a draw goes by the tree alone. Each method has
-- a row in one list more.
use Rattle.smp_split.specs.Embeds.{BelongsInside, embedded}
use Rattle.smp_split.specs.Methods.{Method}
use Rattle.smp_split.specs.Trees.{Lawful, Tree}
use Rattle.smp_split.proofs.Embeds.{embedded_lawful}
use Rattle.smp_pivotal.specs.PivotalMethod as pivotal
use Rattle.smp_pivotal.specs.SystematicMethod as systematic
use Rattle.smp_minsup.specs.Method as support
use Rattle.smp_brewer.specs.Method as brewer
use Rattle.smp_localpiv.specs.Method as local
use Rattle.smp_elim.specs.Method as elimination
use Rattle.smp_flight.specs.CubeMethod as cube
use Rattle.smp_localcube.specs.Method as local_cube
use Rattle.smp_stratcube.specs.Method as stratified_cube
use Rattle.smp_methods.specs.declared.any.AnyDesign.{AnyDesign}
use Rattle.smp_methods.specs.declared.any.AnyDesign.TheVariants as designs
use Rattle.smp_methods.specs.declared.any.AnyState.{AnyState}
use Rattle.smp_methods.specs.Designs.{Variant, design_tree, variant, variant_of}

-- What is owed with a tree: which states are its own, and the law that each split of these is lawful.
pub record Owed {State : Type 0} (tree : Tree State) : Type 1 where
  pub belongs : State → Type 0
  pub lawful : Lawful tree belongs

-- what a method owes with its tree
abbrev pub owed : {State : Type 0} → (method : Method State) → Owed method.tree
owed method = record { belongs = method.belongs; lawful = method.lawful }

-- what is owed with the tree of a variant
abbrev pub IsOwed : Variant → Type 1
IsOwed (variant name tree design into out back) = Owed tree

-- the method that owes it, among those of all methods
abbrev pub among : (v : Variant) → IsOwed v → Method AnyState
among (variant name tree design into out back) its = record {
  tree = embedded into out tree;
  belongs = BelongsInside into out tree its.belongs;
  lawful = embedded_lawful into out tree back its.belongs its.lawful;
}

-- what each design owes: the list of the methods
abbrev pub owed_by : AnyDesign → Method AnyState
owed_by (designs.Pivotal s) = among (variant_of (designs.Pivotal s)) (owed (pivotal.method_of s))
owed_by (designs.Systematic s) = among (variant_of (designs.Systematic s)) (owed (systematic.method_of s))
owed_by (designs.MinimumSupport s) = among (variant_of (designs.MinimumSupport s)) (owed (support.method_of s))
owed_by (designs.Brewer s) = among (variant_of (designs.Brewer s)) (owed (brewer.method_of s))
owed_by (designs.LocalPivotal s) = among (variant_of (designs.LocalPivotal s)) (owed (local.method_of s))
owed_by (designs.Cube units) = among (variant_of (designs.Cube units)) (owed (cube.method_of units))
owed_by (designs.Elimination s) = among (variant_of (designs.Elimination s)) (owed (elimination.method_of s))
owed_by (designs.LocalCube design) = among (variant_of (designs.LocalCube design)) (owed (local_cube.method_of design))
owed_by (designs.StratifiedCube units) = among (variant_of (designs.StratifiedCube units)) (owed (stratified_cube.method_of units))

-- the law of its splits, which is one of the design's tree: so it is in each case, by what `owed_by` says there
abbrev pub lawful_by : (design : AnyDesign) → Lawful (design_tree design) (owed_by design).belongs
lawful_by (designs.Pivotal s) = (owed_by (designs.Pivotal s)).lawful
lawful_by other = (owed_by other).lawful

-- the method of a design: its draw tree, which states are its own, and the law of its splits
abbrev pub method_of : AnyDesign → Method AnyState
method_of design = record {
  tree = design_tree design;
  belongs = (owed_by design).belongs;
  lawful = lawful_by design;
}
