-- What a method itself says of its design and of a step, before it is told among all methods.
use Rattle.std.specs.Prelude.{◌≡◌, ℕ, false, Option, Some, None}
use Rattle.smp_prob.specs.declared.requests.Request.{Request}
use Rattle.smp_design.specs.Words.{row, balances, draws_together}
use Rattle.smp_split.specs.Counts.{LeavesSelectAround}
use Rattle.smp_split.specs.Methods.{HasCount}
use Rattle.smp_split.specs.Trees.{Tree, picked}
use Rattle.smp_values.specs.Starts.{IsRequested}
use Rattle.smp_stratcube.specs.Balances.{IsBalanced}
use Rattle.smp_stratcube.specs.Counts.{HasCounts}
use Rattle.smp_methods.specs.declared.any.AnyDesign.{AnyDesign}
use Rattle.smp_methods.specs.declared.any.AnyDesign.TheVariants as designs
use Rattle.smp_methods.specs.declared.any.AnyState.{AnyState}
use Rattle.smp_methods.specs.declared.any.AnyState.TheVariants as states
use Rattle.smp_methods.specs.Designs.{Variant, variant}

-- what holds of a method's own state
abbrev pub OfOwn : {State : Type 0} → (State → Type 0) → Option State → Type 0
OfOwn holds None = ⊥
OfOwn holds (Some state) = holds state

-- as many units are selected as the values add up to, by a method that draws each stratum by itself
abbrev pub CountAlone : Variant → AnyState → Type 0
CountAlone (variant name tree design into out back) from =
    OfOwn (λ state. draws_together name ≡ false → HasCount tree state) (out from)

-- in each stratum that many, by the one that draws all strata together, and it is balanced
abbrev pub StrataAlone : AnyDesign → AnyState → Type 0
StrataAlone (designs.StratifiedCube units) (states.StratifiedCube state) =
    HasCounts units state × IsBalanced units state
StrataAlone other from = Unit {0}

-- and its values are those that are requested
abbrev pub RequestedAlone : Request → Variant → Type 0
RequestedAlone request (variant name tree design into out back) =
    IsRequested tree request design

-- Each leaf selects one of the whole numbers of units around the sum of the values, whatever the sum, by a
-- method that draws not only a whole number of units and doesn't balance.
abbrev pub AroundAlone : Variant → AnyState → Type 0
AroundAlone (variant name tree design into out back) from =
    OfOwn (λ state. (row name).draws_whole ≡ false → balances name ≡ false → LeavesSelectAround tree state)
    (out from)

-- the draw leads from the method's own state to that of its part
abbrev pub IsStep : {State : Type 0} → (State → AnyState) → Tree State → Option State
    → AnyState → AnyState → ℕ → Type 0
IsStep into tree None from to draw = ⊥
IsStep into tree (Some state) from to draw =
    (from ≡ into state) × (to ≡ into (picked state (tree.parts state) draw))

abbrev pub StepsAlone : Variant → AnyState → AnyState → ℕ → Type 0
StepsAlone (variant name tree design into out back) from to draw =
    IsStep into tree (out from) from to draw
