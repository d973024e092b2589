-- One more stage in its first state.
use Rattle.std.proofs.Common.{List, [], ◌∷◌, ◌++◌, arith, refl, length-append}
use Rattle.smp_methods.specs.declared.any.AnyState.{AnyState}
use Rattle.smp_split.specs.declared.places.Stage.{Stage}
use Rattle.smp_split.proofs.Grown.{each_more}
use Rattle.smp_twostage.specs.{Kept.Stages.{EachStarts, StageStarts}, Selections.{Selecting}}

pub none_start : EachStarts [] []
none_start = record { paired = refl; each = λ i stage state is _. absurd (cc) }

pub one_more : (stages : List (Stage Selecting)) (states : List AnyState) (stage : Stage Selecting) (state : AnyState) → EachStarts stages states → StageStarts stage.design state → EachStarts (stages ++ stage ∷ []) (states ++ state ∷ [])
one_more stages states stage state each starts = record {
  paired = omega (arith, each.paired, length-append states (state ∷ []), length-append stages (stage ∷ []));
  each = each_more StageStarts stages states stage state each.paired each.each starts;
}
