-- The parts of a method's state, put among all states.
use Rattle.std.proofs.Common.{◌≡◌, ℕ, List, Option, Some, None, refl, sym, ap, ◌∙◌}
use Rattle.smp_split.specs.{Embeds.{embedded}, Parts.{moved}, Trees.{Part, Tree, weight_sum, picked}}
use Rattle.smp_split.specs.Laws.Parts.{weight_sum-moved, picked-moved}
use Rattle.smp_methods.specs.{declared.any.AnyState.{AnyState}, Designs.{Variant, tree_among, variant}, Kept.Alone.{IsStep, StepsAlone}}

-- the bound of the draw is the same
pub bound_moved : {Inner : Type 0} (into : Inner → AnyState) (parts : List (Part Inner)) → weight_sum (moved into parts) ≡ weight_sum parts
bound_moved into parts = weight_sum-moved into parts

-- a method's own step is that of the design among all methods
module _ {State : Type 0} (into : State → AnyState) (out : AnyState → Option State) (back : (state : State) → out (into state) ≡ Some state) (tree : Tree State) (from to : AnyState) (draw : ℕ) where
  step_at : (own : Option State) → out from ≡ own → IsStep into tree own from to draw → to ≡ picked from ((embedded into out tree).parts from) draw
  step_at None is step = absurd step
  step_at (Some state) is step =
      let parts : (embedded into out tree).parts from ≡ moved into (tree.parts state) = rw is refl in
      step.1 ∙ sym (picked-moved into state (tree.parts state) draw)
      ∙ ap (λ (s : AnyState). picked s (moved into (tree.parts state)) draw) (sym step.0)
      ∙ ap (λ (ps : List (Part AnyState)). picked from ps draw) (sym parts)

pub steps_among : (v : Variant) (from to : AnyState) (draw : ℕ) → StepsAlone v from to draw → to ≡ picked from ((tree_among v).parts from) draw
steps_among (variant name tree design into out back) from to draw step = step_at into out back tree from to draw (out from) refl step
