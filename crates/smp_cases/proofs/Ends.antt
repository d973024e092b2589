-- How a run over a tape ends.
use Rattle.std.proofs.Common.{◌≡◌, ℕ, List, [], Err, refl, sym, ap, subst, ◌∙◌}
use Rattle.smp_tape.specs.{declared.draws.DrawFault.{DrawFault}, TapeSources.{tape_source}, Tapes.{Values, tape_of_values}}
use Rattle.smp_split.specs.{Paths.{Entry}, Runs.{leaf, stopped, run, IsLeaf, IsOutcome}, Trees.{Tree, Lawful}}
use Rattle.smp_split.proofs.Runs.{run_is}
use Rattle.smp_cases.specs.{Cases.{drawn, ended}, declared.fault.CaseFault.TheVariants.{Draw}}

module _ {State : Type 0} (tree : Tree State) (start : State) (values : List ℕ) (tape : Values) (taken : tape.taken ≡ []) (left : tape.left ≡ values) where
  tape_is : tape ≡ tape_of_values [] values
  tape_is = rw (← taken, ← left) refl

  from_tape : (outcome : _) → run tape_source tree start tape ≡ outcome → drawn tree start values ≡ ended tree outcome
  from_tape outcome ran = ap (λ t. ended tree (run tape_source tree start t)) (sym tape_is) ∙ ap (ended tree) ran

  -- at a leaf
  module _ (state : State) (path : List Entry) (end : Values) (ran : run tape_source tree start tape ≡ leaf state path end) where
    pub is_leaf : (belongs : State → Type 0) → Lawful tree belongs → belongs start → IsLeaf tape_source tree start tape state path end
    is_leaf belongs lawful here = subst (IsOutcome tape_source tree start tape) ran (run_is tape_source tree belongs lawful start tape here)

  -- at a refused draw
  pub drawn_refused : (state : State) (path : List Entry) (fault : DrawFault) (end : Values) → run tape_source tree start tape ≡ stopped state path fault end → drawn tree start values ≡ Err (Draw fault)
  drawn_refused state path fault end ran = from_tape (stopped state path fault end) ran
