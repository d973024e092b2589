-- Walks to a leaf.
use Rattle.std.specs.Prelude.{◌≡◌, ℕ, true, List}
use Rattle.smp_split.specs.Counts.{selected_units}
use Rattle.smp_split.specs.Paths.{Entry, Leads}
use Rattle.smp_split.specs.Trees.{Tree}

-- the path leads from the state to a leaf, where exactly these units are selected
pub record IsWalk {State : Type 0} (tree : Tree State) (state : State)
    (path : List Entry) (units : List ℕ) : Type 0 where
  pub leaf : State
  pub leads : Leads tree state path leaf
  pub done : tree.done leaf ≡ true
  pub selected : selected_units tree leaf ≡ units
