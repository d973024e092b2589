-- The draw tree of n rows of some sizes, by sequential pivotal steps in the order of the rows, and what a tape draws in it.
use Rattle.std.specs.Prelude.{◌≡◌, ℕ, List, [], length}
use Rattle.smp_prob.specs.Requested.{requested_of}
use Rattle.smp_prob.specs.Shares.{Shares}
use Rattle.smp_prob.specs.declared.orders.Order.TheVariants.{Frame}
use Rattle.smp_tape.specs.declared.draws.DrawFault.{DrawFault}
use Rattle.smp_tape.specs.TapeSources.{tape_source}
use Rattle.smp_tape.specs.Tapes.{Values, tape_of_values}
use Rattle.smp_split.specs.Counts.{selected_units}
use Rattle.smp_split.specs.Orders.{Ordered}
use Rattle.smp_split.specs.Paths.{Entry}
use Rattle.smp_split.specs.Runs.{leaf, run, stopped}
use Rattle.smp_split.specs.Trees.{Tree}
use Rattle.smp_split.specs.Rows.{rows_tree}
use Rattle.smp_pivotal.specs.PivotalMethod.{method_of, started}

-- the state before the first step
abbrev pub start_of : List ℕ → ℕ → Ordered Shares
start_of sizes n = started (requested_of sizes n) Frame

-- the draw tree over all rows: the certain ones are selected at each leaf, those of size 0 at none
abbrev pub tree_of : List ℕ → ℕ → Tree (Ordered Shares)
tree_of sizes n = rows_tree (length sizes) (requested_of sizes n) (method_of (start_of sizes n)).tree

-- the rows are those that are selected at the leaf to which the values of a tape lead
pub record IsDrawn (sizes : List ℕ) (n : ℕ) (tape rows : List ℕ) : Type 0 where
  pub state : Ordered Shares
  pub path : List Entry
  pub left : Values
  pub ran : run tape_source (tree_of sizes n) (start_of sizes n) (tape_of_values [] tape) ≡ leaf state path left
  pub selected : rows ≡ selected_units (tree_of sizes n) state

-- the values of a tape lead to a state whose draw the tape refuses with this fault
pub record IsRefused (sizes : List ℕ) (n : ℕ) (tape : List ℕ) (fault : DrawFault) : Type 0 where
  pub state : Ordered Shares
  pub path : List Entry
  pub left : Values
  pub ran : run tape_source (tree_of sizes n) (start_of sizes n) (tape_of_values [] tape) ≡ stopped state path fault left
