-- The elimination procedure as a method, and where it starts.
use Rattle.std.specs.Prelude.{◌≡◌, ℕ, ◌<◌, false, List, length, EachIndex}
use Rattle.smp_frac.specs.Fractions.{Same}
use Rattle.smp_prob.specs.declared.requests.Request.{Request}
use Rattle.smp_prob.specs.Shares.{draws_of}
use Rattle.smp_split.specs.Methods.{Method}
use Rattle.smp_split.specs.Paths.{Entry, Leads}
use Rattle.smp_split.specs.Trees.{Tree, weight_sum}
use Rattle.smp_elim.specs.Elimination.{Remaining, IsRemaining, all_left, elimination_tree, fraction_at}
use Rattle.smp_elim.specs.Laws.Splits.{elimination_lawful}

-- the state before the first step of a selection of as many units as the request draws
abbrev pub started : Request → Remaining
started request = all_left request.shape (draws_of request)

-- the same of a selection of so many units with the shape of the request
abbrev pub started_to : Request → ℕ → Remaining
started_to request size = all_left request.shape size

-- the method over as many units as the design has
abbrev pub method_of : Remaining → Method Remaining
method_of design = record {
  tree = elimination_tree (length design.sizes);
  belongs = IsRemaining (length design.sizes);
  lawful = elimination_lawful (length design.sizes);
}

-- the value of each unit is its probability among as many units as are wanted
abbrev pub HasFractions : Remaining → Remaining → Type 0
HasFractions design state = EachIndex design.sizes (λ unit.
    Same ((method_of design).tree.value state unit) (fraction_at design design.wanted unit))

-- whatever is drawn, the bound of each step from a state on is below a limit
abbrev pub BoundsAreBelow : ℕ → Tree Remaining → Remaining → Type 0
BoundsAreBelow limit tree state =
    (path : List Entry) (to : Remaining) → Leads tree state path to → tree.done to ≡ false
    → weight_sum (tree.parts to) < limit
