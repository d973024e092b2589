-- Designs over units that stand in an order, by steps on the values at their places.
use Rattle.std.specs.Prelude.{ℕ, ◌≤◌, List, length}
use Rattle.smp_frac.specs.Limits.{most_denominator}
use Rattle.smp_prob.specs.declared.orders.Order.{Order}
use Rattle.smp_prob.specs.declared.requests.Request.{Request}
use Rattle.smp_prob.specs.Shares.{Shares, shares_of}
use Rattle.smp_split.specs.Counts.{LeavesSelectAround}
use Rattle.smp_split.specs.Methods.{Method}
use Rattle.smp_split.specs.Orders.{Ordered, IsInOrder, ordered_tree}
use Rattle.smp_split.specs.Trees.{Part, Tree, Lawful}
use Rattle.smp_split.specs.declared.kind.Kind.{Kind}
use Rattle.smp_values.specs.Starts.{ordered_values}
use Rattle.smp_values.specs.Values.{IsValues, exchanged_values, values_tree}

-- Steps on values: the largest denominator that they take, the kind of the next step, its parts, and the rank by the number of
-- fractional values.
pub record StepRule : Type 0 where
  pub most : ℕ
  pub kind : Shares → Kind
  pub parts : Shares → List (Part Shares)
  pub rank : ℕ → ℕ

-- the tree of steps on the values at so many places
abbrev pub places_tree : StepRule → ℕ → Tree Shares
places_tree rule units = values_tree units rule.kind rule.parts rule.rank

-- the tree of steps on the values of so many units, once their order is drawn
abbrev pub placed_tree : StepRule → ℕ → Tree (Ordered Shares)
placed_tree rule units = ordered_tree (places_tree rule units) exchanged_values

-- a state of a selection of so many units
abbrev pub IsPlacedBy : StepRule → ℕ → Ordered Shares → Type 0
IsPlacedBy rule units s = IsInOrder units (IsValues units rule.most) s

-- each split of such steps is lawful
abbrev pub AreLawful : StepRule → Type 0
AreLawful rule = (units : ℕ) → Lawful (placed_tree rule units) (IsPlacedBy rule units)

-- What such steps owe: they take every request, each split is lawful, and each leaf selects one of the whole numbers of units around
-- the sum of the values.
pub record LawfulRule (rule : StepRule) : Type 0 where
  pub wide : most_denominator ≤ rule.most
  pub lawful : AreLawful rule
  pub around : (units : ℕ) (s : Ordered Shares) → IsPlacedBy rule units s
      → LeavesSelectAround (placed_tree rule units) s

-- the state before the first step, with the requested values
-- e.g. (1,2,3,4)/5, in frame order
abbrev pub started : Request → Order → Ordered Shares
started request order = ordered_values order (shares_of request)

-- the method over as many units as the design has
abbrev pub placed_method : (rule : StepRule) → AreLawful rule → Ordered Shares → Method (Ordered Shares)
placed_method rule lawful design = record {
  tree = placed_tree rule (length design.state.numer);
  belongs = IsPlacedBy rule (length design.state.numer);
  lawful = lawful (length design.state.numer);
}
