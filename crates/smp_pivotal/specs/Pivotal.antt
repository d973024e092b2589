-- Sequential pivotal selection (Deville and Tillé 1998), in the order of the frame or in an order that is drawn first.
use Rattle.std.specs.Prelude.{ℕ}
use Rattle.smp_frac.specs.Limits.{most_denominator}
use Rattle.smp_prob.specs.Shares.{Shares}
use Rattle.smp_split.specs.Trees.{Tree}
use Rattle.smp_split.specs.Orders.{Ordered}
use Rattle.smp_values.specs.InOrder.{StepRule, IsPlacedBy, placed_tree}
use Rattle.smp_values.specs.Steps.{pivotal_kind, pivotal_parts}

-- pivotal steps, with the number of fractional values as their rank
abbrev pub pivotal_rule : StepRule
pivotal_rule = record {
  most = most_denominator;
  kind = pivotal_kind;
  parts = pivotal_parts;
  rank = λ fractional. fractional;
}

-- these steps on the values of so many units, once their order is drawn
-- e.g. of 4 units it is the tree of section 2 of draw.md
abbrev pub pivotal_tree : ℕ → Tree (Ordered Shares)
pivotal_tree units = placed_tree pivotal_rule units

-- a state of a selection of so many units
abbrev pub IsPivotal : ℕ → Ordered Shares → Type 0
IsPivotal units s = IsPlacedBy pivotal_rule units s
