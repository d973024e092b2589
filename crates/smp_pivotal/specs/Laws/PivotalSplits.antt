-- The splits of sequential pivotal selection are lawful, and each leaf selects one of the whole numbers of units around the sum of
-- the values.
use Rattle.std.proofs.Common.{ℕ, arith}
use Rattle.smp_frac.specs.Limits.{most_denominator}
use Rattle.smp_prob.specs.Shares.{Shares}
use Rattle.smp_split.specs.Counts.{LeavesSelectAround}
use Rattle.smp_split.specs.Orders.{Ordered}
use Rattle.smp_split.specs.Trees.{Lawful}
use Rattle.smp_values.specs.InOrder.{LawfulRule}
use Rattle.smp_values.specs.Steps.{pivotal_kind, pivotal_parts}
use Rattle.smp_values.proofs.Designs.{in_order_lawful, in_order_around}
use Rattle.smp_values.proofs.Pivotal.{steps_split, steps_near}
use Rattle.smp_pivotal.specs.Pivotal.{IsPivotal, pivotal_rule, pivotal_tree}

pub pivotal_lawful : (units : ℕ) → Lawful (pivotal_tree units) (IsPivotal units)
pivotal_lawful units = in_order_lawful units most_denominator pivotal_kind pivotal_parts (λ fractional. fractional) (steps_split units)

pub leaf_around : (units : ℕ) (s : Ordered Shares) → IsPivotal units s → LeavesSelectAround (pivotal_tree units) s
leaf_around units =
    in_order_around units most_denominator pivotal_kind pivotal_parts (λ fractional. fractional) (steps_split units)
    (λ total den t here going. steps_near units t here going total den)

pub pivotal_law : LawfulRule pivotal_rule
pivotal_law = record { wide = omega arith; lawful = pivotal_lawful; around = leaf_around }
