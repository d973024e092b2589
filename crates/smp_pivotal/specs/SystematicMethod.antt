-- Systematic selection as a method, and where it starts.
use Rattle.smp_prob.specs.Shares.{Shares}
use Rattle.smp_split.specs.Methods.{Method}
use Rattle.smp_split.specs.Orders.{Ordered}
use Rattle.smp_values.specs.InOrder.{placed_method}
use Rattle.smp_pivotal.specs.Systematic.{systematic_rule}
use Rattle.smp_pivotal.specs.Laws.SystematicSplits.{systematic_law}
-- the state before the first step, with the requested values
pub use Rattle.smp_values.specs.InOrder.{started}

-- the method: a systematic step on the values of the design, in its order
abbrev pub method_of : Ordered Shares → Method (Ordered Shares)
method_of design = placed_method systematic_rule systematic_law.lawful design
