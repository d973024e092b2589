use Rattle.std.proofs.Common.{◌≡◌}
use Rattle.smp_twostage.specs.Selections.{units_before}
use Rattle.smp_twostage.proofs.made.units_before.Given as goal

abbrev pub invariant-loop-number : goal.invariant-loop-number
invariant-loop-number l = l.before ≡ units_before l.plan.strata l.number
