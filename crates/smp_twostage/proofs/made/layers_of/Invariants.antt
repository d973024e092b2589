use Rattle.std.proofs.Common.{◌≡◌, ◌++◌, drop, map}
use Rattle.smp_twostage.specs.Selections.{layers_of}
use Rattle.smp_twostage.proofs.Together.{layer_in}
use Rattle.smp_twostage.proofs.made.layers_of.Given as goal

-- the layers so far, and those of the other strata
abbrev pub invariant-loop-number : goal.invariant-loop-number
invariant-loop-number l = l.layers ++ map layer_in (drop l.number l.plan.strata) ≡ layers_of l.plan
