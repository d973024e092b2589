use Rattle.std.proofs.Common.{◌≡◌, drop}
use Rattle.smp_stratcube.specs.Layers.{variables}
use Rattle.smp_stratcube.proofs.making.variables_of.Given as goal

-- no unit was found so far
abbrev pub invariant-loop-stratum : goal.invariant-loop-stratum
invariant-loop-stratum l = variables l.layers ≡ variables (drop l.stratum l.layers)
