use Rattle.std.proofs.Common.{◌≡◌, map, take}
use Rattle.smp_stratcube.specs.Kept.States.{requested_value}
use Rattle.smp_stratcube.proofs.design.requested.Given as goal

-- the values so far
abbrev pub invariant-loop-unit : goal.invariant-loop-unit
invariant-loop-unit l = l.values.items ≡ map requested_value (take l.unit l.units.members)
