use Rattle.std.proofs.Common.{◌≡◌, ◌≤◌, ◌++◌, length, take}
use Rattle.smp_stratcube.specs.Kept.Fronts.{front_units, units_on}
use Rattle.smp_stratcube.proofs.fronts.filled.Given as goal

-- the units in the array so far, and those that are left
abbrev pub invariant-loop-unit : goal.invariant-loop-unit
invariant-loop-unit l = record {
  size : length l.array ≡ 17;
  few : l.number ≤ 17;
  all : take l.number l.array ++ units_on l.unit l.units ≡ front_units l.front ++ units_on l.front.place l.units;
}
