use Rattle.std.proofs.Common.{◌≡◌, length}
use Rattle.smp_near.proofs.regions.regions_of.Given as goal

-- as many regions as places so far
abbrev pub invariant-loop-unit : goal.invariant-loop-unit
invariant-loop-unit g l = length l.regions.items ≡ l.unit-index
