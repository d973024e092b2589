use Rattle.std.proofs.Common.{◌≡◌, ◌≤◌, ◌^◌, take}
use Rattle.smp_moves.specs.Ends.{reach_from}
use Rattle.smp_stratcube.specs.Values.{over_common}
use Rattle.smp_stratcube.proofs.ends.reach_along.Given as goal

-- the least room so far
abbrev pub invariant-loop-place : goal.invariant-loop-place
invariant-loop-place l = record {
  is : l.least ≡ reach_from (over_common l.den l.values) (record { left = 1; size = 0 }) (take l.place l.line.units) (take l.place l.line.entries);
  left : l.least.left ≤ 2 ^ 80;
  size : l.least.size ≤ 2 ^ 44;
}
