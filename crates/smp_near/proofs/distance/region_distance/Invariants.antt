use Rattle.std.proofs.Common.{◌≡◌, ◌+◌, ◌*◌, ◌^◌, ◌≤◌, drop}
use Rattle.smp_near.specs.Kept.Regions.{region_distance}
use Rattle.smp_near.proofs.distance.region_distance.Given as goal

-- the sum so far and that of the rest are the whole, and each square so far is below 2 ^ 64
abbrev pub invariant-loop-axis : goal.invariant-loop-axis
invariant-loop-axis g l = record {
  so_far : l.sum + region_distance (drop l.axis l.lowest) (drop l.axis l.highest) (drop l.axis l.a) ≡ region_distance l.lowest l.highest l.a;
  narrow : l.sum ≤ l.axis * 2 ^ 64;
}
