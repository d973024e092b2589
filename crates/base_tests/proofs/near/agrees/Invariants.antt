use Rattle.std.proofs.Common.{◌≡◌, true, length}
use Rattle.smp_near.specs.Nearest.{is_living}
use Rattle.base_tests.proofs.near.agrees.Given as goal

-- the first point is never taken out
abbrev pub invariant-loop-k : goal.invariant-loop-k
invariant-loop-k g l = record {
  first : is_living l.points 0 ≡ true;
  paired : length l.living.items ≡ length l.coords;
}
