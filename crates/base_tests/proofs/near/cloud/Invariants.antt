use Rattle.std.proofs.Common.{◌≡◌, length}
use Rattle.base_tests.proofs.near.cloud.Given as goal

-- as many points as numbers so far
abbrev pub invariant-loop-i : goal.invariant-loop-i
invariant-loop-i g l = length l.points.items ≡ l._i
