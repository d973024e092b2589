use Rattle.std.proofs.Common.{◌≡◌, ◌-◌, ◌^◌, length}
use Rattle.smp_kernel.specs.Vectors.{Within}
use Rattle.method_tests.proofs.kernel.limited.Given as goal

-- the numbers so far
abbrev pub invariant-loop-place : goal.invariant-loop-place
invariant-loop-place g l = record {
  size : length l.limited ≡ g.row.Q;
  within : Within (2 ^ 31 - 1) l.limited;
}
