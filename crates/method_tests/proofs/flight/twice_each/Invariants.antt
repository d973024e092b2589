use Rattle.std.proofs.Common.{◌≡◌, ℕ, ◌<◌, ◌-◌, ◌^◌, length, get_or, []}
use Rattle.smp_kernel.specs.Vectors.{Within}
use Rattle.method_tests.proofs.flight.twice_each.Given as goal

-- the lists so far
abbrev pub invariant-loop-i : goal.invariant-loop-i
invariant-loop-i l = record {
  count : length l.xs.items ≡ l.i;
  lengths : (k : ℕ) → k < l.i → length (get_or l.xs.items k []) ≡ 2;
  within : (k : ℕ) → k < l.i → Within (2 ^ 31 - 1) (get_or l.xs.items k []);
}
