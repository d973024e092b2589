use Rattle.std.proofs.Common.{◌≡◌, ℕ, ◌<◌, ◌-◌, ◌^◌, length, get_or, []}
use Rattle.smp_kernel.specs.Vectors.{Within}
use Rattle.method_tests.proofs.flight.one_to_four.Given as goal

-- the lists so far
abbrev pub invariant-loop-unit : goal.invariant-loop-unit
invariant-loop-unit l = record {
  count : length l.xs.items ≡ l.unit;
  lengths : (k : ℕ) → k < l.unit → length (get_or l.xs.items k []) ≡ 1;
  within : (k : ℕ) → k < l.unit → Within (2 ^ 31 - 1) (get_or l.xs.items k []);
}
