use Rattle.std.proofs.Common.{◌≡◌, ◌≤◌, ◌<◌, ◌^◌, ℕ, get_or, pos, length, neg_ℤ}
use Rattle.std.specs.Int.RustNames.{unsigned_abs}
use Rattle.smp_kernel.proofs.row_reduction.with_sign.Given as goal

abbrev pub invariant-loop-j : goal.invariant-loop-j
invariant-loop-j g l = record {
  size : length l.turned ≡ g.row.Q;
  each : (i : ℕ) → i < l.j → get_or l.turned i (pos 0) ≡ neg_ℤ (get_or l.row i (pos 0));
  bounded : (i : ℕ) → i < l.j → unsigned_abs (get_or l.turned i (pos 0)) ≤ 2 ^ 44;
}
