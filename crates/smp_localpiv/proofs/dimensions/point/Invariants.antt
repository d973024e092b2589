use Rattle.std.proofs.Common.{◌≡◌, ◌<◌, ℕ, get_or, pos, length}
use Rattle.smp_localpiv.proofs.dimensions.point.Given as goal

abbrev pub invariant-loop-k : goal.invariant-loop-k
invariant-loop-k g l = record {
  size : length l.point ≡ g.row.K;
  each : (j : ℕ) → j < l.k → get_or l.point j (pos 0) ≡ get_or l.values j (pos 0);
}
