use Rattle.std.proofs.Common.{◌≡◌, ℕ, ◌<◌, ◌≤◌, pos, length}
use Rattle.smp_kernel.specs.Vectors.{entry}
use Rattle.smp_moves.specs.Steps.{signed}
use Rattle.smp_stratcube.specs.Kept.Lines.{over, part}
use Rattle.smp_stratcube.proofs.directions.products.Given as goal

-- the products so far, and 0 past them
abbrev pub invariant-loop-place : goal.invariant-loop-place
invariant-loop-place l = record {
  long : length l.products ≡ 17;
  each : (k : ℕ) → k < l.place → entry l.products k ≡ signed (entry l.factors.w k) (over (part l.parts k) l.scale);
  past : (k : ℕ) → l.place ≤ k → entry l.products k ≡ pos 0;
}
