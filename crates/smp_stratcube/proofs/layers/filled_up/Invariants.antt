use Rattle.std.proofs.Common.{◌≡◌, ℕ, ◌<◌, ◌≤◌, pos, length}
use Rattle.smp_kernel.specs.Vectors.{entry}
use Rattle.smp_stratcube.proofs.layers.filled_up.Given as goal

-- the values so far, and 0 past them
abbrev pub invariant-loop-place : goal.invariant-loop-place
invariant-loop-place l = record {
  long : length l.places ≡ 15;
  same : (k : ℕ) → k < l.place → entry l.places k ≡ entry l.values k;
  past : (k : ℕ) → l.place ≤ k → entry l.places k ≡ pos 0;
}
