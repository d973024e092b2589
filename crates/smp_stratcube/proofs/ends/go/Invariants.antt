use Rattle.std.proofs.Common.{◌≡◌, ℕ, ◌<◌, take, length}
use Rattle.smp_moves.specs.Moves.{entry_at}
use Rattle.smp_stratcube.specs.{Values.{value}, Kept.Computed.{moved_value}}
use Rattle.smp_stratcube.proofs.ends.go.Given as goal

-- the values at the end of the line through the units so far
abbrev pub invariant-loop-place : goal.invariant-loop-place
invariant-loop-place l = record {
  count : length l.values.items ≡ length l.fn.values.items;
  each : (k : ℕ) → k < length l.fn.values.items →
      value l.values.items k ≡ moved_value (value l.fn.values.items k) l.den l.reach (entry_at (take l.place l.line.units) (take l.place l.line.entries) k);
}
