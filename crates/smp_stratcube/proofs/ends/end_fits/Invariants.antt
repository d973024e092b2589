use Rattle.std.proofs.Common.{◌≡◌, ◌*◌, Some, take}
use Prim.Native.Nat.{◌∣◌}
use Rattle.smp_moves.specs.{Answers.{line_of}, Moves.{entry_of}}
use Rattle.smp_stratcube.specs.{Values.{value}, Kept.Gates.{IsSome, gathered}, Kept.Moves.{joined}, Kept.Computed.{moved_value}}
use Rattle.smp_stratcube.proofs.ends.end_fits.Given as goal

-- the common denominator so far
abbrev pub invariant-loop-place : goal.invariant-loop-place
invariant-loop-place l = record {
  all : joined (l.den * l.reach.size) l.gathered
      ≡ gathered l.units (λ k. moved_value (value l.values k) l.den l.reach (entry_of (line_of l.line) k)) (Some 1) (take l.place l.front.units);
  some : IsSome l.gathered.common;
  shared : l.gathered.shared ∣ l.den * l.reach.size;
}
