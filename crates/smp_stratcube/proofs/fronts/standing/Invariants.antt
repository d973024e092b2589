use Rattle.std.proofs.Common.{◌≡◌}
use Rattle.smp_moves.proofs.Filtered.{AreKept}
use Rattle.smp_stratcube.specs.Values.{is_fractional}
use Rattle.smp_stratcube.proofs.fronts.standing.Given as goal

-- the standing units so far, and those of the units that are left
abbrev pub invariant-loop-place : goal.invariant-loop-place
invariant-loop-place l = record {
  kept : AreKept (is_fractional l.values) l.front.number l.front.units l.place l.still.units l.still.number;
  place : l.still.place ≡ l.front.place;
}
