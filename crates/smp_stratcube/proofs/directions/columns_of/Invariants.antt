use Rattle.std.proofs.Common.{◌≡◌, ℕ, ◌<◌, length, get_or, []}
use Rattle.smp_stratcube.specs.Units.{column}
use Rattle.smp_stratcube.proofs.directions.columns_of.Given as goal

-- the columns so far
abbrev pub invariant-loop-place : goal.invariant-loop-place
invariant-loop-place l = record {
  size : length l.columns ≡ 17;
  each : (k : ℕ) → k < l.place → get_or l.columns k [] ≡ column l.units (get_or l.front.units k 0);
}
