use Rattle.std.proofs.Common.{◌≡◌, ◌≤◌, take}
use Rattle.smp_stratcube.specs.Kept.Pairs.{common_in}
use Rattle.smp_stratcube.proofs.pairs.stratum_common.Given as goal

-- the common denominator so far
abbrev pub invariant-loop-place : goal.invariant-loop-place
invariant-loop-place l = (l.common ≡ common_in l.units l.values l.stratum (take l.place l.front.units)) × (1 ≤ l.common)
