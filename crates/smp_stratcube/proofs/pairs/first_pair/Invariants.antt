use Rattle.std.proofs.Common.{◌≡◌, ◌-◌}
use Rattle.smp_moves.proofs.Places.{rest_of}
use Rattle.smp_stratcube.specs.{Pairs.{first_pair}, Kept.Fronts.{front_units}}
use Rattle.smp_stratcube.proofs.pairs.first_pair.Given as goal

-- no two neighbours before are of one stratum
abbrev pub invariant-loop-place : goal.invariant-loop-place
invariant-loop-place l = first_pair l.units (rest_of l.front.number l.front.units (l.place - 1)) ≡ first_pair l.units (front_units l.front)
