use Rattle.std.proofs.Common.{◌≡◌, ◌++◌, map, take, drop, length}
use Rattle.smp_stratcube.specs.{Kept.Layers.{first_of}, Units.{members_from}}
use Rattle.smp_stratcube.proofs.making.members_of.Given as goal

-- the units and denominators so far, and the units that are left
abbrev pub invariant-loop-stratum : goal.invariant-loop-stratum
invariant-loop-stratum l = record {
  all : l.members.items ++ members_from (length l.layers) l.stratum (drop l.stratum l.layers) ≡ members_from (length l.layers) 0 l.layers;
  firsts : l.firsts.items ≡ map first_of (take l.stratum l.layers);
}
