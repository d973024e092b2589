use Rattle.std.proofs.Common.{◌≡◌, ◌++◌, map}
use Rattle.std.specs.List.{range_with_len}
use Rattle.smp_stratcube.specs.Units.{member_of}
use Rattle.smp_stratcube.proofs.making.push_members.Given as goal

-- the units so far
abbrev pub invariant-loop-unit : goal.invariant-loop-unit
invariant-loop-unit l = l.members.items ≡ l.fn.members.items ++ map (member_of l.strata l.stratum l.layer) (range_with_len 0 l.unit)
