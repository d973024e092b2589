use Rattle.std.proofs.Common.{◌≡◌, map, take, length}
use Rattle.smp_strata.proofs.sizes.lengths.Given as goal

abbrev pub invariant-loop-group : goal.invariant-loop-group
invariant-loop-group l = l.list.items ≡ map length (take l.group-index l.groups)
