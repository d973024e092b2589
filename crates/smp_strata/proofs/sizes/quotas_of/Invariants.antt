use Rattle.std.proofs.Common.{◌≡◌, map, take}
use Rattle.smp_strata.specs.Plans as Plans
use Rattle.smp_strata.proofs.sizes.quotas_of.Given as goal

abbrev pub invariant-loop-name : goal.invariant-loop-name
invariant-loop-name l = l.sizes.items ≡ map (Plans.quota_of l.quotas) (take l.name-index l.names)
