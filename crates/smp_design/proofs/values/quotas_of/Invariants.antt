use Rattle.std.proofs.Common.{◌≡◌, ◌++◌, option_map}
use Rattle.toml.specs.View.{members_view}
use Rattle.smp_design.specs.Values.{quotas_of}
use Rattle.smp_design.proofs.values.quotas_of.Given as goal

abbrev pub invariant-loop-stratum : goal.invariant-loop-stratum
invariant-loop-stratum l = option_map (λ more. l.quotas.items ++ more) (quotas_of (members_view l.stratum-iterator)) ≡ quotas_of (members_view l.table.entries)
