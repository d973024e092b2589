use Rattle.std.proofs.Common.{◌≡◌, ◌++◌, drop, option_map}
use Rattle.toml.specs.View.{items_view}
use Rattle.smp_design.specs.Values.{strings}
use Rattle.smp_design.proofs.values.strings.Given as goal

abbrev pub invariant-loop-value : goal.invariant-loop-value
invariant-loop-value l = option_map (λ more. l.names.items ++ more) (strings (items_view (drop l.value-index l.values))) ≡ strings (items_view l.values)
