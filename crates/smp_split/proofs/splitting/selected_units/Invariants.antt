use Rattle.std.proofs.Common.{◌≡◌, ◌++◌, ◌-◌}
use Rattle.std.specs.List.{filter, range_with_len}
use Rattle.smp_split.specs.Counts.{selected_units}
use Rattle.smp_split.proofs.splitting.selected_units.Given as goal

-- the units so far, and those that are selected among the others
abbrev pub invariant-loop-unit : goal.invariant-loop-unit
invariant-loop-unit g l =
    l.units.items ++ filter ((g.S.Splitting.method l.design).tree.selected l.state) (range_with_len l.unit ((g.S.Splitting.method l.design).tree.units - l.unit)) ≡ selected_units (g.S.Splitting.method l.design).tree l.state
