use Rattle.std.proofs.Common.{◌≡◌, ◌+◌, ◌-◌, ◌^◌, ◌<◌}
use Rattle.std.specs.List.{filter, range_with_len}
use Rattle.smp_split.specs.Counts.{selected_units}
use Rattle.smp_cases.specs.Cases.{mask}
use Rattle.smp_cases.proofs.running.mask_of.Given as goal

-- the mask of the units so far has no later bit; the other units add theirs
abbrev pub invariant-loop-unit : goal.invariant-loop-unit
invariant-loop-unit g l =
    let tree = (g.S.Splitting.method l.design).tree in
    (l.mask < 2 ^ l.unit)
    × (l.mask + mask (filter (tree.selected l.state) (range_with_len l.unit (tree.units - l.unit))) ≡ mask (selected_units tree l.state))
