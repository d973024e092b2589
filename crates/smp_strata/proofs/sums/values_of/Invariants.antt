use Rattle.std.proofs.Common.{◌≡◌, map}
use Rattle.std.specs.List.{range_with_len}
use Rattle.smp_strata.specs.Rows as Rows
use Rattle.smp_strata.proofs.sums.values_of.Given as goal

abbrev pub invariant-loop-column : goal.invariant-loop-column
invariant-loop-column l = l.values.items ≡ map (Rows.value_of l.units l.rows) (range_with_len 0 l.column)
