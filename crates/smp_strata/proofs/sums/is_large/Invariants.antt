use Rattle.std.proofs.Common.{◌≡◌, ◌^◌, false, map, nat_abs, nat_le}
use Rattle.std.specs.List.{list_any, range_with_len}
use Rattle.smp_strata.specs.Rows as Rows
use Rattle.smp_strata.proofs.sums.is_large.Given as goal

abbrev pub invariant-loop-column : goal.invariant-loop-column
invariant-loop-column l =
    list_any (λ value. nat_le (2 ^ 31) (nat_abs value)) (map (Rows.value_of l.units l.rows) (range_with_len 0 l.column)) ≡ false
