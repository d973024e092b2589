use Rattle.std.proofs.{Common.{arith, nat_abs, ◌<◌, ◌^◌}, lemmas.Int.{ints, to_z-of_z}, lemmas.List.FromFn.{map-range_with_len_more}}
use Rattle.smp_strata.specs.Rows as Rows
use Rattle.smp_strata.proofs.Columns.{small_value}
use Rattle.smp_strata.proofs.sums.values_of.Goals as goal

pub overflow_cast-value_of : goal.overflow_cast-value_of
overflow_cast-value_of c =
    let small : nat_abs c.value_of.result < 2 ^ 31 = rw c.value_of.ensures (small_value c.args.units.now c.args.columns c.args.rows.now c.requires.small c.loop-column.column c.loop-column-test.true) in
    grind (arith, ints, to_z-of_z, small)

pub loop-column-preserved : goal.loop-column-preserved
loop-column-preserved c =
    let small : nat_abs c.value_of.result < 2 ^ 31 = rw c.value_of.ensures (small_value c.args.units.now c.args.columns c.args.rows.now c.requires.small c.loop-column.column c.loop-column-test.true) in
    let more = map-range_with_len_more (Rows.value_of c.args.units.now c.args.rows.now) 0 c.loop-column.column c.loop-column.column (omega arith) in
    let pushed = c.in_ok-push.ensures.items in
    grind (arith, ints, to_z-of_z, small, more, pushed, c.value_of.ensures, c.loop-column.invariant)
