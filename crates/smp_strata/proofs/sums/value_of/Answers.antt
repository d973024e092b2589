use Rattle.std.proofs.Common.{to_z, w64, ◌+ℤ◌, ◌<◌, ◌^◌, nat_abs, arith, pos, get_or, ◌∙◌, sym, ap, ℤ, ℕ, take}
use Rattle.std.proofs.lemmas.List.Sums.{fold_more}
use Rattle.smp_frac.specs.Limits.{most_rows}
use Rattle.smp_strata.specs.Rows.{value_at, value_of}
use Rattle.smp_strata.proofs.Columns.{value_read, value_near, added, added_low, added_high}
use Rattle.smp_strata.proofs.sums.value_of.Goals as goal

pub loop-row-preserved : goal.loop-row-preserved
loop-row-preserved c =
    let i : ℕ = c.loop-row.row-index in
    let row : ℕ = get_or c.args.rows.now i 0 in
    let s : ℤ = to_z w64 c.loop-row.sum-bits in
    let v : ℤ = get_or c.as_slice.result.now c.args.column (pos 0) in
    let here = c.requires.rows.within i 0 c.loop-row-test.true in
    let near : nat_abs v < 2 ^ 31 = value_near c.args.units.now row c.args.column c.as_slice.result.now c.index-units-row.result here c.as_slice.ensures c.args.columns c.requires.frame c.requires.balance c.requires.column in
    let few : i < most_rows = omega (arith, c.requires.rows.few, c.loop-row-test.true) in
    record {
      sum =
          added s v i few near c.loop-row.invariant.low c.loop-row.invariant.high
          ∙ ap (λ t. t +ℤ v) c.loop-row.invariant.sum
          ∙ ap (λ w. value_of c.args.units.now (take i c.args.rows.now) c.args.column +ℤ w) (value_read c.args.units.now row c.args.column c.as_slice.result.now c.index-units-row.result here c.as_slice.ensures)
          ∙ sym (fold_more (λ sum row. sum +ℤ value_at c.args.units.now row c.args.column) (pos 0) c.args.rows.now i 0 c.loop-row-test.true);
      low = added_low s v i few near c.loop-row.invariant.low c.loop-row.invariant.high;
      high = added_high s v i few near c.loop-row.invariant.low c.loop-row.invariant.high;
    }
