use Rattle.std.proofs.Common.{◌≡◌, ◌*◌, ◌^◌, take, pos, neg_ℤ, ◌≤ℤ◌}
use Rattle.smp_strata.specs.Rows as Rows
use Rattle.smp_strata.proofs.sums.value_of.Given as goal

abbrev pub invariant-loop-row : goal.invariant-loop-row
invariant-loop-row l = record {
  sum : l.sum ≡ Rows.value_of l.units (take l.row-index l.rows) l.column;
  low : neg_ℤ (pos (l.row-index * 2 ^ 31)) ≤ℤ l.sum;
  high : l.sum ≤ℤ pos (l.row-index * 2 ^ 31);
}
