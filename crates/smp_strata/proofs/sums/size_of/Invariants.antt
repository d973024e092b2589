use Rattle.std.proofs.Common.{◌≡◌, ◌*◌, ◌^◌, ◌≤◌, take}
use Rattle.smp_strata.specs.Rows as Rows
use Rattle.smp_strata.proofs.sums.size_of.Given as goal

abbrev pub invariant-loop-row : goal.invariant-loop-row
invariant-loop-row l = record {
  sum : l.sum ≡ Rows.size_of l.units (take l.row-index l.rows);
  small : l.sum ≤ l.row-index * 2 ^ 31;
}
