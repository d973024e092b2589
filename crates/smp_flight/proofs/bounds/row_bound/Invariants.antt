use Rattle.std.proofs.Common.{◌≡◌, ℕ, ◌<◌, ◌^◌, ◌≤ℤ◌, max, fold, pos, take}
use Rattle.smp_kernel.specs.Vectors.{entry}
use Rattle.smp_flight.specs.{Kept.Narrow.{row_numbers}, States.{column}}
use Rattle.smp_flight.proofs.bounds.row_bound.Given as goal

-- the greatest number so far
abbrev pub invariant-loop-unit : goal.invariant-loop-unit
invariant-loop-unit l = record {
  most : l.most ≡ fold max 1 (take l.unit (row_numbers l.shape l.row));
  small : l.most < 2 ^ 32;
  signs : (k : ℕ) → k < l.unit → pos 0 ≤ℤ entry (column l.shape k) l.row;
}
