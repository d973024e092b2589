use Rattle.smp_flight.specs.Kept.Narrow.{IsLimit}
use Rattle.smp_flight.proofs.bounds.limit_of.Given as goal

-- the limit of the rows so far
abbrev pub invariant-loop-row : goal.invariant-loop-row
invariant-loop-row l = record {
  so_far : IsLimit l.shape l.row l.limit;
}
