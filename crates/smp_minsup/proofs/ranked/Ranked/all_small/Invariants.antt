use Rattle.std.proofs.Common.{length, ◌≤◌}
use Rattle.std.specs.BinaryHeap.{heap_items, heap_capacity}
use Rattle.smp_minsup.proofs.Ranking.{IsFilling}
use Rattle.smp_minsup.proofs.ranked.Ranked.all_small.Given as goal

-- the units so far are in the queue of the small ones
abbrev pub invariant-loop-unit : goal.invariant-loop-unit
invariant-loop-unit l = IsFilling l.numer l.unit l.large.items (heap_items l.smalls) × (length l.numer ≤ heap_capacity l.smalls)
