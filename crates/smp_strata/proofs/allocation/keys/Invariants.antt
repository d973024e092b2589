use Rattle.std.proofs.Common.{◌≡◌, map, slice_index}
use Rattle.std.specs.List.{range_with_len}
use Rattle.smp_strata.specs.Kept.Keys.{key}
use Rattle.smp_strata.proofs.allocation.keys.Given as goal

abbrev pub invariant-loop-place : goal.invariant-loop-place
invariant-loop-place l = l.list.items ≡ map (λ h. key l.n l.all (slice_index l.counts h) h) (range_with_len 0 l.place)
