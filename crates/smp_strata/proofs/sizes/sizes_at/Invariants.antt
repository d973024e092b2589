use Rattle.std.proofs.Common.{◌≡◌, map, take, slice_index}
use Rattle.smp_strata.proofs.sizes.sizes_at.Given as goal

abbrev pub invariant-loop-place : goal.invariant-loop-place
invariant-loop-place l = l.list.items ≡ map (slice_index l.sizes) (take l.place-index l.places)
