use Rattle.std.proofs.{Common.{slice_index, arith, sym}, lemmas.List.FromFn.{map-range_with_len_more}}
use Rattle.smp_strata.specs.Kept.Keys.{key}
use Rattle.smp_strata.proofs.allocation.keys.Goals as goal

pub loop-place-preserved : goal.loop-place-preserved
loop-place-preserved c =
    rw (c.in_ok-push.ensures.items, c.key.ensures.value, c.loop-place.invariant)
    (sym (map-range_with_len_more (λ h. key c.args.n c.args.all (slice_index c.args.counts.now h) h) 0 c.loop-place.place c.loop-place.place (omega arith)))
