use Rattle.std.proofs.{Common.{◌≡◌, ◌<◌, [], get_or, length, arith, inl, inr}, lemmas.Bool.{cases_lt}, lemmas.List.{get_or_read}}
use Rattle.smp_near.proofs.regions.region_of.Goals as goal

pub loop-place-preserved : goal.loop-place-preserved
loop-place-preserved g c k from before =
    elim (cases_lt k c.loop-place.place) [
      | inl earlier ↦ c.widened-region.ensures.kept _ _ (c.loop-place.invariant k from earlier)
      | inr later ↦
          (let here : k ≡ c.loop-place.place = omega arith in
          let unit : get_or c.args.order.now c.loop-place.place 0 < length c.args.coords.now = c.requires.units c.loop-place.place (omega arith) in
          let read = get_or_read c.args.coords.now (get_or c.args.order.now c.loop-place.place 0) c.index-coords-unit.result unit c.index-coords-unit.is [] in
          rw (here, ← read) c.widened-region.ensures.own)
    ]
