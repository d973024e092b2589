use Rattle.std.proofs.Common.{◌≡◌, ◌+◌, ◌<◌, true, map, arith, refl, sym, ap, ◌∙◌}
use Rattle.std.specs.{Prelude.{is_some}, List.{range_with_len}}
use Rattle.smp_twostage.specs.Selections.{seat_alone, seat_by}
use Rattle.smp_twostage.proofs.Seats.{alone_room, next_its, next_other}
use Rattle.smp_twostage.proofs.whole.seats_alone.Goals as goal
use Rattle.smp_twostage.proofs.whole.seats_alone.Goals.{then-place-stratum+in_ok-push, else-place-stratum+in_ok-push-2}

pub seat_by-requires : goal.seat_by-requires
seat_by-requires c =
    let row : c.loop-row.row < c.args.plan.now.rows = omega (arith, c.loop-row-test.true, c.rows-row-end.ensures) in
    let stratum : c.seat-place.result.stratum ≡ c.args.stratum = omega (arith, c.if-place-stratum.true) in
    record {
      room = λ some.
          (let second : is_some c.args.plan.now.second ≡ true = ap is_some (sym c.second-second.ensures) ∙ some in
          omega (arith, alone_room c.args.plan.now c.requires.plan c.loop-row.row row c.seat-place.result c.seat-place.ensures.once c.args.stratum stratum second, c.requires.stages, c.ranges.stages.fits));
    }

pub loop-row-preserved : goal.loop-row-preserved
loop-row-preserved c =
    let row : c.loop-row.row < c.args.plan.now.rows = omega (arith, c.loop-row-test.true, c.rows-row-end.ensures) in
    elim c.if-place-stratum.branch [
      | then-place-stratum+in_ok-push w ↦
          (let stratum : c.seat-place.result.stratum ≡ c.args.stratum = omega (arith, w.if-place-stratum.true) in
          let made : w.push.new.self.items ≡ map (seat_alone c.args.plan.now c.args.stratum) (range_with_len 0 (c.loop-row.row + 1)) =
          next_its c.args.plan.now c.requires.plan c.loop-row.row row c.seat-place.result c.seat-place.ensures.once c.args.stratum c.loop-row.seats.items w.push.new.self.items w.seat_by.result c.loop-row.invariant stratum
          (w.seat_by.ensures ∙ ap (λ m. seat_by m 0 c.seat-place.result) c.second-second.ensures) w.in_ok-push.ensures.items in
          cc)
      | else-place-stratum+in_ok-push-2 w ↦
          (let made : w.push-else-place-stratum.new.self.items ≡ map (seat_alone c.args.plan.now c.args.stratum) (range_with_len 0 (c.loop-row.row + 1)) =
          next_other c.args.plan.now c.requires.plan c.loop-row.row row c.seat-place.result c.seat-place.ensures.once c.args.stratum c.loop-row.seats.items w.push-else-place-stratum.new.self.items _ c.loop-row.invariant w.if-place-stratum.false
          refl w.in_ok-push-2.ensures.items in
          cc)
    ]
