use Rattle.std.proofs.Common.{◌≡◌, ◌<◌, true, length, get_or, arith, rules, sym, ap, ◌∙◌}
use Rattle.std.specs.Prelude.{is_some}
use Rattle.smp_twostage.specs.Selections.{seat_by}
use Rattle.smp_twostage.proofs.{Inside.{length_numbers, number_at}, Seats.{inside, next_seat, room}}
use Rattle.smp_twostage.proofs.whole.seats_of.Goals as goal

pub bounds-firsts-place : goal.bounds-firsts-place
bounds-firsts-place c =
    let row : c.loop-row.row < c.args.plan.now.rows = omega (arith, c.loop-row-test.true, c.rows-row-end.ensures) in
    let within = inside c.args.plan.now c.requires.plan c.loop-row.row row c.seat-place.result c.seat-place.ensures.once in
    omega (arith, within, length_numbers c.args.plan.now c.args.firsts.now c.requires.firsts)

pub offset_bounds-firsts-place : goal.offset_bounds-firsts-place
offset_bounds-firsts-place c =
    let row : c.loop-row.row < c.args.plan.now.rows = omega (arith, c.loop-row-test.true, c.rows-row-end.ensures) in
    let within = inside c.args.plan.now c.requires.plan c.loop-row.row row c.seat-place.result c.seat-place.ensures.once in
    let bound : c.seat-place.result.stratum < length c.args.firsts.now = omega (arith, within, length_numbers c.args.plan.now c.args.firsts.now c.requires.firsts) in
    search (rules, bound)

pub seat_by-requires : goal.seat_by-requires
seat_by-requires c =
    let row : c.loop-row.row < c.args.plan.now.rows = omega (arith, c.loop-row-test.true, c.rows-row-end.ensures) in
    let within = inside c.args.plan.now c.requires.plan c.loop-row.row row c.seat-place.result c.seat-place.ensures.once in
    let number = number_at c.args.plan.now c.args.firsts.now c.requires.firsts c.seat-place.result.stratum 0 (omega (arith, within)) in
    record {
      room = λ some.
          (let second : is_some c.args.plan.now.second ≡ true = ap is_some (sym c.second-second.ensures) ∙ some in
          omega (arith, number, room c.args.plan.now c.requires.plan c.loop-row.row row c.seat-place.result c.seat-place.ensures.once second, c.requires.stages, c.ranges.stages.fits));
    }

pub loop-row-preserved : goal.loop-row-preserved
loop-row-preserved c =
    let row : c.loop-row.row < c.args.plan.now.rows = omega (arith, c.loop-row-test.true, c.rows-row-end.ensures) in
    let within = inside c.args.plan.now c.requires.plan c.loop-row.row row c.seat-place.result c.seat-place.ensures.once in
    let number = number_at c.args.plan.now c.args.firsts.now c.requires.firsts c.seat-place.result.stratum 0 (omega (arith, within)) in
    next_seat c.args.plan.now c.requires.plan c.loop-row.row row c.seat-place.result c.seat-place.ensures.once c.loop-row.seats.items c.push.new.self.items c.seat_by.result
    c.loop-row.invariant (c.seat_by.ensures ∙ ap (λ m. seat_by m (get_or c.args.firsts.now c.seat-place.result.stratum 0) c.seat-place.result) c.second-second.ensures ∙ ap (λ n. seat_by c.args.plan.now.second n c.seat-place.result) number) c.in_ok-push.ensures.items
