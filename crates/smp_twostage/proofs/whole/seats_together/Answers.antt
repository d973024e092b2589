use Rattle.std.proofs.Common.{◌<◌, arith}
use Rattle.smp_twostage.proofs.{Layers.{few_before}, Seats.{inside, next_together, unit_few}}
use Rattle.smp_twostage.proofs.whole.seats_together.Goals as goal

pub units_before-requires-clause-stratum : goal.units_before-requires-clause-stratum
units_before-requires-clause-stratum c =
    let row : c.loop-row.row < c.args.plan.now.rows = omega (arith, c.loop-row-test.true, c.rows-row-end.ensures) in
    let within = inside c.args.plan.now c.requires.plan c.loop-row.row row c.seat-place.result c.seat-place.ensures.once in
    omega (arith, within)

pub overflow_add-unit : goal.overflow_add-unit
overflow_add-unit c =
    let row : c.loop-row.row < c.args.plan.now.rows = omega (arith, c.loop-row-test.true, c.rows-row-end.ensures) in
    let within = inside c.args.plan.now c.requires.plan c.loop-row.row row c.seat-place.result c.seat-place.ensures.once in
    let before = few_before c.args.plan.now c.requires.plan c.requires.few c.seat-place.result.stratum (omega (arith, within)) in
    let unit = unit_few c.args.plan.now c.requires.plan c.loop-row.row row c.seat-place.result c.seat-place.ensures.once in
    omega (arith, before, unit, c.units_before.ensures)

pub loop-row-preserved : goal.loop-row-preserved
loop-row-preserved c =
    let row : c.loop-row.row < c.args.plan.now.rows = omega (arith, c.loop-row-test.true, c.rows-row-end.ensures) in
    next_together c.args.plan.now c.requires.plan c.loop-row.row row c.seat-place.result c.seat-place.ensures.once c.loop-row.seats.items c.push.new.self.items c.units_before.result c.loop-row.invariant c.units_before.ensures c.in_ok-push.ensures.items
