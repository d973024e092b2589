use Rattle.std.proofs.Common.{◌<◌, ◌+◌, ◌-◌, ◌/◌, length, sym, arith}
use Rattle.smp_prob.proofs.Positions.{position-found, position-none}
use Rattle.smp_prob.proofs.requests.place_of.Goals as goal

pub returns-then-found-unit : goal.returns-then-found-unit
returns-then-found-unit c =
    let middle = c.loop-low.low + (c.loop-low.high - c.loop-low.low) / 2 in
    let within : middle < length c.args.units.now = omega (arith, c.loop-low.invariant.within, c.loop-low-test.true) in
    sym (position-found c.args.units.now middle c.args.unit c.requires within c.if-found-unit.true)

pub returns : goal.returns
returns c =
    sym (position-none c.args.units.now c.args.unit (λ place within here.
    (let between = c.loop-low.invariant.all place within here in omega (arith, between.0, between.1, c.loop-low-test.false))))
