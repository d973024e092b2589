use Rattle.smp_flight.specs.States as flights
use Rattle.smp_flight.specs.States.{IsFlight}
use Rattle.smp_flight.proofs.CubeStarts.{cube_starts, cube_balances}
use Rattle.smp_flight.proofs.cube.Cube.start.Goals as goal

pub returns-clause-starts : goal.returns-clause-starts
returns-clause-starts c =
    let ok : IsFlight c.args.self.now (flights.tracked_start c.args.self.now).flight = rw (c.in_ok-landing.ensures.is, c.self.view_is) at c.in_ok-landing.ensures.flight in
    rw (c.in_ok-landing.ensures.flying.0, c.in_ok-landing.ensures.flying.1, c.look.ensures, c.in_ok-landing.ensures.is, c.self.view_is) (cube_starts c.args.self.now ok)

pub returns-clause-balanced : goal.returns-clause-balanced
returns-clause-balanced c =
    let ok : IsFlight c.args.self.now (flights.tracked_start c.args.self.now).flight = rw (c.in_ok-landing.ensures.is, c.self.view_is) at c.in_ok-landing.ensures.flight in
    rw (c.in_ok-landing.ensures.flying.0, c.in_ok-landing.ensures.flying.1, c.look.ensures, c.in_ok-landing.ensures.is, c.self.view_is) (cube_balances c.args.self.now ok)
