use Rattle.std.proofs.Common.{refl}
use Rattle.smp_flight.specs.States as flights
use Rattle.smp_flight.specs.States.{IsFlight}
use Rattle.smp_localcube.proofs.Starts.{first_ready, first_searched, local_balances, local_starts, none_touched}
use Rattle.smp_localcube.proofs.design.LocalCube.start.Goals as goal

pub invariant_of-result : goal.invariant_of-result
invariant_of-result g c =
    let ok : IsFlight c.self.inside.shape (flights.tracked_start c.self.inside.shape).flight = rw (c.in_ok-start.ensures.is) at c.in_ok-start.ensures.flight in
    rw (c.in_ok-start.ensures.flying.0, c.in_ok-start.ensures.is, c.in_ok-new.ensures, c.in_ok-ones.ensures, c.as_slice.ensures.value) (record { ready = first_ready g.row.K c.self.inside.shape c.self.inside.coords.items c.self.inside.units c.self.invariant ok _ (rw c.in_ok-start.ensures.is at c.in_ok-start.ensures.room); searched = rw c.in_ok-new-2.ensures.ok (first_searched c.self.inside.shape c.self.inside.coords.items) })

pub returns-clause-state : goal.returns-clause-state
returns-clause-state g c = rw (c.in_ok-start.ensures.flying.0, c.in_ok-start.ensures.flying.1, c.in_ok-start.ensures.is, c.in_ok-new.ensures, c.as_slice.ensures.value, ← c.self.view_is, none_touched c.self.inside.shape) refl

pub returns-clause-starts : goal.returns-clause-starts
returns-clause-starts g c =
    let ok : IsFlight c.self.inside.shape (flights.tracked_start c.self.inside.shape).flight = rw (c.in_ok-start.ensures.is) at c.in_ok-start.ensures.flight in
    rw (c.in_ok-start.ensures.flying.0, c.in_ok-start.ensures.flying.1, c.in_ok-start.ensures.is, c.in_ok-new.ensures, c.as_slice.ensures.value, ← c.self.view_is, none_touched c.self.inside.shape) (local_starts (record { units = c.self.inside.shape; coords = c.self.inside.coords.items }) ok)

pub returns-clause-balanced : goal.returns-clause-balanced
returns-clause-balanced g c =
    let ok : IsFlight c.self.inside.shape (flights.tracked_start c.self.inside.shape).flight = rw (c.in_ok-start.ensures.is) at c.in_ok-start.ensures.flight in
    rw (c.in_ok-start.ensures.flying.0, c.in_ok-start.ensures.flying.1, c.in_ok-start.ensures.is, c.in_ok-new.ensures, c.as_slice.ensures.value, ← c.self.view_is, none_touched c.self.inside.shape) (local_balances (record { units = c.self.inside.shape; coords = c.self.inside.coords.items }) ok)
