use Rattle.std.proofs.Common.{sym}
use Rattle.smp_values.specs.Values.{fractional_units}
use Rattle.smp_flight.specs.{Laws.ByOrder.{some_row}, Laws.WholeOrders.{frame_whole}}
use Rattle.smp_flight.proofs.cube.LandingCourse.go_without_row.Goals as goal

pub drop_row-requires-clause-some : goal.drop_row-requires-clause-some
drop_row-requires-clause-some c =
    some_row c.args.shape.now c.args.self.now.flight.flight c.args.self.now.left (fractional_units c.args.self.now.flight.flight.values) c.requires.finds.flight
    (frame_whole c.args.self.now.flight.flight.values) (sym c.requires.finds.is) (rw c.requires.finds.flying at c.requires.going)

-- a row fewer, and the step from there: the values are what they were
pub returns-clause-kept : goal.returns-clause-kept
returns-clause-kept c =
    rw (c.look.ensures, c.drop_row.ensures.is, c.requires.finds.flying) (c.requires.finds.room, rw c.drop_row.ensures.is at c.drop_row.ensures.first)
