use Rattle.std.proofs.Common.{arith, sym}
use Rattle.smp_values.specs.Values.{fractional_units}
use Rattle.smp_moves.proofs.Entries.{frame_order}
use Rattle.smp_flight.specs.{Answers.{move_of}, Laws.ByOrder.{both_ways}}
use Rattle.smp_flight.proofs.cube.LandingCourse.weights.Goals as goal

pub returns-clause-narrow : goal.returns-clause-narrow
returns-clause-narrow c =
    let both = both_ways c.args._shape.now c.args.self.now.flight.flight c.args.self.now.left (fractional_units c.args.self.now.flight.flight.values) c.requires.finds.flight
    (frame_order c.args.self.now.flight.flight.values) (move_of c.args.mv.now) (sym c.requires.finds.is) in
    omega (arith, both.bound)
