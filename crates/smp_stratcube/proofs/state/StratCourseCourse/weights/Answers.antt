use Rattle.std.proofs.Common.{arith}
use Rattle.smp_moves.specs.{Answers.{line_of}, Kept.Computed.{next_along}}
use Rattle.smp_stratcube.specs.{Kept.Computed.{flight_of}, Laws.Moves.{move_split}, Moves.{setting_of}}
use Rattle.smp_stratcube.proofs.state.StratCourseCourse.weights.Goals as goal

pub returns-clause-narrow : goal.returns-clause-narrow
returns-clause-narrow c =
    let m = c.requires.finds.step in
    let n = (move_split c.args._units.now (flight_of c.args._units.now c.args.self.now.values.items c.args.self.now.rows) c.requires.finds.flight c.args.self.now.left
    (next_along (setting_of c.args._units.now) c.args.self.now.values.items (line_of c.args.mv.now.line)) m.next).narrow in
    omega (arith, n, m.plus, m.minus)
