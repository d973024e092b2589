use Rattle.std.proofs.Common.{arith}
use Rattle.smp_localcube.proofs.Standing.{move_bound}
use Rattle.smp_localcube.proofs.state.LocalCourseCourse.weights.Goals as goal

pub returns-clause-narrow : goal.returns-clause-narrow
returns-clause-narrow g c = omega (arith, (move_bound c.requires.finds).bound)
