use Rattle.std.proofs.Common.{◌∙◌}
use Rattle.smp_localcube.proofs.Standing.{choice_sum}
use Rattle.smp_localcube.proofs.state.LocalCourseCourse.bound_apart.Goals as goal

pub returns-in-Flying : goal.returns-in-Flying
returns-in-Flying g c = c.total.ensures ∙ choice_sum (c.requires.finds c.in-Flying.is)
