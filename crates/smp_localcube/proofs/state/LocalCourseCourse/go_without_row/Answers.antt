use Rattle.smp_localcube.proofs.Standing.{row_left}
use Rattle.smp_localcube.proofs.state.LocalCourseCourse.go_without_row.Goals as goal

pub drop_row-requires-clause-some : goal.drop_row-requires-clause-some
drop_row-requires-clause-some g c = row_left c.requires.finds c.requires.going
