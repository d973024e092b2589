use Rattle.std.proofs.Common.{arith, lit<}
use Rattle.smp_localcube.proofs.Standing.{choice_picked, choice_searchable, choice_sum}
use Rattle.smp_localcube.proofs.state.LocalCourseCourse.go_apart.Goals as goal

pub find-unit-requires : goal.find-unit-requires
find-unit-requires g c = omega (arith, c.requires.within, choice_sum (c.requires.finds c.in-Flying.is))

pub look-requires : goal.look-requires
look-requires g c = (lit< tt, choice_searchable (c.requires.finds c.in-Flying.is) c.args.draw c.find-unit.result c.find-unit.ensures.place c.find-unit.ensures.from c.find-unit.ensures.passes)

pub returns-in-Flying-clause-is : goal.returns-in-Flying-clause-is
returns-in-Flying-clause-is g c =
    choice_picked (c.requires.finds c.in-Flying.is) c.args.draw c.find-unit.result c.find-unit.ensures.place c.find-unit.ensures.from c.find-unit.ensures.passes c.requires.within
