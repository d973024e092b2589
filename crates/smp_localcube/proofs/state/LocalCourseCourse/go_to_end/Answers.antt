use Rattle.std.proofs.Common.{None, lit<}
use Rattle.smp_localcube.proofs.{Around.{carried_now}, Standing.{moved_ready, moved_there, touchable}}
use Rattle.smp_localcube.proofs.state.LocalCourseCourse.go_to_end.Goals as goal

pub touch-requires : goal.touch-requires
touch-requires g c = (lit< tt, touchable c.requires.finds)

pub look-requires : goal.look-requires
look-requires g c =
    let ready = moved_ready c.requires.finds c.args.plus c.fly.ensures.is c.fly.ensures.window c.fly.ensures.units c.touch.ensures.touched c.touch.ensures.weighed in
    (lit< tt, record { flight = c.fly.ensures.flight; carried = carried_now c.fly.new.flight None tt; placed = ready.placed; living = ready.living })

pub returns-clause-kept : goal.returns-clause-kept
returns-clause-kept g c =
    rw c.requires.finds.flying (record { ready = moved_ready c.requires.finds c.args.plus c.fly.ensures.is c.fly.ensures.window c.fly.ensures.units c.touch.ensures.touched c.touch.ensures.weighed; searched = c.look.ensures })

pub returns-clause-is : goal.returns-clause-is
returns-clause-is g c = moved_there c.requires.finds c.args.plus c.fly.ensures.is c.fly.ensures.window c.touch.new.points c.touch.ensures.touched.coords
