use Rattle.std.proofs.Common.{sym, subst}
use Rattle.smp_flight.specs.Landings.{HasRoom}
use Rattle.smp_flight.proofs.cube.LandingCourse.go_to_end.Goals as goal

pub look-requires-clause-first : goal.look-requires-clause-first
look-requires-clause-first c = c.fly.ensures.first c.requires.finds.first c.requires.finds.allows.first

pub returns-clause-kept : goal.returns-clause-kept
returns-clause-kept c =
    rw (c.requires.finds.flying, c.look.ensures)
    (subst (λ n. HasRoom n c.args.self.now.room) (sym c.fly.ensures.units) c.requires.finds.room, c.fly.ensures.first c.requires.finds.first c.requires.finds.allows.first)
