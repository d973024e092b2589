use Rattle.smp_localpiv.proofs.Starts.{local_around, local_starts}
use Rattle.smp_localpiv.proofs.design.LocalPivotal.start.Goals as goal

pub returns-clause-starts : goal.returns-clause-starts
returns-clause-starts g c =
    rw (c.in_ok-state.ensures, c.as_slice.ensures.value, ← c.self.view_is) (local_starts g.row.K c.self.inside.coords.items c.self.inside.values c.self.invariant)

pub returns-clause-around : goal.returns-clause-around
returns-clause-around g c =
    rw (c.in_ok-state.ensures, c.as_slice.ensures.value, ← c.self.view_is) (local_around g.row.K c.self.inside.coords.items c.self.inside.values c.self.invariant)
