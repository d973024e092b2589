use Rattle.smp_values.proofs.InOrder.{placed_around, placed_starts}
use Rattle.smp_values.proofs.ordered.OrderedDesign.start.Goals as goal

pub returns-clause-starts : goal.returns-clause-starts
returns-clause-starts g c =
    rw (c.in_ok-state.ensures, ← c.self.view_is)
    (placed_starts g.S.PlaceSteps.rule g.S.PlaceSteps.law c.self.inside.order c.self.inside.values c.self.invariant.0 c.self.invariant.1)

pub returns-clause-around : goal.returns-clause-around
returns-clause-around g c =
    rw (c.in_ok-state.ensures, ← c.self.view_is)
    (placed_around g.S.PlaceSteps.rule g.S.PlaceSteps.law c.self.inside.order c.self.inside.values c.self.invariant.0 c.self.invariant.1)
