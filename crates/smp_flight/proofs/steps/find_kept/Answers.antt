use Rattle.std.proofs.Common.{sym, subst}
use Rattle.smp_flight.specs.States.{AreFirst, Tracked}
use Rattle.smp_flight.proofs.steps.find_kept.Goals as goal

pub find-found-requires-clause-first : goal.find-found-requires-clause-first
find-found-requires-clause-first c =
    subst (λ (t : Tracked). AreFirst t.flight t.window) (sym c.state.view_is) c.requires.first
