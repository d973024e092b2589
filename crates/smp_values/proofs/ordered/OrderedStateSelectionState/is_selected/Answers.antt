use Rattle.std.proofs.Common.{◌<◌, length, get_or, arith}
use Rattle.smp_split.proofs.Orders.{unit_within}
use Rattle.smp_prob.specs.Shares.{Shares}
use Rattle.smp_values.proofs.ordered.OrderedStateSelectionState.is_selected.Goals as goal

pub place-requires : goal.place-requires
place-requires g c = (unit_within (λ (t : Shares). length t.numer) _ c.args.self.now c.self.view_is c.requires.state.order c.args.unit c.requires.unit).0

pub is_one-requires : goal.is_one-requires
is_one-requires g c =
    let values : Shares = g.S.PlaceSteps.shares c.self.inside.steps in
    let here : get_or c.self.inside.order.places c.args.unit 0 < length values.numer = (unit_within (λ (t : Shares). length t.numer) _ c.args.self.now c.self.view_is c.requires.state.order c.args.unit c.requires.unit).1 in
    omega (arith, c.place.ensures)
