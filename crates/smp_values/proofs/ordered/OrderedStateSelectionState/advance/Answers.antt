use Rattle.std.proofs.Common.{◌≡◌, ◌<◌, ◌∙◌, sym, ap, true, false, nat_eq, length, arith}
use Rattle.smp_split.specs.{Orders.{Ordered, in_order}, Trees.{weight_sum}}
use Rattle.smp_split.proofs.Orders.{inner_bound, inner_picked, order_made, order_within, told_within}
use Rattle.smp_prob.specs.Shares.{Shares}
use Rattle.smp_values.specs.{InOrder.{IsPlacedBy, places_tree, placed_tree}, Values.{exchanged_values}}
use Rattle.smp_values.proofs.ordered.OrderedStateSelectionState.advance.Goals as goal

pub advance-requires-clause-within : goal.advance-requires-clause-within
advance-requires-clause-within g c =
    let s : Ordered Shares = in_order c.self.inside.order (g.S.PlaceSteps.shares c.self.inside.steps) in
    let drawn : nat_eq c.self.inside.order.left 0 ≡ true = sym c.is_drawn.ensures ∙ c.if-is_drawn.true in
    let within : c.args.draw < weight_sum ((placed_tree g.S.PlaceSteps.rule (length s.state.numer)).parts s) = rw (← c.self.view_is) at c.requires.within in
    rw (inner_bound (places_tree g.S.PlaceSteps.rule (length s.state.numer)) exchanged_values s drawn) at within

pub exchange-place-requires-clause-within : goal.exchange-place-requires-clause-within
exchange-place-requires-clause-within g c =
    let s : Ordered Shares = in_order c.self.inside.order (g.S.PlaceSteps.shares c.self.inside.steps) in
    let left : nat_eq c.self.inside.order.left 0 ≡ false = sym c.is_drawn.ensures ∙ c.if-is_drawn.false in
    order_within (places_tree g.S.PlaceSteps.rule (length s.state.numer)) exchanged_values s left c.args.draw (rw (← c.self.view_is) at c.requires.within)

-- the two places are places of values
pub exchange-requires : goal.exchange-requires
exchange-requires g c =
    let s : Ordered Shares = in_order c.self.inside.order (g.S.PlaceSteps.shares c.self.inside.steps) in
    let left : nat_eq c.self.inside.order.left 0 ≡ false = sym c.is_drawn.ensures ∙ c.if-is_drawn.false in
    let ok : IsPlacedBy g.S.PlaceSteps.rule (length s.state.numer) s = rw (← c.self.view_is) at c.requires.state in
    let within = rw (← c.self.view_is) at c.requires.within in
    let both = told_within (places_tree g.S.PlaceSteps.rule (length s.state.numer)) exchanged_values s left c.args.draw within c.exchange-place.result c.exchange-place.ensures.places ok.order in
    record { place = omega (arith, both.0); other = omega (arith, both.1) }

pub returns-then-is_drawn : goal.returns-then-is_drawn
returns-then-is_drawn g c =
    let s : Ordered Shares = in_order c.self.inside.order (g.S.PlaceSteps.shares c.self.inside.steps) in
    let drawn : nat_eq c.self.inside.order.left 0 ≡ true = sym c.is_drawn.ensures ∙ c.if-is_drawn.true in
    rw (← c.self.view_is) (ap (in_order c.self.inside.order) c.advance.ensures ∙ sym (inner_picked (places_tree g.S.PlaceSteps.rule (length s.state.numer)) exchanged_values s c.args.draw drawn))

pub returns-else-is_drawn : goal.returns-else-is_drawn
returns-else-is_drawn g c =
    let s : Ordered Shares = in_order c.self.inside.order (g.S.PlaceSteps.shares c.self.inside.steps) in
    let left : nat_eq c.self.inside.order.left 0 ≡ false = sym c.is_drawn.ensures ∙ c.if-is_drawn.false in
    rw (← c.self.view_is)
    (order_made (places_tree g.S.PlaceSteps.rule (length s.state.numer)) exchanged_values s left c.args.draw (rw (← c.self.view_is) at c.requires.within) c.exchange-place.result c.exchange-place.ensures.places _ _ c.exchange-place.ensures.order c.exchange.ensures)
