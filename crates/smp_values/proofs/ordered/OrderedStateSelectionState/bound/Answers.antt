use Rattle.std.proofs.Common.{◌≡◌, ◌∙◌, sym, true, false, nat_eq, length}
use Rattle.smp_split.specs.Orders.{Ordered, in_order}
use Rattle.smp_split.proofs.Orders.{inner_bound, order_bound}
use Rattle.smp_prob.specs.Shares.{Shares}
use Rattle.smp_values.specs.{InOrder.{places_tree}, Values.{exchanged_values}}
use Rattle.smp_values.proofs.ordered.OrderedStateSelectionState.bound.Goals as goal

pub returns-then-is_drawn : goal.returns-then-is_drawn
returns-then-is_drawn g c =
    let s : Ordered Shares = in_order c.self.inside.order (g.S.PlaceSteps.shares c.self.inside.steps) in
    let drawn : nat_eq c.self.inside.order.left 0 ≡ true = sym c.is_drawn.ensures ∙ c.if-is_drawn.true in
    c.bound.ensures ∙ rw (← c.self.view_is) (sym (inner_bound (places_tree g.S.PlaceSteps.rule (length s.state.numer)) exchanged_values s drawn))

pub returns-else-is_drawn : goal.returns-else-is_drawn
returns-else-is_drawn g c =
    let s : Ordered Shares = in_order c.self.inside.order (g.S.PlaceSteps.shares c.self.inside.steps) in
    let left : nat_eq c.self.inside.order.left 0 ≡ false = sym c.is_drawn.ensures ∙ c.if-is_drawn.false in
    c.bound-else-is_drawn.ensures ∙ rw (← c.self.view_is) (sym (order_bound (places_tree g.S.PlaceSteps.rule (length s.state.numer)) exchanged_values s left))
