use Rattle.std.proofs.{Common.{◌≡◌, ◌+◌, get_or, rules, arith}, lemmas.List.Sorted.{length_permutation}}
use Rattle.smp_prob.specs.Kept.Cuts.{border}
use Rattle.smp_prob.proofs.{Sizes.{all_at_most, small_order}, FallingOrders.{cut_order, long_order}, Cuts.{IsCut, is_feasible, light_cut}}
use Rattle.smp_prob.proofs.{RequestedUnits.{certain_places, free_places, sizes_below}, proportional.picked_units.Goals.{After-pick}}
use Rattle.smp_prob.proofs.proportional.picked_units.Goals as goal

pub least_cut-cut-requires-clause-few : goal.least_cut-cut-requires-clause-few
least_cut-cut-requires-clause-few c =
    rw c.deref.ensures.value (omega (arith, c.requires.few, length_permutation c.args.sizes.now c.in_ok-order.order.items c.in_ok-order.ensures.same))

pub least_cut-cut-requires-clause-enough : goal.least_cut-cut-requires-clause-enough
least_cut-cut-requires-clause-enough c =
    rw c.deref.ensures.value (long_order c.args.n c.args.sizes.now c.in_ok-order.order.items c.requires.enough c.in_ok-order.ensures.same)

pub least_cut-cut-requires-clause-small : goal.least_cut-cut-requires-clause-small
least_cut-cut-requires-clause-small c =
    rw c.deref.ensures.value (small_order c.args.sizes.now c.in_ok-order.order.items c.in_ok-order.ensures.same c.requires.small)

pub border_of-border-requires-clause-small : goal.border_of-border-requires-clause-small
border_of-border-requires-clause-small c =
    rw c.deref-2.ensures.value (small_order c.args.sizes.now c.in_ok-order.order.items c.in_ok-order.ensures.same c.requires.small)

pub border_of-border-requires-clause-cut : goal.border_of-border-requires-clause-cut
border_of-border-requires-clause-cut c =
    rw c.deref-2.ensures.value (omega (arith, c.least_cut-cut.ensures.within, long_order c.args.n c.args.sizes.now c.in_ok-order.order.items c.requires.enough c.in_ok-order.ensures.same))

pub border_of-border-requires-clause-some : goal.border_of-border-requires-clause-some
border_of-border-requires-clause-some c =
    rw c.deref-2.ensures.value (omega (arith, c.requires.some, long_order c.args.n c.args.sizes.now c.in_ok-order.order.items c.requires.enough c.in_ok-order.ensures.same))

-- the border cuts the sizes as they were given
cut : (c : goal.After-drop-order) → IsCut c.args.n c.args.sizes.now c.border_of-border.result (get_or c.in_ok-order.order.items c.least_cut-cut.result 0)
cut c =
    let least = rw c.deref.ensures.value at c.least_cut-cut.ensures.least in
    let border_is : c.border_of-border.result ≡ border c.least_cut-cut.result c.in_ok-order.order.items = rw c.deref-2.ensures.value at c.border_of-border.ensures in
    cut_order c.args.n c.least_cut-cut.result c.args.sizes.now c.in_ok-order.order.items c.in_ok-order.ensures.same c.in_ok-order.ensures.order c.requires.enough least c.border_of-border.result border_is

pub returns-clause-certain : goal.returns-clause-certain
returns-clause-certain c = rw (← certain_places _ _ _ _ (cut c)) c.pick-2.ensures.certain

pub returns-clause-free : goal.returns-clause-free
returns-clause-free c = rw (← free_places _ _ _ _ (cut c)) c.pick-2.ensures.free

pub returns-clause-free_sizes : goal.returns-clause-free_sizes
returns-clause-free_sizes c = rw (← sizes_below _ _ _ _ (cut c)) c.pick-2.ensures.free_sizes

pub returns-clause-feasible : goal.returns-clause-feasible
returns-clause-feasible c = let feasible = is_feasible _ _ _ _ (cut c) c.requires.some in search (rules, feasible)

-- where no share is as much as one, none is certain
light : (c : After-pick) → IsCut c.args.n c.args.sizes.now (c.largest_of-largest.result + 1) c.largest_of-largest.result
light c =
    light_cut c.args.n c.largest_of-largest.result c.args.sizes.now (all_at_most c.args.sizes.now c.largest_of-largest.result c.largest_of-largest.ensures.most)
    (rw c.sum_of.ensures at c.if-n-largest.true)

pub returns-then-n-largest-clause-certain : goal.returns-then-n-largest-clause-certain
returns-then-n-largest-clause-certain c = rw (← certain_places _ _ _ _ (light c)) c.pick.ensures.certain

pub returns-then-n-largest-clause-free : goal.returns-then-n-largest-clause-free
returns-then-n-largest-clause-free c = rw (← free_places _ _ _ _ (light c)) c.pick.ensures.free

pub returns-then-n-largest-clause-free_sizes : goal.returns-then-n-largest-clause-free_sizes
returns-then-n-largest-clause-free_sizes c = rw (← sizes_below _ _ _ _ (light c)) c.pick.ensures.free_sizes

pub returns-then-n-largest-clause-feasible : goal.returns-then-n-largest-clause-feasible
returns-then-n-largest-clause-feasible c = let feasible = is_feasible _ _ _ _ (light c) c.requires.some in search (rules, feasible)
