use Rattle.std.proofs.Common.{◌≡◌, ◌≤◌, ◌+◌, ◌-◌, ℕ, drop, arith, rules, sym, ap, ◌∙◌}
use Rattle.std.specs.Prelude.{sum}
use Rattle.smp_prob.specs.Requested.{certain_units, positive_units}
use Rattle.smp_elim.proofs.Cutting.{IsTurn, enough_of, is_turn, rest_more, rest_within, goes_down, stays_here}
use Rattle.smp_elim.proofs.{Orders.{falling, fewer_certain, left_at, rest_at}, cuts.cut_below.Goals.{In-loop-count}}
use Rattle.smp_elim.proofs.cuts.cut_below.Goals as goal

-- what is known of the unit before the place
turn : (c : In-loop-count) → IsTurn c.args.sizes.now c.args.order.now c.args.draws c.loop-count.count
turn c = is_turn c.args.sizes.now c.args.order.now c.requires.order c.requires.positive c.args.draws c.args.cut.count c.loop-count.count c.requires.enough c.requires.cut.count_is c.loop-count.invariant.fewer (omega arith)

pub loop-count-init : goal.loop-count-init
loop-count-init c =
    let sizes = c.args.sizes.now in
    let enough = enough_of sizes c.requires.positive c.args.draws c.requires.enough in
    let one : c.args.draws - 1 + 1 ≡ c.args.draws = omega (arith, c.requires.some) in
    let count_is = c.requires.cut.count_is in
    record {
      past = (let fewer = fewer_certain (c.args.draws - 1) sizes in omega (arith, fewer, ap (λ (n : ℕ). certain_units n sizes) one, count_is));
      fewer = omega arith;
      rest_is = c.requires.cut.rest_is ∙ left_at sizes c.args.order.now c.requires.order c.args.draws enough ∙ ap (λ (k : ℕ). sum (drop k (falling sizes c.args.order.now))) (sym count_is);
    }

pub bounds-order-count : goal.bounds-order-count
bounds-order-count c = (turn (goal.at.bounds-order-count c).In-loop-count).in_order

pub offset_bounds-order-count : goal.offset_bounds-order-count
offset_bounds-order-count c = search (rules, (turn (goal.at.offset_bounds-order-count c).In-loop-count).in_order)

pub bounds-sizes-order : goal.bounds-sizes-order
bounds-sizes-order c = (turn (goal.at.bounds-sizes-order c).In-loop-count).unit

pub offset_bounds-sizes-order : goal.offset_bounds-sizes-order
offset_bounds-sizes-order c = search (rules, (turn (goal.at.offset_bounds-sizes-order c).In-loop-count).unit)

pub overflow_sub-share : goal.overflow_sub-share
overflow_sub-share c = (turn (goal.at.overflow_sub-share c).In-loop-count).here

pub overflow_add-total : goal.overflow_add-total
overflow_add-total c =
    let at_turn = turn (goal.at.overflow_add-total c).In-loop-count in
    let rest_is = c.loop-count.invariant.rest_is in
    omega (arith, rest_is, rest_more c.args.sizes.now c.args.order.now c.requires.order c.loop-count.count (omega arith) at_turn.in_sizes, rest_within c.args.sizes.now c.args.order.now c.requires.order c.loop-count.count (omega arith) at_turn.in_sizes, c.requires.narrow)

pub loop-count-preserved : goal.loop-count-preserved
loop-count-preserved c =
    let at_turn = turn (goal.at.loop-count-preserved c).In-loop-count in
    let rest_is = c.loop-count.invariant.rest_is in
    record {
      past = goes_down c.args.sizes.now c.args.order.now c.requires.order c.loop-count.count (omega arith) at_turn.in_sizes c.args.draws c.requires.some at_turn.here at_turn.enough (omega (arith, rest_is));
      fewer = omega arith;
      rest_is = omega (arith, rest_is, rest_more c.args.sizes.now c.args.order.now c.requires.order c.loop-count.count (omega arith) at_turn.in_sizes);
    }

pub returns-then-share-total-clause-below : goal.returns-then-share-total-clause-below
returns-then-share-total-clause-below c =
    let at_turn = turn (goal.at.returns-then-share-total-clause-below c).In-loop-count in
    let rest_is = c.loop-count.invariant.rest_is in
    let at_least = stays_here c.args.sizes.now c.args.order.now c.requires.order c.loop-count.count (omega arith) at_turn.in_sizes c.args.draws c.requires.some at_turn.here at_turn.enough (c.requires.positive _ at_turn.unit) (omega (arith, rest_is)) in
    let same : c.loop-count.count ≡ certain_units (c.args.draws - 1) c.args.sizes.now = omega (arith, at_least, c.loop-count.invariant.past) in
    record { count_is = same; rest_is = rest_at c.args.sizes.now c.args.order.now c.requires.order (c.args.draws - 1) at_turn.enough c.loop-count.count c.loop-count.rest same rest_is }

pub returns-clause-below : goal.returns-clause-below
returns-clause-below c =
    let sizes = c.args.sizes.now in
    let enough = enough_of sizes c.requires.positive c.args.draws c.requires.enough in
    let enough_fewer : c.args.draws - 1 ≤ positive_units sizes = omega (arith, enough) in
    let same : c.loop-count.count ≡ certain_units (c.args.draws - 1) sizes = omega (arith, c.loop-count.invariant.past) in
    record { count_is = same; rest_is = rest_at sizes c.args.order.now c.requires.order (c.args.draws - 1) enough_fewer c.loop-count.count c.loop-count.rest same c.loop-count.invariant.rest_is }
