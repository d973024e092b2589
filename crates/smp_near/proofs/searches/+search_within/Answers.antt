use Rattle.std.proofs.{Common.{◌<◌, length, arith}, lemmas.List.{get_or_read}}
use Rattle.smp_near.specs.Kept.Trees.{points_of}
use Rattle.smp_near.proofs.Searching.{best_of_parts, left_out_behind, left_out_empty}
use Rattle.smp_near.proofs.searches.+search_within.Goals as goal

pub returns-in_default-clause-least : goal.returns-in_default-clause-least
returns-in_default-clause-least g t c =
    left_out_empty (points_of c.args.tree.now) c.args.tree.now.order.items c.args.i c.args.low c.args.high c.args.past c.args.best (rw c.in_default.is at c.requires.bound)

pub returns-then-not-comes_before-clause-least : goal.returns-then-not-comes_before-clause-least
returns-then-not-comes_before-clause-least g t c =
    left_out_behind (points_of c.args.tree.now) c.args.tree.now.order.items c.args.i c.args.low c.args.high c.args.past c.args.best c.in-Some.bound (rw c.in-Some.is at c.requires.bound) (c.comes_before.ensures.behind c.if-not-comes_before.true)

pub returns-then-is_first_nearer-clause-least : goal.returns-then-is_first_nearer-clause-least
returns-then-is_first_nearer-clause-least g t c =
    let within : c.root_of-root.result < length c.args.tree.now.order.items = omega arith in
    let unit = get_or_read c.args.tree.now.order.items c.root_of-root.result c.index.result.now within c.index.ensures 0 in
    best_of_parts (points_of c.args.tree.now) c.args.tree.now.order.items c.args.i c.args.low c.root_of-root.result c.args.high c.args.past c.search_within.result (λ other after. c.search_within.ensures.better _ (c.search_within-best.ensures.better _ (rw (← unit) (c.with_point-best.ensures.own (rw (← unit) at other) (rw (← unit) at after)))))
    (λ place from before other after. c.search_within.ensures.better _ (c.search_within-best.ensures.least place from before other after)) c.search_within.ensures.least

pub returns-else-is_first_nearer-clause-least : goal.returns-else-is_first_nearer-clause-least
returns-else-is_first_nearer-clause-least g t c =
    let within : c.root_of-root.result < length c.args.tree.now.order.items = omega arith in
    let unit = get_or_read c.args.tree.now.order.items c.root_of-root.result c.index.result.now within c.index.ensures 0 in
    best_of_parts (points_of c.args.tree.now) c.args.tree.now.order.items c.args.i c.args.low c.root_of-root.result c.args.high c.args.past c.search_within-else-is_first_nearer.result (λ other after. c.search_within-else-is_first_nearer.ensures.better _ (c.search_within-best-else-is_first_nearer.ensures.better _ (rw (← unit) (c.with_point-best.ensures.own (rw (← unit) at other) (rw (← unit) at after)))))
    c.search_within-else-is_first_nearer.ensures.least (λ place from before other after. c.search_within-else-is_first_nearer.ensures.better _ (c.search_within-best-else-is_first_nearer.ensures.least place from before other after))
