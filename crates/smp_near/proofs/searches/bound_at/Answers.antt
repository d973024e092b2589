use Rattle.std.proofs.{Common.{◌<◌, ◌∙◌, [], length, sym, arith}, lemmas.List.{get_or_read}}
use Rattle.smp_near.specs.Kept.Trees.{points_of}
use Rattle.smp_near.proofs.Searching.{bound_none, bound_some}
use Rattle.smp_near.proofs.searches.bound_at.Goals as goal

pub returns-then-low-high : goal.returns-then-low-high
returns-then-low-high g c place from before _ = omega (arith, from, before)

pub returns-then-index-eq0 : goal.returns-then-index-eq0
returns-then-index-eq0 g c =
    let within : c.root_of-root.result < length c.args.tree.now.counts.items = omega arith in
    bound_none (points_of c.args.tree.now) c.args.tree.now.order.items c.args.i c.args.low c.root_of-root.result c.args.high c.args.tree.now.counts.items c.root_of-root.ensures.counted
    (sym (get_or_read c.args.tree.now.counts.items c.root_of-root.result c.index.result.now within c.index.ensures 0) ∙ c.if-index-eq0.true)

pub returns : goal.returns
returns g c =
    let within : c.args.i < length c.args.tree.now.coords.items = omega arith in
    let some : c.args.low < c.args.high = omega arith in
    let start = get_or_read c.args.tree.now.coords.items c.args.i c.index-3.result.now within c.index-3.ensures [] in
    bound_some (points_of c.args.tree.now) c.args.tree.now.order.items c.args.i c.args.low c.root_of-root.result c.args.high g.row.K c.args.tree.now.regions.items c.index-2.result.now c.bound_of.result
    some c.index-2.ensures (rw start at c.bound_of.ensures.distance) c.bound_of.ensures.first c.root_of-root.ensures.enclosed
