use Rattle.std.proofs.Common.{◌≡◌, ◌<◌, ◌∙◌, ℕ, length, get_or, replicate, true, ap, subst, sym, List, Bool, arith, rules}
use Rattle.std.proofs.lemmas.List.{length-replicate}
use Rattle.smp_near.specs.Kept.Trees.{IsCounted, IsEnclosed}
use Rattle.smp_places.specs.Trees.{EachRoot}
use Rattle.smp_places.proofs.Orders.{order_long, order_below}
use Rattle.smp_near.proofs.tree.tree_of.Goals as goal

pub regions_of-requires : goal.regions_of-requires
regions_of-requires g c =
    let below : (place : ℕ) → place < length c.as_slice.result.now → get_or c.as_slice.result.now place 0 < length c.args.coords.now = rw c.as_slice.ensures.value (order_below (length c.args.coords.now) c.in_ok-order.order.items c.in_ok-order.ensures) in
    search (rules, below)

pub counts_of-requires : goal.counts_of-requires
counts_of-requires g c =
    let living : c.in_ok-living.living.items ≡ replicate (length c.args.coords.now) true = search rules in
    let long : length c.as_slice-2.result.now ≡ length c.args.coords.now = ap length c.as_slice-2.ensures.value ∙ ap length living ∙ length-replicate (length c.args.coords.now) true in
    let below : (place : ℕ) → place < length c.as_slice-3.result.now → get_or c.as_slice-3.result.now place 0 < length c.args.coords.now = rw c.as_slice-3.ensures.value (order_below (length c.args.coords.now) c.in_ok-order.order.items c.in_ok-order.ensures) in
    record { units = rw long below }

pub returns-clause-sized : goal.returns-clause-sized
returns-clause-sized g c =
    let coords : length c.in_ok-from_slice.field-0.items ≡ length c.args.coords.now = ap length c.in_ok-from_slice.ensures.items in
    let living : c.in_ok-living.living.items ≡ replicate (length c.args.coords.now) true = search rules in
    let order = order_long (length c.args.coords.now) c.in_ok-order.order.items c.in_ok-order.ensures in
    let sliced = ap length c.as_slice.ensures.value in
    let sliced_again = ap length c.as_slice-3.ensures.value in
    record {
      few = c.requires.few;
      short = omega (arith, coords);
      living = ap length living ∙ length-replicate (length c.args.coords.now) true ∙ sym coords;
      order = omega (arith, order, coords);
      regions = omega (arith, c.in_ok-regions.ensures.same, sliced, order, coords);
      counts = omega (arith, c.in_ok-counts.ensures.same, sliced_again, order, coords);
      unit_at = λ place here. (let below = order_below (length c.args.coords.now) c.in_ok-order.order.items c.in_ok-order.ensures place (omega (arith, order, coords)) in omega (arith, below, coords));
    }

pub returns-clause-enclosed : goal.returns-clause-enclosed
returns-clause-enclosed g c =
    let order = order_long (length c.args.coords.now) c.in_ok-order.order.items c.in_ok-order.ensures in
    let as_made : EachRoot (IsEnclosed c.args.coords.now c.in_ok-order.order.items c.in_ok-regions.regions.items) 0 (length c.in_ok-order.order.items) = subst (λ (xs : List ℕ). EachRoot (IsEnclosed c.args.coords.now xs c.in_ok-regions.regions.items) 0 (length xs)) c.as_slice.ensures.value c.in_ok-regions.ensures.enclosed in
    rw (c.in_ok-from_slice.ensures.items, ← order) as_made

pub returns-clause-counted : goal.returns-clause-counted
returns-clause-counted g c =
    let order = order_long (length c.args.coords.now) c.in_ok-order.order.items c.in_ok-order.ensures in
    let as_made : EachRoot (IsCounted c.as_slice-2.result.now c.in_ok-order.order.items c.in_ok-counts.counts.items) 0 (length c.in_ok-order.order.items) = subst (λ (xs : List ℕ). EachRoot (IsCounted c.as_slice-2.result.now xs c.in_ok-counts.counts.items) 0 (length xs)) c.as_slice-3.ensures.value c.in_ok-counts.ensures.counted in
    rw (← order) (subst (λ (xs : List Bool). EachRoot (IsCounted xs c.in_ok-order.order.items c.in_ok-counts.counts.items) 0 (length c.in_ok-order.order.items)) c.as_slice-2.ensures.value as_made)
