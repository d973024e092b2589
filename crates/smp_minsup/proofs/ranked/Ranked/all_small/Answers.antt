use Rattle.std.proofs.Common.{◌≡◌, ℕ, ◌+◌, ◌<◌, ◌≤◌, false, [], ◌∷◌, ◌++◌, length, get_or, arith, rules, refl, sym, subst, ap, ◌∙◌}
use Rattle.std.specs.{BinaryHeap.{IsHeap, heap_items, heap_capacity}, List.Sorted.{IsPermutation}}
use Rattle.smp_minsup.specs.Kept.Ranked.{by_numer}
use Rattle.smp_minsup.proofs.{Ranking.{IsFilling, filling_more, filled, first_view, length_view}, Parting.{none_large}}
use Rattle.smp_minsup.proofs.ranked.Ranked.all_small.Goals as goal

pub loop-unit-preserved : goal.loop-unit-preserved
loop-unit-preserved c =
    let here : c.loop-unit.unit < length c.args.numer.now = search rules in
    let grown : c.push.new.self.items ≡ c.loop-unit.large.items ++ false ∷ [] = search rules in
    let put : IsPermutation ((get_or c.args.numer.now c.loop-unit.unit 0, c.loop-unit.unit) ∷ heap_items c.loop-unit.smalls) (heap_items c.push-in-loop-unit.new.self) = search rules in
    let longer : length (heap_items c.push-in-loop-unit.new.self) ≡ length (heap_items c.loop-unit.smalls) + 1 = search rules in
    let order : IsHeap by_numer (heap_items c.push-in-loop-unit.new.self) = c.in_ok-push-2.ensures.heap_order c.loop-unit.invariant.0.order in
    let room : heap_capacity c.loop-unit.smalls ≤ heap_capacity c.push-in-loop-unit.new.self = c.push-in-loop-unit.ensures.capacity in (
      filling_more c.args.numer.now c.loop-unit.unit (get_or c.args.numer.now c.loop-unit.unit 0) c.loop-unit.large.items c.push.new.self.items (heap_items c.loop-unit.smalls) (heap_items c.push-in-loop-unit.new.self) c.loop-unit.invariant.0 here refl grown put order longer,
      omega (arith, room, c.loop-unit.invariant.1),
    )

pub invariant_of-result : goal.invariant_of-result
invariant_of-result c =
    let raw_is : c.in_ok-raw.raw.items ≡ c.args.numer.now = c.in_ok-raw.ensures.items in
    let end : c.loop-unit.unit ≡ length c.args.numer.now = search rules in
    let filling : IsFilling c.in_ok-raw.raw.items (length c.in_ok-raw.raw.items) c.loop-unit.large.items (heap_items c.loop-unit.smalls) =
    rw raw_is (subst (λ (n : ℕ). IsFilling c.args.numer.now n c.loop-unit.large.items (heap_items c.loop-unit.smalls)) end c.loop-unit.invariant.0) in
    let small_room : length c.in_ok-raw.raw.items ≤ heap_capacity c.loop-unit.smalls = rw raw_is c.loop-unit.invariant.1 in
    let large_room : length c.in_ok-raw.raw.items ≤ heap_capacity c.in_ok-larges.larges = (let room = c.in_ok-larges.ensures.capacity in omega (arith, room, ap length raw_is)) in
    filled c.in_ok-raw.raw.items c.loop-unit.large.items (heap_items c.loop-unit.smalls) (heap_items c.in_ok-larges.larges) (heap_capacity c.loop-unit.smalls) (heap_capacity c.in_ok-larges.larges) filling c.in_ok-larges.ensures.items c.in_ok-larges.ensures.heap_order small_room large_room
    (none_large c.loop-unit.large.items c.loop-unit.invariant.0.none)

pub returns-clause-numer : goal.returns-clause-numer
returns-clause-numer c =
    first_view c.in_ok-raw.raw.items c.loop-unit.large.items (none_large c.loop-unit.large.items c.loop-unit.invariant.0.none) ∙ c.in_ok-raw.ensures.items

pub returns-clause-paired : goal.returns-clause-paired
returns-clause-paired c =
    let raw_is : c.in_ok-raw.raw.items ≡ c.args.numer.now = c.in_ok-raw.ensures.items in
    let end : c.loop-unit.unit ≡ length c.args.numer.now = search rules in
    let count : length c.loop-unit.large.items ≡ c.loop-unit.unit = c.loop-unit.invariant.0.count in
    count ∙ end ∙ ap length (sym raw_is) ∙ sym (length_view c.in_ok-raw.raw.items c.loop-unit.large.items 0)
