use Rattle.std.proofs.Common.{◌≡◌, ℕ, ◌+◌, ◌^◌, ◌<◌, ◌≤◌, true, ◌∷◌, length, get_or, arith, rules, subst, ap, sym, ◌∙◌}
use Rattle.std.specs.{BinaryHeap.{IsHeap, heap_items, heap_len}, List.Sorted.{IsPermutation}}
use Rattle.smp_minsup.specs.Kept.Ranked.{RankedUnits, IsMostSmall, large_count, placed, by_numer_reversed}
use Rattle.smp_minsup.proofs.Ranking.{length_view, at_small, small_known, small_in, small_numer, most_small, some_small, some_false, promoted, up_view}
use Rattle.smp_minsup.proofs.Queues.{on_ok, some_taken}
use Rattle.smp_minsup.proofs.ranked.Ranked.promote.Goals as goal

pub unreachable-requires : goal.unreachable-requires
unreachable-requires c =
    let fewer = subst (λ (v : RankedUnits). large_count v < length v.numer) (sym c.self.view_is) c.requires.some in
    let n = length_view c.self.inside.raw.items c.self.inside.large.items c.self.inside.offset in
    let left = some_false c.self.inside.large.items (omega (arith, fewer, n, c.self.invariant.paired)) in
    let some : 1 ≤ length (heap_items c.self.inside.smalls) = some_small c.self.invariant left.0 (omega (arith, left.1.0, c.self.invariant.paired)) left.1.1 in
    let none : length (heap_items c.self.inside.smalls) ≡ 0 = search (rules, c.in_default.ensures.none) in
    omega (arith, some, none)

pub overflow_add-raw : goal.overflow_add-raw
overflow_add-raw c =
    let numer_is = small_numer c.self.invariant (c.in-Some.numer, c.in-Some.unit) (some_taken _ _ _ c.in-Some.ensures.permutation) c.in-Some.ensures.top in
    let known = small_known c.self.invariant (c.in-Some.numer, c.in-Some.unit) (some_taken _ _ _ c.in-Some.ensures.permutation) c.in-Some.ensures.top in
    let flag = small_in c.self.invariant (c.in-Some.numer, c.in-Some.unit) (some_taken _ _ _ c.in-Some.ensures.permutation) c.in-Some.ensures.top in
    let same = at_small c.self.inside.raw.items c.self.inside.large.items c.self.inside.offset c.in-Some.unit known flag in
    let narrow = subst (λ (v : RankedUnits). (unit : ℕ) → get_or v.numer unit 0 < 2 ^ 126) (sym c.self.view_is) c.requires.narrow in
    let low : c.self.inside.offset < 2 ^ 126 = c.self.invariant.low in
    let small : c.in-Some.numer < 2 ^ 126 = omega (arith, numer_is, same, narrow c.in-Some.unit) in
    omega (arith, small, low)

pub invariant_of-self : goal.invariant_of-self
invariant_of-self c =
    let len : length (heap_items c.self.inside.larges) ≡ heap_len c.self.inside.larges = search rules in
    let ok = c.push.ensures.succeeds (omega (arith, len, some_taken _ _ _ c.in-Some.ensures.permutation, c.self.invariant.all, c.self.invariant.large_room)) in
    let put : IsPermutation (record { 0 = (c.in-Some.numer + c.self.inside.offset, c.in-Some.unit) } ∷ heap_items c.self.inside.larges) (heap_items c.push.new.self) = search (rules, ok) in
    let order : IsHeap by_numer_reversed (heap_items c.push.new.self) = on_ok (IsHeap by_numer_reversed (heap_items c.self.inside.larges) → IsHeap by_numer_reversed (heap_items c.push.new.self)) c.push.result ok c.push.ensures.heap_order c.self.invariant.large_order in
    promoted c.self.invariant (c.in-Some.numer, c.in-Some.unit) (some_taken _ _ _ c.in-Some.ensures.permutation) c.in-Some.ensures.top (omega (arith, c.in-Some.ensures.capacity)) c.push.ensures.capacity
    (heap_items c.pop.new.self) (heap_items c.push.new.self) c.in-Some.ensures.permutation put (c.in-Some.ensures.heap_order c.self.invariant.small_order).0 order

pub returns-clause-most : goal.returns-clause-most
returns-clause-most c =
    subst (λ (v : RankedUnits). IsMostSmall v c.in-Some.unit) c.self.view_is
    (most_small c.self.invariant (c.in-Some.numer, c.in-Some.unit) (some_taken _ _ _ c.in-Some.ensures.permutation) c.in-Some.ensures.top (c.in-Some.ensures.heap_order c.self.invariant.small_order).1)

pub returns-clause-placed : goal.returns-clause-placed
returns-clause-placed c =
    up_view c.self.invariant (c.in-Some.numer, c.in-Some.unit) (some_taken _ _ _ c.in-Some.ensures.permutation) c.in-Some.ensures.top
    ∙ ap (λ (v : RankedUnits). placed v c.in-Some.unit true) c.self.view_is
