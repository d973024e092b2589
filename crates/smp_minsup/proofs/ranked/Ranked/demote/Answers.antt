use Rattle.std.proofs.Common.{◌≡◌, ◌-◌, ◌≤◌, false, ◌∷◌, length, arith, rules, subst, ap, sym, ◌∙◌}
use Rattle.std.specs.{BinaryHeap.{IsHeap, heap_items, heap_len}, List.Sorted.{IsPermutation}}
use Rattle.smp_minsup.specs.Kept.Ranked.{RankedUnits, IsLeastLarge, large_count, placed, by_numer}
use Rattle.smp_minsup.proofs.{Ranking.{least_large, some_large, some_true, demoted, down_view, down_within}, Queues.{on_ok, some_taken}}
use Rattle.smp_minsup.proofs.ranked.Ranked.demote.Goals as goal

pub unreachable-requires : goal.unreachable-requires
unreachable-requires c =
    let there = subst (λ (v : RankedUnits). 1 ≤ large_count v) (sym c.self.view_is) c.requires.some in
    let one = some_true c.self.inside.large.items there in
    let some : 1 ≤ length (heap_items c.self.inside.larges) = some_large c.self.invariant one.0 (omega (arith, one.1.0, c.self.invariant.paired)) one.1.1 in
    let none : length (heap_items c.self.inside.larges) ≡ 0 = search (rules, c.in_default.ensures.none) in
    omega (arith, some, none)

pub overflow_sub-numer : goal.overflow_sub-numer
overflow_sub-numer c =
    let within = down_within c.self.invariant c.in-Some.field-0 (some_taken _ _ _ c.in-Some.ensures.permutation) c.in-Some.ensures.top in
    omega (arith, within)

pub invariant_of-self : goal.invariant_of-self
invariant_of-self c =
    let len : length (heap_items c.self.inside.smalls) ≡ heap_len c.self.inside.smalls = search rules in
    let ok = c.push.ensures.succeeds (omega (arith, len, some_taken _ _ _ c.in-Some.ensures.permutation, c.self.invariant.all, c.self.invariant.small_room)) in
    let put : IsPermutation ((c.in-Some.field-0.0.0 - c.self.inside.offset, c.in-Some.field-0.0.1) ∷ heap_items c.self.inside.smalls) (heap_items c.push.new.self) = search (rules, ok) in
    let order : IsHeap by_numer (heap_items c.push.new.self) = on_ok (IsHeap by_numer (heap_items c.self.inside.smalls) → IsHeap by_numer (heap_items c.push.new.self)) c.push.result ok c.push.ensures.heap_order c.self.invariant.small_order in
    demoted c.self.invariant c.in-Some.field-0 (some_taken _ _ _ c.in-Some.ensures.permutation) c.in-Some.ensures.top c.push.ensures.capacity (omega (arith, c.in-Some.ensures.capacity))
    (heap_items c.pop.new.self) (heap_items c.push.new.self) c.in-Some.ensures.permutation put (c.in-Some.ensures.heap_order c.self.invariant.large_order).0 order

pub returns-clause-least : goal.returns-clause-least
returns-clause-least c =
    subst (λ (v : RankedUnits). IsLeastLarge v c.in-Some.field-0.0.1) c.self.view_is
    (least_large c.self.invariant c.in-Some.field-0 (some_taken _ _ _ c.in-Some.ensures.permutation) c.in-Some.ensures.top (c.in-Some.ensures.heap_order c.self.invariant.large_order).1)

pub returns-clause-placed : goal.returns-clause-placed
returns-clause-placed c =
    down_view c.self.invariant c.in-Some.field-0 (some_taken _ _ _ c.in-Some.ensures.permutation) c.in-Some.ensures.top
    ∙ ap (λ (v : RankedUnits). placed v c.in-Some.field-0.0.1 false) c.self.view_is
