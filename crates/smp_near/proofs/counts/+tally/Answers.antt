use Rattle.std.proofs.Common.{◌≡◌, ◌≢◌, ℕ, ◌+◌, ◌<◌, List, length, get_or, set, ◌∙◌, sym, ap, arith}
use Rattle.std.proofs.lemmas.List.{get_or-set_same, get_or-set_other}
use Rattle.smp_near.specs.Kept.Trees.{lives_at, one_if}
use Rattle.smp_near.proofs.{Counting.{before_more, counted_all, counted_kept}, counts.+tally.Goals.{then-living-order, else-living-order}}
use Rattle.smp_places.proofs.Roots.{no_root}
use Rattle.smp_near.proofs.counts.+tally.Goals as goal

pub returns-else-low-high-clause-counted : goal.returns-else-low-high-clause-counted
returns-else-low-high-clause-counted t c = no_root _ c.args.low c.args.high (omega arith)

pub returns-after-living-order-clause-counted : goal.returns-after-living-order-clause-counted
returns-after-living-order-clause-counted t c =
    let root : ℕ = c.middle_of-root.result in
    let twice : List ℕ = c.tally-second.new.counts in
    let sum : ℕ = c.tally-first.result + c.if-living-order.own + c.tally-second.result in
    let end : List ℕ = set twice root sum in
    let within : root < length twice = omega arith in
    let own : c.if-living-order.own ≡ one_if (lives_at c.args.living.now c.args.order.now root) =
    elim c.if-living-order.branch [
      | then-living-order w ↦ w.own-is ∙ sym (ap one_if w.if-living-order.true)
      | else-living-order w ↦ w.own-is ∙ sym (ap one_if w.if-living-order.false)
    ] in
    let first_number = c.tally-first.ensures.number (omega arith) in
    let second_number = c.tally-second.ensures.number (omega arith) in
    let at_root : get_or end root 0 ≡ sum = get_or-set_same twice root sum 0 within in
    counted_all c.args.living.now c.args.order.now twice end c.args.low root c.args.high c.middle_of-root.ensures.is c.if-low-high.true
    (λ place p q. (let other : place ≢ root = omega arith in get_or-set_other twice root place sum 0 other))
    (λ place p q. (let other : place ≢ root = omega arith in get_or-set_other twice root place sum 0 other))
    (omega (arith, at_root, own, first_number, second_number, before_more c.args.living.now c.args.order.now root))
    (counted_kept c.args.living.now c.args.order.now c.tally-first.new.counts twice c.args.low root (λ place p q. c.tally-second.ensures.before place (omega arith)) c.tally-first.ensures.counted)
    c.tally-second.ensures.counted
