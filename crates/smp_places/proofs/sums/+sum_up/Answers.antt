use Rattle.std.proofs.Common.{ℕ, ◌<◌, List, length, arith}
use Rattle.smp_places.proofs.{Summing.{before_more, before_within, summed_kept, summed_set}, Roots.{no_root}}
use Rattle.smp_places.proofs.sums.+sum_up.Goals as goal

pub returns-else-low-high-clause-summed : goal.returns-else-low-high-clause-summed
returns-else-low-high-clause-summed t c = no_root _ c.args.low c.args.high (omega arith)

pub overflow_add-result : goal.overflow_add-result
overflow_add-result t c =
    let sizes : List ℕ = c.args.amounts.now in
    let root : ℕ = c.middle_of-root.result in
    let first = c.sum_up-first.ensures.number (omega arith) in
    let second = c.sum_up-second.ensures.number (omega arith) in
    omega (arith, first, second, before_more sizes root, before_within sizes c.args.high)

pub overflow_add-result-then-low-high : goal.overflow_add-result-then-low-high
overflow_add-result-then-low-high t c =
    let sizes : List ℕ = c.args.amounts.now in
    let root : ℕ = c.middle_of-root.result in
    let first = c.sum_up-first.ensures.number (omega arith) in
    let second = c.sum_up-second.ensures.number (omega arith) in
    omega (arith, first, second, before_more sizes root, before_within sizes c.args.high)

pub returns-then-low-high-clause-number : goal.returns-then-low-high-clause-number
returns-then-low-high-clause-number t c ordered =
    let sizes : List ℕ = c.args.amounts.now in
    let root : ℕ = c.middle_of-root.result in
    let first = c.sum_up-first.ensures.number (omega arith) in
    let second = c.sum_up-second.ensures.number (omega arith) in
    omega (arith, first, second, before_more sizes root)

pub returns-then-low-high-clause-summed : goal.returns-then-low-high-clause-summed
returns-then-low-high-clause-summed t c =
    let sizes : List ℕ = c.args.amounts.now in
    let root : ℕ = c.middle_of-root.result in
    let twice : List ℕ = c.sum_up-second.new.sums in
    let inside : root < length twice = omega arith in
    let first = c.sum_up-first.ensures.number (omega arith) in
    summed_set sizes twice c.sum_up-first.result c.args.low root c.args.high c.middle_of-root.ensures.is c.if-low-high.true inside first
    (summed_kept sizes c.sum_up-first.new.sums twice c.args.low root (λ k p q. c.sum_up-second.ensures.before k (omega arith)) c.sum_up-first.ensures.summed)
    c.sum_up-second.ensures.summed
