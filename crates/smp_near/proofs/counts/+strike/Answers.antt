use Rattle.std.proofs.Common.{◌+◌, rules, arith}
use Rattle.smp_near.specs.Kept.Trees.{IsCounted}
use Rattle.smp_places.specs.Trees.{EachRoot}
use Rattle.smp_near.proofs.Counting.{lowered_first, lowered_second, lowered_root, some_at_root}
use Rattle.smp_places.proofs.Roots.{first_half, second_half}
use Rattle.smp_near.proofs.counts.+strike.Goals as goal

pub strike-requires : goal.strike-requires
strike-requires t c =
    let counted : EachRoot (IsCounted c.args.living.now c.args.order.now c.args.counts.now) c.args.low c.middle_of-root.result = first_half _ c.args.low c.middle_of-root.result c.args.high c.middle_of-root.ensures.is (omega arith) c.requires.counted in
    search (rules, counted)

pub strike-requires-then-root-place : goal.strike-requires-then-root-place
strike-requires-then-root-place t c =
    let counted : EachRoot (IsCounted c.args.living.now c.args.order.now c.args.counts.now) (c.middle_of-root.result + 1) c.args.high = second_half _ c.args.low c.middle_of-root.result c.args.high c.middle_of-root.ensures.is (omega arith) c.requires.counted in
    search (rules, counted)

pub overflow_sub-counts : goal.overflow_sub-counts
overflow_sub-counts t c =
    let kept = c.strike.ensures.behind c.middle_of-root.result (omega arith) in
    omega (arith, some_at_root c.args.living.now c.args.order.now c.args.place c.requires.alive c.requires.alone c.args.counts.now c.args.low c.middle_of-root.result c.args.high c.middle_of-root.ensures.is c.requires.from c.requires.before c.requires.within c.requires.counted, kept)

pub overflow_sub-counts-then-root-place : goal.overflow_sub-counts-then-root-place
overflow_sub-counts-then-root-place t c =
    let kept = c.strike-then-root-place.ensures.before c.middle_of-root.result (omega arith) in
    omega (arith, some_at_root c.args.living.now c.args.order.now c.args.place c.requires.alive c.requires.alone c.args.counts.now c.args.low c.middle_of-root.result c.args.high c.middle_of-root.ensures.is c.requires.from c.requires.before c.requires.within c.requires.counted, kept)

pub overflow_sub-counts-else-root-place : goal.overflow_sub-counts-else-root-place
overflow_sub-counts-else-root-place t c = some_at_root c.args.living.now c.args.order.now c.args.place c.requires.alive c.requires.alone c.args.counts.now c.args.low c.middle_of-root.result c.args.high c.middle_of-root.ensures.is c.requires.from c.requires.before c.requires.within c.requires.counted

pub returns-then-place-root-clause-counted : goal.returns-then-place-root-clause-counted
returns-then-place-root-clause-counted t c =
    lowered_first c.args.living.now c.args.order.now c.args.place c.requires.alive c.requires.alone c.args.counts.now c.args.low c.middle_of-root.result c.args.high c.middle_of-root.ensures.is c.requires.from c.requires.before c.requires.within c.requires.counted _ _ c.strike.ensures.gone (omega arith) (omega arith) c.strike.ensures.counted c.strike.ensures.behind

pub returns-then-root-place-clause-counted : goal.returns-then-root-place-clause-counted
returns-then-root-place-clause-counted t c =
    lowered_second c.args.living.now c.args.order.now c.args.place c.requires.alive c.requires.alone c.args.counts.now c.args.low c.middle_of-root.result c.args.high c.middle_of-root.ensures.is c.requires.from c.requires.before c.requires.within c.requires.counted _ _ c.strike-then-root-place.ensures.gone (omega arith) (omega arith) c.strike-then-root-place.ensures.counted c.strike-then-root-place.ensures.before

pub returns-else-root-place-clause-counted : goal.returns-else-root-place-clause-counted
returns-else-root-place-clause-counted t c = lowered_root c.args.living.now c.args.order.now c.args.place c.requires.alive c.requires.alone c.args.counts.now c.args.low c.middle_of-root.result c.args.high c.middle_of-root.ensures.is c.requires.from c.requires.before c.requires.within c.requires.counted (omega arith) (omega arith)
