use Rattle.std.proofs.Common.{length, arith}
use Rattle.smp_places.proofs.{Summing.{is_at_root, weighted_all, weighted_none, weighted_rises}, Roots.{first_half, second_half}}
use Rattle.smp_places.proofs.sums.find.Goals as goal

pub loop-low-init : goal.loop-low-init
loop-low-init c = record {
  end = omega arith;
  past = omega (arith, weighted_none c.args.by c.args.amounts.now c.args.times c.args.others.now);
  within = (let all = weighted_all c.args.by c.args.amounts.now c.args.times c.args.others.now (length c.args.amounts.now) (omega arith) (omega arith) in let less = c.requires.within in omega arith);
  summed = c.requires.summed;
  also = c.requires.others_summed;
}

pub overflow_mul-first : goal.overflow_mul-first
overflow_mul-first c =
    let at = is_at_root c.args.by c.args.amounts.now c.args.times c.args.others.now c.args.sums.now c.args.other_sums.now c.loop-low.low c.middle_of-root.result c.loop-low.high c.middle_of-root.ensures.is c.loop-low-test.true c.loop-low.invariant.summed c.loop-low.invariant.also in
    omega (arith, at.half, at.own, at.within, c.requires.narrow)

pub overflow_mul-first-in-loop-low : goal.overflow_mul-first-in-loop-low
overflow_mul-first-in-loop-low c =
    let at = is_at_root c.args.by c.args.amounts.now c.args.times c.args.others.now c.args.sums.now c.args.other_sums.now c.loop-low.low c.middle_of-root.result c.loop-low.high c.middle_of-root.ensures.is c.loop-low-test.true c.loop-low.invariant.summed c.loop-low.invariant.also in
    omega (arith, at.half, at.own, at.within, c.requires.narrow)

pub overflow_add-first : goal.overflow_add-first
overflow_add-first c =
    let at = is_at_root c.args.by c.args.amounts.now c.args.times c.args.others.now c.args.sums.now c.args.other_sums.now c.loop-low.low c.middle_of-root.result c.loop-low.high c.middle_of-root.ensures.is c.loop-low-test.true c.loop-low.invariant.summed c.loop-low.invariant.also in
    omega (arith, at.half, at.own, at.within, c.requires.narrow)

pub overflow_mul-here : goal.overflow_mul-here
overflow_mul-here c =
    let at = is_at_root c.args.by c.args.amounts.now c.args.times c.args.others.now c.args.sums.now c.args.other_sums.now c.loop-low.low c.middle_of-root.result c.loop-low.high c.middle_of-root.ensures.is c.loop-low-test.true c.loop-low.invariant.summed c.loop-low.invariant.also in
    omega (arith, at.own, at.within, c.requires.narrow)

pub overflow_mul-here-else-left-first : goal.overflow_mul-here-else-left-first
overflow_mul-here-else-left-first c =
    let at = is_at_root c.args.by c.args.amounts.now c.args.times c.args.others.now c.args.sums.now c.args.other_sums.now c.loop-low.low c.middle_of-root.result c.loop-low.high c.middle_of-root.ensures.is c.loop-low-test.true c.loop-low.invariant.summed c.loop-low.invariant.also in
    omega (arith, at.own, at.within, c.requires.narrow)

pub overflow_add-here : goal.overflow_add-here
overflow_add-here c =
    let at = is_at_root c.args.by c.args.amounts.now c.args.times c.args.others.now c.args.sums.now c.args.other_sums.now c.loop-low.low c.middle_of-root.result c.loop-low.high c.middle_of-root.ensures.is c.loop-low-test.true c.loop-low.invariant.summed c.loop-low.invariant.also in
    omega (arith, at.own, at.within, c.requires.narrow)

pub loop-low-preserved-then-left-first : goal.loop-low-preserved-then-left-first
loop-low-preserved-then-left-first c =
    let at = is_at_root c.args.by c.args.amounts.now c.args.times c.args.others.now c.args.sums.now c.args.other_sums.now c.loop-low.low c.middle_of-root.result c.loop-low.high c.middle_of-root.ensures.is c.loop-low-test.true c.loop-low.invariant.summed c.loop-low.invariant.also in
    record {
      end = (let end = c.loop-low.invariant.end in omega arith);
      past = c.loop-low.invariant.past;
      within = omega (arith, at.half, c.loop-low.invariant.past);
      summed = first_half _ c.loop-low.low c.middle_of-root.result c.loop-low.high c.middle_of-root.ensures.is c.loop-low-test.true c.loop-low.invariant.summed;
      also = first_half _ c.loop-low.low c.middle_of-root.result c.loop-low.high c.middle_of-root.ensures.is c.loop-low-test.true c.loop-low.invariant.also;
    }

pub loop-low-preserved : goal.loop-low-preserved
loop-low-preserved c =
    let at = is_at_root c.args.by c.args.amounts.now c.args.times c.args.others.now c.args.sums.now c.args.other_sums.now c.loop-low.low c.middle_of-root.result c.loop-low.high c.middle_of-root.ensures.is c.loop-low-test.true c.loop-low.invariant.summed c.loop-low.invariant.also in
    record {
      end = c.loop-low.invariant.end;
      past = omega (arith, at.half, at.own, c.loop-low.invariant.past);
      within = c.loop-low.invariant.within;
      summed = second_half _ c.loop-low.low c.middle_of-root.result c.loop-low.high c.middle_of-root.ensures.is c.loop-low-test.true c.loop-low.invariant.summed;
      also = second_half _ c.loop-low.low c.middle_of-root.result c.loop-low.high c.middle_of-root.ensures.is c.loop-low-test.true c.loop-low.invariant.also;
    }

pub returns-then-left-first-2-clause-from : goal.returns-then-left-first-2-clause-from
returns-then-left-first-2-clause-from c =
    let at = is_at_root c.args.by c.args.amounts.now c.args.times c.args.others.now c.args.sums.now c.args.other_sums.now c.loop-low.low c.middle_of-root.result c.loop-low.high c.middle_of-root.ensures.is c.loop-low-test.true c.loop-low.invariant.summed c.loop-low.invariant.also in
    omega (arith, at.half, c.loop-low.invariant.past)

pub returns-then-left-first-2-clause-passes : goal.returns-then-left-first-2-clause-passes
returns-then-left-first-2-clause-passes c =
    let at = is_at_root c.args.by c.args.amounts.now c.args.times c.args.others.now c.args.sums.now c.args.other_sums.now c.loop-low.low c.middle_of-root.result c.loop-low.high c.middle_of-root.ensures.is c.loop-low-test.true c.loop-low.invariant.summed c.loop-low.invariant.also in
    omega (arith, at.half, at.own, c.loop-low.invariant.past)

pub unreachable-requires : goal.unreachable-requires
unreachable-requires c =
    let past = c.loop-low.invariant.past in
    let within = c.loop-low.invariant.within in
    let rises = weighted_rises c.args.by c.args.amounts.now c.args.times c.args.others.now c.loop-low.high c.loop-low.low (omega arith) in
    absurd (omega arith)
