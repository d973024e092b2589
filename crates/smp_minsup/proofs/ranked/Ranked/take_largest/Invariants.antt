use Rattle.smp_minsup.proofs.Parting.{IsTaking}
use Rattle.smp_minsup.proofs.ranked.Ranked.take_largest.Given as goal

-- so many units are large so far, and they are the largest
abbrev pub invariant-loop-i : goal.invariant-loop-i
invariant-loop-i l = IsTaking l.fn.self l._i l.self
