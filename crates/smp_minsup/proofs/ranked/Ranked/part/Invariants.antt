use Rattle.smp_minsup.proofs.Parting.{IsExchanged, disorder}
use Rattle.smp_minsup.proofs.ranked.Ranked.part.Given as goal

-- units were exchanged so far
abbrev pub invariant-loop-self : goal.invariant-loop-self
invariant-loop-self l = IsExchanged l.fn.self l.self

-- by how much the groups are out of order
abbrev pub decreases-loop-self : goal.decreases-loop-self
decreases-loop-self l = disorder l.self
