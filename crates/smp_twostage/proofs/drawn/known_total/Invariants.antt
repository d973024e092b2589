use Rattle.smp_twostage.proofs.ColumnSums.{IsSum}
use Rattle.smp_twostage.proofs.drawn.known_total.Given as goal

-- the sum so far
abbrev pub invariant-loop-unit : goal.invariant-loop-unit
invariant-loop-unit l = IsSum l.drawn.asked.now l.values l.unit l.total
