use Rattle.smp_tape.proofs.Candidates.{Tried}
use Rattle.smp_tape.proofs.sieve.first_below.Given as goal

abbrev pub invariant-loop-tried : goal.invariant-loop-tried
invariant-loop-tried g l = Tried g.W.Words.stream l.fn.words l.words l.bound l.tried
