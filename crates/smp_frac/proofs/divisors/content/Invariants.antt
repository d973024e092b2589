use Rattle.smp_frac.specs.Divisors.{IsContentOfFirst}
use Rattle.smp_frac.proofs.divisors.content.Given as goal

abbrev pub invariant-loop-entry : goal.invariant-loop-entry
invariant-loop-entry l = IsContentOfFirst l.entry-index l.row l.divisor
