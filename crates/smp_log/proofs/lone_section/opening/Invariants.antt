use Rattle.std.proofs.Common.{length}
use Rattle.smp_log.proofs.OpeningLines.{Skipped}
use Rattle.smp_log.proofs.lone_section.opening.Given as goal

abbrev pub invariant-loop-first : goal.invariant-loop-first
invariant-loop-first l = Skipped l.number l.text l.rest l.at l.line

abbrev pub decreases-loop-first : goal.decreases-loop-first
decreases-loop-first l = length l.rest
