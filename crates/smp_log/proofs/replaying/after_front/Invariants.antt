use Rattle.std.proofs.Common.{length}
use Rattle.smp_log.proofs.Fronts.{Agrees}
use Rattle.smp_log.proofs.replaying.after_front.Given as goal

abbrev pub invariant-loop-wanted_line : goal.invariant-loop-wanted_line
invariant-loop-wanted_line l = Agrees l.front l.text l.wanted l.rest l.line

abbrev pub decreases-loop-wanted_line : goal.decreases-loop-wanted_line
decreases-loop-wanted_line l = length l.wanted
