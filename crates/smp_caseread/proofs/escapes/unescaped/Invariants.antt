use Rattle.std.proofs.Common.{length}
use Rattle.smp_caseread.proofs.Standing.{GoesOn}
use Rattle.smp_caseread.proofs.escapes.unescaped.Given as goal

abbrev pub invariant-loop-byte : goal.invariant-loop-byte
invariant-loop-byte l = GoesOn l.text l.bytes.items l.rest

abbrev pub decreases-loop-byte : goal.decreases-loop-byte
decreases-loop-byte l = length l.rest
