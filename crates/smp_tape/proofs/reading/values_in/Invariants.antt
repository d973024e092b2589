use Rattle.std.proofs.Common.{◌≡◌, ◌+◌, length}
use Rattle.smp_tape.specs.TapeText.{lines_in, values_from}
use Rattle.smp_tape.proofs.Front.{with_front}
use Rattle.smp_tape.proofs.reading.values_in.Given as goal

abbrev pub invariant-loop-rest : goal.invariant-loop-rest
invariant-loop-rest l = with_front l.values.items (values_from (length l.values.items + 1) (lines_in l.rest)) ≡ values_from 1 (lines_in l.bytes)

abbrev pub decreases-loop-rest : goal.decreases-loop-rest
decreases-loop-rest l = length l.rest
