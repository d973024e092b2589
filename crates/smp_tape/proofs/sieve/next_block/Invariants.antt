use Rattle.smp_tape.proofs.Blocks.{IsBlock}
use Rattle.smp_tape.proofs.sieve.next_block.Given as goal

abbrev pub invariant-loop-k : goal.invariant-loop-k
invariant-loop-k g l = IsBlock g.W.Words.stream l.fn.words l.words l.block l.k
