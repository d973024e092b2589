-- The words of a key are below 2^32.
use Rattle.std.proofs.Common.{◌^◌, ◌<◌, arith}
use Rattle.rand_chacha.specs.Block.{block_word}
use Rattle.smp_tape.specs.Keys.{Place, key_first}

pub small_word : (at : Place) → key_first at < 2 ^ 32
unfolding block_word
small_word at = omega arith
