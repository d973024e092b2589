use Rattle.std.proofs.{Common.{◌≡◌, ◌+◌, ◌*◌, ◌%◌, ◌^◌, ◌<◌, ◌≤◌, arith, sym, subst}, lemmas.Nat.{shl_whole}}
use Rattle.smp_tape.proofs.Blocks.{IsBlock, no_block, word_more, pow_le}
use Rattle.smp_tape.proofs.sieve.next_block.Goals as goal

pub loop-k-init : goal.loop-k-init
loop-k-init g c = no_block g.W.Words.stream c.args.words.now

pub loop-k-preserved : goal.loop-k-preserved
loop-k-preserved g c =
    let whole : c.word.result * 2 ^ (32 * c.loop-k.k) % 2 ^ 128 ≡ c.word.result * 2 ^ (32 * c.loop-k.k) = shl_whole c.word.result 32 (32 * c.loop-k.k) 128 c.word.type_inv (omega arith) in
    let more = word_more g.W.Words.stream c.args.words.now c.loop-k.words c.word.new.self c.loop-k.block c.loop-k.k c.word.result c.loop-k.invariant c.word.ensures.word c.word.type_inv c.word.ensures.rest in
    subst (λ v. IsBlock g.W.Words.stream c.args.words.now c.word.new.self (c.loop-k.block + v) (c.loop-k.k + 1)) (sym whole) more

pub overflow_add-block : goal.overflow_add-block
overflow_add-block g c =
    let whole : c.word.result * 2 ^ (32 * c.loop-k.k) % 2 ^ 128 ≡ c.word.result * 2 ^ (32 * c.loop-k.k) = shl_whole c.word.result 32 (32 * c.loop-k.k) 128 c.word.type_inv (omega arith) in
    let more = word_more g.W.Words.stream c.args.words.now c.loop-k.words c.word.new.self c.loop-k.block c.loop-k.k c.word.result c.loop-k.invariant c.word.ensures.word c.word.type_inv c.word.ensures.rest in
    let within : 2 ^ (32 * (c.loop-k.k + 1)) ≤ 2 ^ 128 = pow_le (32 * (c.loop-k.k + 1)) 128 (omega arith) in
    let small : c.loop-k.block + c.word.result * 2 ^ (32 * c.loop-k.k) < 2 ^ (32 * (c.loop-k.k + 1)) = more.small in
    omega (arith, within, small, whole)
