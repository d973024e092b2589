use Rattle.std.proofs.{Common.{◌≡◌, ℕ, ◌+◌, ◌*◌, ◌/◌, ◌%◌, ◌^◌, ◌<◌, ◌≤◌, ◌-◌, arith, ap, sym, ◌∙◌, subst, inl, inr}, lemmas.Nat.{one_shl}}
use Rattle.std.proofs.lemmas.Bool.{cases_lt}
use Rattle.smp_tape.proofs.Blocks.{pow_le}
use Rattle.smp_tape.specs.{Streams.{Stream, ahead, behind}, Sieves.{block, bits_of, words_of}}
use Rattle.smp_tape.proofs.Candidates.{Tried, none_tried, bits_are, thrown_away, found, found_rest, is_first, none_found, all_thrown, all_rest}
use Rattle.smp_tape.proofs.sieve.first_below.Goals as goal

small_bits : (bound r : ℕ) → 2 ^ r ≤ bound - 1 → bound < 2 ^ 126 → r < 126
small_bits bound r low narrow = elim (cases_lt r 126) [
  | inl l ↦ l
  | inr le ↦ (let p : 2 ^ 126 ≤ 2 ^ r = pow_le 126 r le in absurd (omega arith))
]

-- what the code computes of the words is their candidate, and it leaves the words behind it
block_read : {Words : Type 0} (stream : Stream Words) (words next : Words) (bound r value : ℕ) → 2 ^ r ≤ bound - 1 → bound - 1 < 2 * 2 ^ r → bound < 2 ^ 126 → value ≡ block (ahead stream words) ((r + 1 + 31) / 32) → next ≡ behind stream ((r + 1 + 31) / 32) words
    → (value % (1 * 2 ^ (r + 1) % 2 ^ 128) ≡ block (ahead stream words) (words_of bound) % 2 ^ bits_of bound) × (next ≡ behind stream (words_of bound) words)
block_read stream words next bound r value low high narrow is rest =
    let bits : bits_of bound ≡ r + 1 = bits_are bound r low high narrow in
    let small : r < 126 = small_bits bound r low narrow in
    let power : 1 * 2 ^ (r + 1) % 2 ^ 128 ≡ 2 ^ (r + 1) = one_shl (r + 1) 128 (omega arith) in (
      ap (λ m. value % m) power ∙ ap (λ b. b % 2 ^ (r + 1)) is ∙ ap (λ b. block (ahead stream words) ((b + 31) / 32) % 2 ^ b) (sym bits),
      rest ∙ ap (λ b. behind stream ((b + 31) / 32) words) (sym bits),
    )

pub loop-tried-init : goal.loop-tried-init
loop-tried-init g c = none_tried g.W.Words.stream c.args.words.now c.args.bound

pub loop-tried-preserved : goal.loop-tried-preserved
loop-tried-preserved g c =
    let b = block_read g.W.Words.stream c.loop-tried.words c.next_block-block.new.words c.args.bound c.ilog2-bits.result c.next_block-block.result c.ilog2-bits.ensures.power_le c.ilog2-bits.ensures.next_power_gt c.requires.narrow c.next_block-block.ensures.block c.next_block-block.ensures.rest in
    thrown_away g.W.Words.stream c.args.words.now c.loop-tried.words c.next_block-block.new.words c.args.bound c.loop-tried.tried _ c.loop-tried.invariant c.loop-tried-test.true b.0 b.1 c.if-candidate-bound.false

pub returns-then-candidate-bound-clause-exact : goal.returns-then-candidate-bound-clause-exact
returns-then-candidate-bound-clause-exact g c =
    let b = block_read g.W.Words.stream c.loop-tried.words c.next_block-block.new.words c.args.bound c.ilog2-bits.result c.next_block-block.result c.ilog2-bits.ensures.power_le c.ilog2-bits.ensures.next_power_gt c.requires.narrow c.next_block-block.ensures.block c.next_block-block.ensures.rest in
    ap (λ d. d.0) (sym (found g.W.Words.stream c.args.words.now c.loop-tried.words c.next_block-block.new.words c.args.bound c.loop-tried.tried _ c.loop-tried.invariant c.loop-tried-test.true b.0 b.1 c.if-candidate-bound.true))

pub returns-then-candidate-bound-clause-rest : goal.returns-then-candidate-bound-clause-rest
returns-then-candidate-bound-clause-rest g c =
    let b = block_read g.W.Words.stream c.loop-tried.words c.next_block-block.new.words c.args.bound c.ilog2-bits.result c.next_block-block.result c.ilog2-bits.ensures.power_le c.ilog2-bits.ensures.next_power_gt c.requires.narrow c.next_block-block.ensures.block c.next_block-block.ensures.rest in
    found_rest g.W.Words.stream c.args.words.now c.loop-tried.words c.next_block-block.new.words c.args.bound c.loop-tried.tried _ c.loop-tried.invariant c.loop-tried-test.true b.0 b.1 c.if-candidate-bound.true

pub returns-then-candidate-bound-clause-first : goal.returns-then-candidate-bound-clause-first
returns-then-candidate-bound-clause-first g c =
    let b = block_read g.W.Words.stream c.loop-tried.words c.next_block-block.new.words c.args.bound c.ilog2-bits.result c.next_block-block.result c.ilog2-bits.ensures.power_le c.ilog2-bits.ensures.next_power_gt c.requires.narrow c.next_block-block.ensures.block c.next_block-block.ensures.rest in
    is_first g.W.Words.stream c.args.words.now c.loop-tried.words c.next_block-block.new.words c.args.bound c.loop-tried.tried _ c.loop-tried.invariant c.loop-tried-test.true b.0 b.1 c.if-candidate-bound.true

at_end : {Words : Type 0} (stream : Stream Words) (words now : Words) (bound tried : ℕ) → Tried stream words now bound tried → tried ≡ 256 → Tried stream words now bound 256
at_end stream words now bound tried t is = subst (Tried stream words now bound) is t

pub returns-clause-exact : goal.returns-clause-exact
returns-clause-exact g c =
    ap (λ d. d.0) (sym (none_found g.W.Words.stream c.args.words.now c.loop-tried.words c.args.bound
    (at_end g.W.Words.stream c.args.words.now c.loop-tried.words c.args.bound c.loop-tried.tried c.loop-tried.invariant (omega arith))))

pub returns-clause-rest : goal.returns-clause-rest
returns-clause-rest g c =
    all_rest g.W.Words.stream c.args.words.now c.loop-tried.words c.args.bound
    (at_end g.W.Words.stream c.args.words.now c.loop-tried.words c.args.bound c.loop-tried.tried c.loop-tried.invariant (omega arith))

pub returns-clause-thrown : goal.returns-clause-thrown
returns-clause-thrown g c =
    all_thrown g.W.Words.stream c.args.words.now c.loop-tried.words c.args.bound
    (at_end g.W.Words.stream c.args.words.now c.loop-tried.words c.args.bound c.loop-tried.tried c.loop-tried.invariant (omega arith))
