use Rattle.std.proofs.Common.{ap, ◌∙◌}
use Rattle.rand_chacha.specs.ChaCha.{key_of}
use Rattle.smp_tape.specs.{Keys.{Place}, SieveSources.{key_stream}, Streams.{ahead}}
use Rattle.smp_tape.proofs.Moves.{words_from_start}
use Rattle.smp_tape.proofs.chacha.ChaChaWords.new.Goals as goal

pub returns-clause-words : goal.returns-clause-words
returns-clause-words c place =
    let at : _ → Place = λ r. record { key = r.key; next = r.word_pos } in
    ap (λ r. ahead key_stream (at r) place) c.from_seed.ensures ∙ words_from_start (key_of c.args.seed) place
