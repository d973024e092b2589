-- Words that are given: the values of a tape, and 0 behind them. The tests draw from such words.
use Rattle.std.proofs.Common.{◌≡◌, ℕ, ◌^◌, ◌<◌, Result, Ok, Err, refl, arith}
use Rattle.smp_tape.specs.declared.draws.DrawFault.{DrawFault}
use Rattle.smp_tape.specs.Tapes.{Values, tape_next}
use Rattle.smp_tape.specs.Laws.Tapes.{below_from}
use Rattle.smp_tape.specs.Streams.{Stream}

abbrev pub word_of : Result ℕ DrawFault → ℕ
word_of (Ok value) = value
word_of (Err fault) = 0

abbrev pub given_first : Values → ℕ
given_first tape = word_of (tape_next tape (2 ^ 32)).answer

abbrev pub given_next : Values → Values
given_next tape = (tape_next tape (2 ^ 32)).rest

small_word : (answer : Result ℕ DrawFault) → ((value : ℕ) → answer ≡ Ok value → value < 2 ^ 32) → word_of answer < 2 ^ 32
small_word (Ok value) small = small value refl
small_word (Err fault) small = omega arith

pub given_small : (tape : Values) → given_first tape < 2 ^ 32
given_small tape = small_word (tape_next tape (2 ^ 32)).answer (λ value h. below_from tape.taken tape.left (2 ^ 32) value (omega arith) h)

abbrev pub given_stream : Stream Values
given_stream = record { first = given_first; next = given_next; small = given_small }
