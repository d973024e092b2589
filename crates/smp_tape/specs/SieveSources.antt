-- The words of a key are a stream, and a sieve over a stream is a source of draws.
use Rattle.smp_tape.specs.Keys.{Place, key_first, key_next}
use Rattle.smp_tape.specs.Laws.Keys.{small_word}
use Rattle.smp_tape.specs.Laws.Sieves.{draw_below, draw_idle}
use Rattle.smp_tape.specs.Sieves.{sieve_next}
use Rattle.smp_tape.specs.Streams.{Stream, ahead}
use Rattle.smp_tape.specs.Sources.{Source}

abbrev pub key_stream : Stream Place
key_stream = record { first = key_first; next = key_next; small = small_word }

-- a source whose draws are made of the words of a stream
abbrev pub sieve_source : {Words : Type 0} → Stream Words → Source Words
sieve_source stream = record {
  next = sieve_next stream;
  below = λ words bound value some h. draw_below (ahead stream words) bound value some h;
  idle = draw_idle stream;
}
