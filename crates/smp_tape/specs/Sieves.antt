-- Draws below a bound from words of 32 bits.
use Rattle.std.specs.Prelude.{◌≡◌, ℕ, zero, suc, ◌+◌, ◌-◌, ◌*◌, ◌/◌, ◌%◌, ◌^◌, ◌<◌, ◌≤◌, cond}
use Rattle.std.specs.Prelude.{nat_lt, ◌==◌, if◌then◌else◌, Result, Ok, Err}
use Rattle.smp_tape.specs.Streams.{Stream, ahead, behind}
use Rattle.smp_tape.specs.Sources.{Drawn}
use Rattle.smp_tape.specs.declared.draws.DrawFault.{DrawFault}
use Rattle.smp_tape.specs.declared.draws.DrawFault.TheVariants.{Rejected}

-- how often a number can be halved before it is 0, where that is at most k times
abbrev pub halvings : ℕ → ℕ → ℕ
halvings zero n = 0
halvings (suc k) n = if n == 0 then 0 else suc (halvings k (n / 2))

-- the number of binary digits of a number below 2^128
unfoldable pub binary_digits : ℕ → ℕ
binary_digits n = halvings 128 n

-- how many bits a draw below a bound takes: the binary digits of the greatest value
abbrev pub bits_of : ℕ → ℕ
bits_of bound = binary_digits (bound - 1)

-- the least number of words that hold them
abbrev pub words_of : ℕ → ℕ
words_of bound = (bits_of bound + 31) / 32

-- the number that the first k words make, the first one lowest
abbrev pub block : (ℕ → ℕ) → ℕ → ℕ
block words zero = 0
block words (suc k) = block words k + words k * 2 ^ (32 * k)

-- the words from a place on
abbrev pub from_place : (ℕ → ℕ) → ℕ → ℕ → ℕ
from_place words place i = words (place + i)

-- the candidate of a block: its lowest bits
abbrev pub candidate_of : ℕ → ℕ → ℕ
candidate_of bound block = block % 2 ^ bits_of bound

-- the candidate that the words from a place on make
unfoldable pub candidate : (ℕ → ℕ) → ℕ → ℕ → ℕ
candidate words place bound = candidate_of bound (block (from_place words place) (words_of bound))

-- the first of so many candidates that is below the bound, and the place behind it; or that there is none
unfoldable pub first_below : ℕ → (ℕ → ℕ) → ℕ → ℕ → Result ℕ DrawFault × ℕ
first_below zero words place bound = (Err (Rejected bound), place)
first_below (suc n) words place bound =
    cond (nat_lt (candidate words place bound) bound)
    (Ok (candidate words place bound), place + words_of bound)
    (first_below n words (place + words_of bound) bound)

-- a draw below a bound, the first of at most 256 candidates that is below it, and how many words it takes. A bound of 1 takes none.
unfoldable pub sieve_draw : (ℕ → ℕ) → ℕ → Result ℕ DrawFault × ℕ
sieve_draw words bound = cond (nat_lt 1 bound) (first_below 256 words 0 bound) (Ok 0, 0)

-- what is answered to a bound, and the words that are left then
abbrev pub sieve_next : {Words : Type 0} → Stream Words → Words → ℕ → Drawn Words
sieve_next stream words bound = record {
  answer = (sieve_draw (ahead stream words) bound).0;
  rest = behind stream (sieve_draw (ahead stream words) bound).1 words;
}

-- ---- the same without its steps

-- the candidate of this number, counted from 0
abbrev pub candidate_at : {Words : Type 0} → Stream Words → Words → ℕ → ℕ → ℕ
candidate_at stream words bound number =
    candidate (ahead stream words) (number * words_of bound) bound

-- so many candidates from the first on are not below the bound
abbrev pub Thrown : {Words : Type 0} → Stream Words → Words → ℕ → ℕ → Type 0
Thrown stream words bound number =
    (k : ℕ) → k < number → bound ≤ candidate_at stream words bound k

-- the words of so many candidates are taken
abbrev pub Taken : {Words : Type 0} → Stream Words → Words → ℕ → ℕ → Words → Type 0
Taken stream words bound number left = left ≡ behind stream (number * words_of bound) words

-- the value is the first candidate below the bound, and one of the first 256; the words up to its last one are taken
pub record IsFirst {Words : Type 0} (stream : Stream Words) (words : Words) (bound value : ℕ)
    (left : Words) : Type 0 where
  pub before : ℕ
  pub few : before < 256
  pub thrown : Thrown stream words bound before
  pub value_is : value ≡ candidate_at stream words bound before
  pub below : value < bound
  pub taken : Taken stream words bound (before + 1) left

-- none of the first 256 candidates is below the bound, and their words are taken
pub record AllThrown {Words : Type 0} (stream : Stream Words) (words : Words) (bound : ℕ)
    (fault : DrawFault) (left : Words) : Type 0 where
  pub thrown : Thrown stream words bound 256
  pub fault_is : fault ≡ Rejected bound
  pub taken : Taken stream words bound 256 left
