-- Streams of words of 32 bits. A stream is a pure step: it has a first word, and something is left of it behind that word.
use Rattle.std.specs.Prelude.{ℕ, zero, suc, ◌^◌, ◌<◌}

pub record Stream (Words : Type 0) : Type 0 where
  pub first : Words → ℕ
  pub next : Words → Words
  pub small : (words : Words) → first words < 2 ^ 32

-- what is left behind so many words
abbrev pub behind : {Words : Type 0} → Stream Words → ℕ → Words → Words
behind stream zero words = words
behind stream (suc n) words = stream.next (behind stream n words)

-- the word at each place, which is the number of words before it
abbrev pub ahead : {Words : Type 0} → Stream Words → Words → ℕ → ℕ
ahead stream words place = stream.first (behind stream place words)
