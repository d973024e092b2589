-- The words of a key: ChaCha with 20 rounds (Bernstein, ChaCha, a variant of Salsa20, 2008).
use Rattle.std.specs.Prelude.{ℕ, ◌+◌, ◌%◌, ◌^◌, List}
use Rattle.rand_chacha.specs.ChaCha.{key_of, word_at}

-- a key, and how many words of its stream 0 came before the next one
pub record Place : Type 0 where
  pub key : List ℕ
  pub next : ℕ

-- the words of a seed of 32 bytes, which are those of the key, from the first word on
abbrev pub words_of_seed : List ℕ → Place
words_of_seed seed = record { key = key_of seed; next = 0 }

-- the word of 32 bits at a place in stream 0 of ChaCha20 under a key (Bernstein 2008): twenty rounds are ten double rounds, and after 2^68
-- words they come round
abbrev pub key_word : List ℕ → ℕ → ℕ
key_word key place = word_at 10 key 0 (place % 2 ^ 68)

-- the next word of a key
abbrev pub key_first : Place → ℕ
key_first at = key_word at.key at.next

-- the place behind that word
abbrev pub key_next : Place → Place
key_next at = record { key = at.key; next = (at.next + 1) % 2 ^ 68 }
