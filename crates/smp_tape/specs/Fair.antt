-- Each value below a bound has the same number of blocks of words.
use Rattle.std.specs.Prelude.{◌≡◌, ◌↔◌, ℕ, ◌+◌, ◌-◌, ◌*◌, ◌^◌, ◌<◌, ◌==◌}
use Rattle.std.specs.List.{count_by, range_with_len}
use Rattle.smp_tape.specs.Sieves.{bits_of, candidate_of, words_of}

-- how many blocks there are: the numbers that the words of a candidate can make
abbrev pub blocks : ℕ → ℕ
blocks bound = 2 ^ (32 * words_of bound)

-- how many blocks each value has
abbrev pub share : ℕ → ℕ
share bound = 2 ^ (32 * words_of bound - bits_of bound)

-- The blocks whose candidate is a value below the bound are value + j * 2^bits, with j below the share. So there are as many
-- for each value.
pub record IsFair (bound : ℕ) : Type 0 where
  pub which : (value block : ℕ) → value < bound → block < blocks bound
      → (candidate_of bound block ≡ value)
      ↔ ((j : ℕ) × (j < share bound) × (block ≡ value + j * 2 ^ bits_of bound))
  pub count : (value : ℕ) → value < bound
      → count_by (λ block. candidate_of bound block == value) (range_with_len 0 (blocks bound))
      ≡ share bound
