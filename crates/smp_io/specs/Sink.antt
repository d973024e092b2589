-- What was put into a sink.
use Rattle.std.specs.Prelude.{◌≡◌, ℕ, List, ◌++◌, Option, option_map}

-- what was written, where that is told, and then the bytes
abbrev pub with_bytes : List ℕ → Option (List ℕ) → Option (List ℕ)
with_bytes bytes written = option_map (λ before. before ++ bytes) written

-- Some of the bytes, from the first on, were appended.
abbrev pub AppendsFront : List ℕ → Option (List ℕ) → Option (List ℕ) → Type 0
AppendsFront bytes before now = (front rest : List ℕ) × (bytes ≡ front ++ rest) × (now ≡ with_bytes front before)
