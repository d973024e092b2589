-- The records of a text.
use Rattle.std.specs.Prelude.{ℕ, List, [], ◌∷◌, get_or, if◌then◌else◌}
use Rattle.csv.specs.Reading.{default_config, is_bom, records}

-- a text without the byte order marks in front of it, three bytes each
abbrev pub without_marks : List ℕ → List ℕ
without_marks (a ∷ b ∷ c ∷ text) = if is_bom a b c then without_marks text else a ∷ b ∷ c ∷ text
without_marks (a ∷ b ∷ []) = a ∷ b ∷ []
without_marks (a ∷ []) = a ∷ []
without_marks [] = []

-- the records of a text as CSV reads it, with commas and double quotes: lists of fields, of any lengths
abbrev pub records_of : List ℕ → List (List (List ℕ))
records_of bytes = records default_config (without_marks bytes)

-- the field of a row at a place, which is counted from 0
abbrev pub field : List (List ℕ) → ℕ → List ℕ
field row place = get_or row place []
