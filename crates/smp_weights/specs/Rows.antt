-- Rows of CSV as `csv` writes them.
use Rattle.std.specs.Prelude.{◌≡◌, ℕ, ◌++◌, List, Option, true, option_map, is_some}
use Rattle.csv.specs.Writing.{default_writer, with_flexible, row_text}

-- the text of a row: its fields with a comma in between, in double quotes where they need them, and a line feed
abbrev pub row : List (List ℕ) → List ℕ
row fields = row_text (with_flexible default_writer true) fields

-- a row was written behind the text before
pub record AddsRow (old new : Option (List ℕ)) (text : List ℕ) : Type 0 where
  pub there : is_some old ≡ true
  pub added : new ≡ option_map (λ before. before ++ text) old
