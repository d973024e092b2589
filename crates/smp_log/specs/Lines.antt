-- Texts by their whole lines.
use Rattle.std.specs.Prelude.{◌≡◌, ℕ, ◌≤◌, ◌==◌, if◌then◌else◌, None, List, [], ◌∷◌, ◌++◌, length, take}
use Rattle.smp_frac.specs.Cuts.{cut_at}

-- lines with a byte in front of the first one, where there is one
abbrev pub longer : ℕ → List (List ℕ) → List (List ℕ)
longer b [] = []
longer b (line ∷ lines) = (b ∷ line) ∷ lines

-- the whole lines of a text: the bytes before each line feed, the byte 10. Bytes behind the last line feed are no whole line.
abbrev pub whole_lines : List ℕ → List (List ℕ)
whole_lines [] = []
whole_lines (b ∷ text) = if b == 10 then [] ∷ whole_lines text else longer b (whole_lines text)

-- the text of lines, each ended by a line feed
abbrev pub lines_text : List (List ℕ) → List ℕ
lines_text [] = []
lines_text (line ∷ lines) = line ++ 10 ∷ lines_text lines

-- the first n whole lines of a text are the first lines of another
pub record ShareLines (n : ℕ) (text other : List ℕ) : Type 0 where
  pub whole : n ≤ length (whole_lines text)
  pub long : n ≤ length (whole_lines other)
  pub same : take n (whole_lines text) ≡ take n (whole_lines other)

-- a text without such a byte
abbrev pub Lacks : ℕ → List ℕ → Type 0
Lacks byte text = cut_at byte text ≡ None

-- each of some lines is without a line feed
abbrev pub AreLines : List (List ℕ) → Type 0
AreLines [] = Unit {0}
AreLines (line ∷ lines) = Lacks 10 line × AreLines lines
