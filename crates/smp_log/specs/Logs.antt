-- The text of a log.
use Rattle.std.specs.Prelude.{ℕ, List, [], ◌∷◌, ◌++◌, length, codes}
use Rattle.std.specs.List.{flat_map}
use Rattle.std.specs.Fmt.{decimal}
use Rattle.smp_split.specs.Kinds.{kind_word}
use Rattle.smp_split.specs.Paths.{Entry}

-- the line of a step: the word of its kind, its bound and the value drawn, with a blank, the byte 32, in between
abbrev pub step_text : Entry → List ℕ
step_text step = kind_word step.0 ++ (32 ∷ (decimal step.1 ++ (32 ∷ (decimal step.2 ++ 10 ∷ []))))

-- the lines of the steps of a path
abbrev pub steps_text : List Entry → List ℕ
steps_text path = flat_map step_text path

-- the last line: how many steps there were
abbrev pub end_text : ℕ → List ℕ
end_text steps = codes "end " ++ (decimal steps ++ codes "\n")

-- the log of a path: the head, a line for each step, and the last line
abbrev pub log_text : List ℕ → List Entry → List ℕ
log_text head path = head ++ (steps_text path ++ end_text (length path))
