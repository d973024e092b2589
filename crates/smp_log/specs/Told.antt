-- The path that a log tells, and what is told of it to a trace.
use Rattle.std.specs.Prelude.{◌≡◌, ℕ, if◌then◌else◌, List, [], ◌∷◌, ◌++◌, drop, take, Option, Some, None}
use Rattle.smp_split.specs.Paths.{Entry, Leads, entry_at}
use Rattle.smp_split.specs.Runs.{and_then}
use Rattle.smp_split.specs.Trees.{Tree, weight_sum, picked}
use Rattle.smp_log.specs.Lines.{whole_lines}
use Rattle.smp_log.specs.Reading.{step_value}

-- The path that lines tell from a state on, to a leaf at most: of each state the first line that is the line of its step. Other
-- lines are passed over.
abbrev pub path_along : {State : Type 0} → Tree State → State → List (List ℕ) → List Entry
path_along tree s [] = []
path_along tree s (line ∷ lines) =
    if tree.done s then []
    else elim (step_value (tree.kind s) (weight_sum (tree.parts s)) line) [
      | None ↦ path_along tree s lines
      | Some value ↦ entry_at tree s value ∷ path_along tree (picked s (tree.parts s) value) lines
    ]

-- the path that a log tells behind the three lines of its head
abbrev pub path_told : {State : Type 0} → Tree State → State → List ℕ → List Entry
path_told tree from log = path_along tree from (drop 3 (whole_lines log))

-- the same of its first lines, so many of them
abbrev pub path_in_first_lines : {State : Type 0} → Tree State → State → ℕ → List ℕ → List Entry
path_in_first_lines tree from count log = path_along tree from (drop 3 (take count (whole_lines log)))

-- the path leads from a state to another, and its entries were told behind the old ones, where entries are told
pub record IsToldAlong {State : Type 0} (tree : Tree State) (path : List Entry) (from to : State)
    (old now : Option (List Entry)) : Type 0 where
  pub leads : Leads tree from path to
  pub told : now ≡ and_then old path

-- so it is of the first steps of a path that a log tells
pub record IsToldPart {State : Type 0} (tree : Tree State) (whole : List Entry) (from to : State)
    (old now : Option (List Entry)) : Type 0 where
  pub path : List Entry
  pub along : IsToldAlong tree path from to old now
  pub left : List Entry
  pub whole_is : whole ≡ path ++ left
