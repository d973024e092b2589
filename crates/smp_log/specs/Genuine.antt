-- Genuine logs, and how much of any bytes is the beginning of one.
use Rattle.std.specs.Prelude.{◌≡◌, ℕ, ◌+◌, ◌≤◌, true, List, length}
use Rattle.smp_tape.specs.Sources.{Source}
use Rattle.smp_split.specs.Trees.{Tree}
use Rattle.smp_split.specs.Paths.{Entry, Leads}
use Rattle.smp_split.specs.Runs.{Outcome, run}
use Rattle.smp_log.specs.Lines.{ShareLines, whole_lines}
use Rattle.smp_log.specs.Logs.{log_text}
use Rattle.smp_log.specs.Told.{path_told}

-- the path of a full tape from a state: it leads to this leaf, which is done
pub record IsFullPath {State : Type 0} (tree : Tree State) (from : State) (path : List Entry)
    (leaf : State) : Type 0 where
  pub leads : Leads tree from path leaf
  pub done : tree.done leaf ≡ true

-- the bytes are a text of the path of a full tape, which leads to this leaf, whichever texts a path has
pub record IsLogOf {State : Type 0} (IsText : List Entry → List ℕ → Type 0) (tree : Tree State)
    (from : State) (log : List ℕ) (leaf : State) : Type 0 where
  pub path : List Entry
  pub full : IsFullPath tree from path leaf
  pub text : IsText path log

-- the bytes are the log of a path, of version 1
abbrev pub IsLogText : List ℕ → List Entry → List ℕ → Type 0
IsLogText head path log = log ≡ log_text head path

-- the bytes are the log of the path of a full tape, of version 1
abbrev pub IsGenuine : {State : Type 0} → Tree State → State → List ℕ → List ℕ → State → Type 0
IsGenuine tree from head log leaf = IsLogOf (IsLogText head) tree from log leaf

-- ---- how much of any bytes is the beginning of a genuine log, whichever logs are genuine

-- the first n whole lines of the bytes are the first lines of some genuine log
pub record BeginsGenuine {State : Type 0} (Genuine : List ℕ → State → Type 0) (log : List ℕ)
    (n : ℕ) : Type 0 where
  pub genuine : List ℕ
  pub leaf : State
  pub is : Genuine genuine leaf
  pub shares : ShareLines n log genuine

-- the greatest number of whole lines of the bytes that are the first lines of some genuine log
pub record IsKept {State : Type 0} (Genuine : List ℕ → State → Type 0) (log : List ℕ)
    (kept : ℕ) : Type 0 where
  pub begins : BeginsGenuine Genuine log kept
  pub most : (n : ℕ) → BeginsGenuine Genuine log n → n ≤ kept

-- the bytes are no genuine log, and this line is the first that isn't kept
pub record DiffersAt {State : Type 0} (Genuine : List ℕ → State → Type 0) (log : List ℕ)
    (line : ℕ) : Type 0 where
  pub not_genuine : (leaf : State) → Genuine log leaf → ⊥
  pub kept : ℕ
  pub is_kept : IsKept Genuine log kept
  pub next : line ≡ kept + 1

-- ---- what a log tells

-- such a text, whose path is the one that it tells
pub record IsToldLogOf {State : Type 0} (IsText : List Entry → List ℕ → Type 0) (tree : Tree State)
    (from : State) (log : List ℕ) (leaf : State) : Type 0 where
  pub genuine : IsLogOf IsText tree from log leaf
  pub told : path_told tree from log ≡ genuine.path

abbrev pub IsToldGenuine : {State : Type 0} → Tree State → State → List ℕ → List ℕ → State
    → Type 0
IsToldGenuine tree from head log leaf = IsToldLogOf (IsLogText head) tree from log leaf

-- A genuine log is that of one path alone, which it tells and which leads to one leaf. It has four whole lines more than steps.
pub record IsUnambiguous {State : Type 0} (tree : Tree State) (from : State) (head log : List ℕ)
    : Type 0 where
  pub one_path : (a b : State) (first : IsGenuine tree from head log a)
      (second : IsGenuine tree from head log b) → first.path ≡ second.path
  pub one_leaf : (a b : State) → IsGenuine tree from head log a → IsGenuine tree from head log b
      → a ≡ b
  pub told : (leaf : State) (genuine : IsGenuine tree from head log leaf)
      → path_told tree from log ≡ genuine.path
  pub steps : (leaf : State) (genuine : IsGenuine tree from head log leaf)
      → length (whole_lines log) ≡ length genuine.path + 4

-- where a run over a source comes to a leaf, the log of its path is genuine, and that leaf is its own
abbrev pub IsRunGenuine : {State Rest : Type 0} → Source Rest → Tree State → State → Rest → List ℕ
    → Type 0
IsRunGenuine {State} {Rest} source tree from rest head =
    (path : List Entry) (leaf : State) (left : Rest)
    → run source tree from rest ≡ Outcome.leaf leaf path left
    → IsGenuine tree from head (log_text head path) leaf
