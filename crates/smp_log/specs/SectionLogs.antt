-- The log of version 2, which has a part for each section of a design.
use Rattle.std.specs.Prelude.{◌≡◌, ◌⊎◌, ℕ, ◌+◌, ◌==◌, ◌<◌, ◌≤◌, nat_lt, if◌then◌else◌, Bool, List}
use Rattle.std.specs.Prelude.{[], ◌∷◌, ◌++◌}
use Rattle.std.specs.Prelude.{length, map, drop, codes}
use Rattle.std.specs.List.{flat_map, range_with_len}
use Rattle.std.specs.Fmt.{decimal}
use Rattle.smp_split.specs.Trees.{Tree, picked}
use Rattle.smp_split.specs.declared.kind.Kind.{Kind}
use Rattle.smp_split.specs.Paths.{Entry, Leads, values_of}
use Rattle.smp_split.specs.Runs.{Outcome, run}
use Rattle.smp_split.specs.Sectioning.{Sectioning}
use Rattle.smp_tape.specs.Sources.{Source}
use Rattle.smp_log.specs.Logs.{steps_text, end_text, log_text}
use Rattle.smp_log.specs.Genuine.{IsFullPath, IsLogOf}
use Rattle.smp_log.specs.Told.{path_told}

-- each step of a path, with the section of the state at which it is asked
abbrev pub placed : {State : Type 0} → Tree State → Sectioning State → State → List Entry
    → List (ℕ × Entry)
placed tree sections s [] = []
placed tree sections s (entry ∷ path) =
    (sections.of s, entry) ∷ placed tree sections (picked s (tree.parts s) entry.2) path

-- a line as it is kept, as a step with its section
abbrev pub section_line : ℕ × Kind × ℕ × ℕ → ℕ × Entry
section_line line = (line.0, (line.1, line.2, line.3))

-- the steps without their sections
abbrev pub steps_of : List (ℕ × Entry) → List Entry
steps_of steps = map (λ step. step.1) steps

-- the steps are those of a path from a state to another, each with its section
pub record ArePlaced {State : Type 0} (tree : Tree State) (sections : Sectioning State)
    (from to : State) (steps : List (ℕ × Entry)) : Type 0 where
  pub path : List Entry
  pub leads : Leads tree from path to
  pub steps_are : steps ≡ placed tree sections from path

-- the sections of the steps are below this number, and rise from this one on
abbrev pub RiseFrom : (count low : ℕ) → List (ℕ × Entry) → Type 0
RiseFrom count low [] = Unit {0}
RiseFrom count low (step ∷ steps) =
    (low ≤ step.0) × (step.0 < count) × RiseFrom count step.0 steps

-- the steps of the sections that pass a test
abbrev pub steps_where : (ℕ → Bool) → List (ℕ × Entry) → List Entry
steps_where test [] = []
steps_where test (step ∷ steps) =
    if test step.0 then step.1 ∷ steps_where test steps else steps_where test steps

-- the place on the tape behind some steps: how many of them have a bound of 2 or more
abbrev pub tape_place : List Entry → ℕ
tape_place path = length (values_of path)

-- the line before the steps of a section: its number, and the place on the tape
abbrev pub stratum_text : ℕ → ℕ → List ℕ
stratum_text number place =
    codes "stratum " ++ (decimal number ++ (codes " " ++ (decimal place ++ codes "\n")))

-- the line behind them: its number, and how many steps it has
abbrev pub done_text : ℕ → ℕ → List ℕ
done_text number steps =
    codes "done " ++ (decimal number ++ (codes " " ++ (decimal steps ++ codes "\n")))

-- a section by its number, its place on the tape and its steps
abbrev pub lone_text : ℕ → ℕ → List Entry → List ℕ
lone_text number place path =
    stratum_text number place ++ (steps_text path ++ done_text number (length path))

-- section h of a path, counted from 0 here and from 1 in its lines
abbrev pub section_text : List (ℕ × Entry) → ℕ → List ℕ
section_text steps h =
    lone_text (h + 1) (tape_place (steps_where (λ g. nat_lt g h) steps)) (steps_where (λ g. g == h) steps)

-- the head of version 2: its first line has the number 2 in the place of 1
abbrev pub sectioned_head : List ℕ → List ℕ
sectioned_head head = codes "sampler-log 2\n" ++ drop 14 head

-- the head, a section after the other, and the last line
abbrev pub sections_text : List ℕ → ℕ → List (ℕ × Entry) → List ℕ
sections_text head count steps =
    sectioned_head head
    ++ (flat_map (section_text steps) (range_with_len 0 count) ++ end_text (length steps))

-- the log of version 2 of a path from a state
abbrev pub sectioned_log_text : {State : Type 0} → Tree State → Sectioning State → State → List ℕ
    → List Entry → List ℕ
sectioned_log_text tree sections from head path =
    sections_text head sections.count (placed tree sections from path)

-- the path of a full tape from a state to some leaf
pub record HasLeaf {State : Type 0} (tree : Tree State) (from : State) (path : List Entry)
    : Type 0 where
  pub leaf : State
  pub full : IsFullPath tree from path leaf

-- ---- genuine logs

-- the bytes are the log of version 2 of a path
abbrev pub IsSectionedText : {State : Type 0} → Tree State → Sectioning State → State → List ℕ
    → List Entry → List ℕ → Type 0
IsSectionedText tree sections from head path log =
    log ≡ sectioned_log_text tree sections from head path

-- the bytes are the log of a path, of version 1 or of version 2
abbrev pub IsAnyText : {State : Type 0} → Tree State → Sectioning State → State → List ℕ
    → List Entry → List ℕ → Type 0
IsAnyText tree sections from head path log =
    (log ≡ log_text head path) ⊎ (log ≡ sectioned_log_text tree sections from head path)

-- the bytes are the log of the path of a full tape, of version 2
abbrev pub IsSectionedGenuine : {State : Type 0} → Tree State → Sectioning State → State → List ℕ
    → List ℕ → State → Type 0
IsSectionedGenuine tree sections from head log leaf =
    IsLogOf (IsSectionedText tree sections from head) tree from log leaf

-- the bytes are the log of the path of a full tape, of version 1 or of version 2
abbrev pub IsAnyGenuine : {State : Type 0} → Tree State → Sectioning State → State → List ℕ
    → List ℕ → State → Type 0
IsAnyGenuine tree sections from head log leaf =
    IsLogOf (IsAnyText tree sections from head) tree from log leaf

-- A log that is genuine in either version is that of one path alone, which it tells and which leads to one leaf.
pub record IsOnePathed {State : Type 0} (tree : Tree State) (sections : Sectioning State)
    (from : State) (head log : List ℕ) : Type 0 where
  pub one_path : (a b : State) (first : IsAnyGenuine tree sections from head log a)
      (second : IsAnyGenuine tree sections from head log b) → first.path ≡ second.path
  pub one_leaf : (a b : State) → IsAnyGenuine tree sections from head log a
      → IsAnyGenuine tree sections from head log b → a ≡ b
  pub told : (leaf : State) (genuine : IsAnyGenuine tree sections from head log leaf)
      → path_told tree from log ≡ genuine.path

-- a path has a leaf, and its log of version 2 is genuine with this leaf
pub record IsSectionedRun {State : Type 0} (tree : Tree State) (sections : Sectioning State)
    (from : State) (head : List ℕ) (path : List Entry) (leaf : State) : Type 0 where
  pub has_leaf : HasLeaf tree from path
  pub genuine : IsSectionedGenuine tree sections from head
      (sectioned_log_text tree sections from head path) leaf

-- so it is where a run over a source comes to the leaf along the path
abbrev pub IsRunSectioned : {State Rest : Type 0} → Source Rest → Tree State → Sectioning State
    → State → Rest → List ℕ → Type 0
IsRunSectioned {State} {Rest} source tree sections from rest head =
    (path : List Entry) (leaf : State) (left : Rest)
    → run source tree from rest ≡ Outcome.leaf leaf path left
    → IsSectionedRun tree sections from head path leaf
