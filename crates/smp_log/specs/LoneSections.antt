-- One section of a log of version 2, read for itself.
use Rattle.std.specs.Prelude.{◌≡◌, ℕ, suc, ◌+◌, ◌^◌, ◌<◌, nat_lt, ◌&&◌, Bool, true, false, is_some}
use Rattle.std.specs.Prelude.{if◌then◌else◌, List, [], ◌∷◌, ◌++◌, length, take, Option, Some, None, option_map}
use Rattle.std.specs.Prelude.{option_and_then, Result, Ok, Err, codes}
use Rattle.std.specs.Str.{bytes_eq}
use Rattle.std.specs.Fmt.{decimal}
use Rattle.smp_frac.specs.Cuts.{cut_at}
use Rattle.smp_split.specs.Trees.{Tree}
use Rattle.smp_split.specs.Paths.{Entry}
use Rattle.smp_split.specs.Sectioning.{Sectioning, IsPartOf}
use Rattle.smp_log.specs.Lines.{whole_lines, lines_text, Lacks, AreLines}
use Rattle.smp_log.specs.Fronts.{StopsAt}
use Rattle.smp_log.specs.Genuine.{IsLogOf, IsKept}
use Rattle.smp_log.specs.Reading.{behind, written, below, Script, LogPlace, heading, stepping, closed, next_place, is_closed, follows}
use Rattle.smp_log.specs.Told.{path_along}
use Rattle.smp_log.specs.SectionLogs.{lone_text, sectioned_head, IsSectionedGenuine}
use Rattle.smp_log.specs.SectionReading.{done_line}

-- the text of a section of a path, at any place on the tape below 2^64
pub record IsLoneText (number : ℕ) (path : List Entry) (text : List ℕ) : Type 0 where
  pub place : ℕ
  pub small : place < 2 ^ 64
  pub is : text ≡ lone_text number place path

-- a genuine section of this number: that of a full tape's path from the start of the section's own design
abbrev pub IsGenuineSection : {State : Type 0} → Tree State → State → ℕ → List ℕ → State → Type 0
IsGenuineSection tree from number text leaf = IsLogOf (IsLoneText number) tree from text leaf

-- ---- the opening line

-- the first words of a section's opening line
abbrev pub opening_words : ℕ → List ℕ
opening_words number = codes "stratum " ++ (decimal number ++ 32 ∷ [])

-- whether a line begins with the first words of a section's opening line
abbrev pub opens : ℕ → List ℕ → Bool
opens number line = is_some (behind (opening_words number) line)

-- none of these lines begins so
abbrev pub NoneOpens : ℕ → List (List ℕ) → Type 0
NoneOpens number [] = Unit {0}
NoneOpens number (line ∷ lines) = (opens number line ≡ false) × NoneOpens number lines

-- From the line of number `at` on, the opening line is the first whole line that begins so. The text is what stands from it on, and
-- `line` is its number.
pub record IsOpened (number : ℕ) (log : List ℕ) (at : ℕ) (text : List ℕ) (line : ℕ) : Type 0 where
  pub before : List (List ℕ)
  pub log_is : log ≡ lines_text before ++ text
  pub are : AreLines before
  pub none : NoneOpens number before
  pub first : List ℕ
  pub rest : List ℕ
  pub text_is : text ≡ first ++ 10 ∷ rest
  pub first_lacks : Lacks 10 first
  pub opening : opens number first ≡ true
  pub counted : line ≡ at + length before

-- ---- the answer

-- The first three lines are those of version 2, and a genuine section stands from the opening line on. Any bytes may follow it.
pub record HasSection {State : Type 0} (tree : Tree State) (from : State) (head : List ℕ)
    (number : ℕ) (log : List ℕ) (leaf : State) : Type 0 where
  pub behind_head : List ℕ
  pub head_is : log ≡ sectioned_head head ++ behind_head
  pub text : List ℕ
  pub line : ℕ
  pub opened : IsOpened number log 1 text line
  pub section : List ℕ
  pub after : List ℕ
  pub text_is : text ≡ section ++ after
  pub genuine : IsGenuineSection tree from number section leaf

-- such a section, whose path is this one
pub record HasToldSection {State : Type 0} (tree : Tree State) (from : State) (head : List ℕ)
    (number : ℕ) (log : List ℕ) (path : List Entry) (leaf : State) : Type 0 where
  pub has : HasSection tree from head number log leaf
  pub told : path ≡ has.genuine.path

-- the line at which a section differs, by the first of three rules that applies
pub data SectionLine {State : Type 0} (tree : Tree State) (from : State) (head : List ℕ)
    (number : ℕ) (log : List ℕ) (line : ℕ) : Type 0 where
  -- the first of the three lines that isn't that of version 2
  other_head : StopsAt (sectioned_head head) log line → SectionLine tree from head number log line
  -- there is no opening line: the line behind all
  no_opening : (behind_head : List ℕ) → log ≡ sectioned_head head ++ behind_head
      → NoneOpens number (whole_lines log) → line ≡ 1 + length (whole_lines log)
      → SectionLine tree from head number log line
  -- the first line from the opening line on that isn't kept
  in_section : (behind_head : List ℕ) → log ≡ sectioned_head head ++ behind_head
      → (text : List ℕ) (at kept : ℕ) → IsOpened number log 1 text at
      → IsKept (IsGenuineSection tree from number) text kept → line ≡ at + kept
      → SectionLine tree from head number log line

-- there is no such section, and this is the line at which it differs
pub record SectionDiffers {State : Type 0} (tree : Tree State) (from : State) (head : List ℕ)
    (number : ℕ) (log : List ℕ) (line : ℕ) : Type 0 where
  pub none : (leaf : State) → HasSection tree from head number log leaf → ⊥
  pub line_is : SectionLine tree from head number log line

-- ---- the sections of a log

-- The design of section h alone replays that section of a log, to its own state in the leaf of the whole. Of its own units it selects
-- those that the whole selects, and no others.
pub record IsReplayedAlone {State Inner : Type 0} (tree : Tree State) (from : State)
    (head log : List ℕ) (h : ℕ) (part : Tree Inner) (at : State → Inner) (own : ℕ → Bool)
    (leaf : State) : Type 0 where
  pub section : HasSection part (at from) head (h + 1) log (at leaf)
  pub selected : (unit : ℕ) → unit < tree.units
      → part.selected (at leaf) unit ≡ (own unit && tree.selected leaf unit)

-- so it is for each section of a genuine log, and each design that is the section alone
abbrev pub AreReplayedAlone : {State Inner : Type 0} → Tree State → (State → Type 0)
    → Sectioning State → State → List ℕ → List ℕ → Tree Inner → Inner → Type 0
AreReplayedAlone {State} {Inner} tree belongs sections from head log part start =
    (h : ℕ) (at : State → Inner) (own : ℕ → Bool) → h < sections.count
    → IsPartOf tree belongs sections h part at own → start ≡ at from
    → (leaf : State) → IsSectionedGenuine tree sections from head log leaf
    → IsReplayedAlone tree from head log h part at own leaf

-- ---- how it is read

-- the place on the tape of an opening line
abbrev pub place_of : ℕ → List ℕ → Option ℕ
place_of number line =
    option_and_then (λ text. option_and_then (below (2 ^ 64)) (written text))
    (behind (opening_words number) line)

-- what stands behind a first line that is an opening line with a place on the tape
abbrev pub opening_first : ℕ → List ℕ → Option (List ℕ)
opening_first number text =
    option_and_then (λ p. option_map (λ place. p.1) (place_of number p.0)) (cut_at 10 text)

-- before the opening line, or at a place of a log whose last line is that of the section
pub data LonePlace (State : Type 0) : Type 0 where
  start : LonePlace State
  at : LogPlace State → LonePlace State

-- the place that a line leads to, where it goes on a genuine section
abbrev pub next_lone : {State : Type 0} → Tree State → ℕ → State → LonePlace State → List ℕ
    → Option (LonePlace State)
next_lone tree number from start line =
    option_map (λ place. at (stepping 0 from)) (place_of number line)
next_lone tree number from (at place) line =
    option_map at (next_place tree (done_line number) from place line)

-- whether the last line of the section was read
abbrev pub is_over : {State : Type 0} → LonePlace State → Bool
is_over start = false
is_over (at place) = is_closed place

-- a section's lines as a script: which place each leads to, and where it is over
abbrev pub lone_script : {State : Type 0} → Tree State → ℕ → State → Script (LonePlace State)
lone_script tree number from = record { follow = next_lone tree number from; over = is_over }

-- ---- the answer, computed

-- how many first lines of a text are those of a front
abbrev pub shared : List (List ℕ) → List (List ℕ) → ℕ
shared [] lines = 0
shared (wanted ∷ front) [] = 0
shared (wanted ∷ front) (line ∷ lines) =
    if bytes_eq line wanted then suc (shared front lines) else 0

-- how many lines stand before the opening line, and those from it on
abbrev pub from_opening : ℕ → List (List ℕ) → ℕ × List (List ℕ)
from_opening number [] = (0, [])
from_opening number (line ∷ lines) =
    if opens number line then (0, line ∷ lines)
    else (let rest = from_opening number lines in (suc rest.0, rest.1))

-- the state at the end of a section that was read whole
abbrev pub lone_leaf : {State : Type 0} → LonePlace State → Option State
lone_leaf start = None
lone_leaf (at (heading wanted lines)) = None
lone_leaf (at (stepping steps s)) = None
lone_leaf (at (closed s)) = Some s

-- the leaf, and else this line
abbrev pub leaf_or : {State : Type 0} → ℕ → Option State → Result State ℕ
leaf_or line None = Err line
leaf_or line (Some leaf) = Ok leaf

-- the leaf of a section, or the line at which it differs
unfoldable pub section_reading : {State : Type 0} → Tree State → State → List ℕ → ℕ → List ℕ
    → Result State ℕ
section_reading tree from head number log =
    let front = whole_lines (sectioned_head head) in
    let same = shared front (whole_lines log) in
    let opened = from_opening number (whole_lines log) in
    let read = follows (lone_script tree number from) start opened.1 in
    if nat_lt same (length front) then Err (same + 1)
    else leaf_or (opened.0 + read.0 + 1) (lone_leaf read.1)

-- the path that a section tells from its opening line on
abbrev pub section_told : {State : Type 0} → Tree State → State → ℕ → List ℕ → List Entry
section_told tree from number log = path_along tree from (from_opening number (whole_lines log)).1

-- the same of the first lines of a log, so many of them
abbrev pub section_in_first_lines : {State : Type 0} → Tree State → State → ℕ → ℕ → List ℕ → List Entry
section_in_first_lines tree from number count log =
    path_along tree from (from_opening number (take count (whole_lines log))).1

-- ---- the answer is right

-- an answer says of a log that the section stands there, and has this leaf, or that it differs at this line
abbrev pub IsSectionAnswer : {State : Type 0} → Tree State → State → List ℕ → ℕ → List ℕ
    → Result State ℕ → Type 0
IsSectionAnswer tree from head number log (Ok leaf) = HasSection tree from head number log leaf
IsSectionAnswer tree from head number log (Err line) =
    SectionDiffers tree from head number log line

-- the function gives the one answer that is right
pub record IsExactSection {State : Type 0} (tree : Tree State) (from : State) (head : List ℕ)
    (number : ℕ) (log : List ℕ) : Type 0 where
  pub right : IsSectionAnswer tree from head number log (section_reading tree from head number log)
  pub alone : (answer : Result State ℕ) → IsSectionAnswer tree from head number log answer
      → answer ≡ section_reading tree from head number log
