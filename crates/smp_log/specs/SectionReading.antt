-- How a log of version 2 is read, a line at a time beside one state.
use Rattle.std.specs.Prelude.{ℕ, ◌+◌, nat_lt, ◌==◌, Bool, true, false, is_some, if◌then◌else◌, List, [], ◌∷◌}
use Rattle.std.specs.Prelude.{◌++◌, Option, Some, None, option_map, Result, codes}
use Rattle.std.specs.Str.{bytes_eq}
use Rattle.std.specs.Fmt.{decimal}
use Rattle.smp_split.specs.Trees.{Tree, weight_sum, picked}
use Rattle.smp_split.specs.Sectioning.{Sectioning}
use Rattle.smp_log.specs.Lines.{whole_lines}
use Rattle.smp_log.specs.Reading.{Script, behind, step_value, end_line}
use Rattle.smp_log.specs.SectionLogs.{sectioned_head}
use Rattle.smp_log.specs.Answers.{read_by, log_reading}

-- the line before the steps of a section, without its line feed
abbrev pub stratum_line : ℕ → ℕ → List ℕ
stratum_line number place = codes "stratum " ++ (decimal number ++ 32 ∷ decimal place)

-- the line behind the steps of a section, without its line feed
abbrev pub done_line : ℕ → ℕ → List ℕ
done_line number steps = codes "done " ++ (decimal number ++ 32 ∷ decimal steps)

-- Where the reading is: before a line of the head and others; before section h, at a state, behind so many values of the tape and so
-- many steps; in section h, of which so many steps were read; or behind the last line.
pub data SectionPlace (State : Type 0) : Type 0 where
  heading : List ℕ → List (List ℕ) → SectionPlace State
  opening : ℕ → ℕ → ℕ → State → SectionPlace State
  inside : ℕ → ℕ → ℕ → ℕ → State → SectionPlace State
  closed : State → SectionPlace State

-- before the lines of a head and the first section
abbrev pub before : {State : Type 0} → State → List (List ℕ) → SectionPlace State
before from [] = opening 0 0 0 from
before from (line ∷ lines) = heading line lines

-- how many values of the tape a state's step takes: one, unless its bound is 1
abbrev pub taken_at : {State : Type 0} → Tree State → State → ℕ
taken_at tree s = if nat_lt 1 (weight_sum (tree.parts s)) then 1 else 0

-- a place, where the line is the one that is wanted
abbrev pub where_same : {Place : Type 0} → List ℕ → List ℕ → Place → Option Place
where_same line wanted place = if bytes_eq line wanted then Some place else None

-- the place behind a line: the opening line of a section, a step of it while its steps come next, its last line, and behind all sections
-- the last line of the log
abbrev pub next_place : {State : Type 0} → Tree State → Sectioning State → State
    → SectionPlace State → List ℕ → Option (SectionPlace State)
next_place tree sections from (heading wanted lines) line =
    where_same line wanted (before from lines)
next_place tree sections from (opening h taken steps s) line =
    if nat_lt h sections.count
    then where_same line (stratum_line (h + 1) taken) (inside h taken steps 0 s)
    else where_same line (end_line steps) (closed s)
next_place tree sections from (inside h taken steps own s) line =
    if sections.of s == h
    then option_map (λ value. inside h (taken + taken_at tree s) (steps + 1) (own + 1)
    (picked s (tree.parts s) value))
    (step_value (tree.kind s) (weight_sum (tree.parts s)) line)
    else where_same line (done_line (h + 1) own) (opening (h + 1) taken steps s)
next_place tree sections from (closed s) line = None

-- whether the last line was read
abbrev pub is_closed : {State : Type 0} → SectionPlace State → Bool
is_closed (heading wanted lines) = false
is_closed (opening h taken steps s) = false
is_closed (inside h taken steps own s) = false
is_closed (closed s) = true

-- the reader of a log of version 2 of a tree from a state
abbrev pub section_script : {State : Type 0} → Tree State → Sectioning State → State
    → Script (SectionPlace State)
section_script tree sections from =
    record { follow = next_place tree sections from; over = is_closed }

-- ---- the answer, computed

-- the leaf, where the last line was read
abbrev pub section_leaf : {State : Type 0} → SectionPlace State → Option State
section_leaf (heading wanted lines) = None
section_leaf (opening h taken steps s) = None
section_leaf (inside h taken steps own s) = None
section_leaf (closed s) = Some s

-- the leaf of a log of version 2, or the line at which it differs
unfoldable pub sectioned_reading : {State : Type 0} → Tree State → Sectioning State → State
    → List ℕ → List ℕ → Result State ℕ
sectioned_reading tree sections from head log =
    read_by (section_script tree sections from) (before from (whole_lines (sectioned_head head)))
    section_leaf log

-- whether the first line is that of version 2
abbrev pub is_sectioned : List ℕ → Bool
is_sectioned log = is_some (behind (codes "sampler-log 2\n") log)

-- the leaf of a log of either version, or the line at which it differs
abbrev pub any_reading : {State : Type 0} → Tree State → Sectioning State → State → List ℕ
    → List ℕ → Result State ℕ
any_reading tree sections from head log =
    if is_sectioned log then sectioned_reading tree sections from head log
    else log_reading tree from head log
