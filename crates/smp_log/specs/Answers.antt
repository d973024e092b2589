-- What a replay answers, as a function of the bytes.
use Rattle.std.specs.Prelude.{◌≡◌, ℕ, ◌+◌, ◌==◌, ◌&&◌, Bool, true, false, List, length, Option, Some, None, Result, Ok}
use Rattle.std.specs.Prelude.{Err}
use Rattle.std.specs.Str.{bytes_eq}
use Rattle.smp_split.specs.Trees.{Tree}
use Rattle.smp_log.specs.declared.fault.LogFault.{LogFault}
use Rattle.smp_log.specs.declared.fault.LogFault.TheVariants.{Differs}
use Rattle.smp_log.specs.declared.fault.ReplayFault.{ReplayFault}
use Rattle.smp_log.specs.declared.fault.ReplayFault.TheVariants as faults
use Rattle.smp_log.specs.Genuine.{DiffersAt, IsGenuine}
use Rattle.smp_log.specs.Lines.{whole_lines, lines_text}
use Rattle.smp_log.specs.Reading.{Script, follows, LogPlace, heading, stepping, closed, before, end_line, log_script}

-- an answer says of a log that it is genuine, and has this leaf, or that it isn't, and differs at this line
abbrev pub IsAnswer : {State : Type 0} → (List ℕ → State → Type 0) → List ℕ → Result State ℕ
    → Type 0
IsAnswer Genuine log (Ok leaf) = Genuine log leaf
IsAnswer Genuine log (Err line) = DiffersAt Genuine log line

-- the answer of a replay that ended at this state
abbrev pub answer_at : {State : Type 0} → Result (Unit {0}) LogFault → State → Result State ℕ
answer_at (Ok done) state = Ok state
answer_at (Err (Differs line)) state = Err line

-- the answer of a replay that tells its steps, where it is this one and memory didn't run out
abbrev pub as_told : Result (Unit {0}) LogFault → Result (Unit {0}) ReplayFault
as_told (Ok done) = Ok done
as_told (Err (Differs line)) = Err (faults.Differs line)

-- the same where the steps are told or a log is written, unless memory ran out
abbrev pub AnswersAs : {State Read : Type 0} → Result Read ReplayFault → State → Result State ℕ
    → Type 0
AnswersAs (Ok read) state reading = reading ≡ Ok state
AnswersAs (Err (faults.Differs line)) state reading = reading ≡ Err line
AnswersAs (Err faults.NoMemory) state reading = Unit {0}

-- ---- the answer, computed

-- the leaf where all was read, and else the line behind those that were
abbrev pub answer_of : {State : Type 0} → Option State → Bool → ℕ → Result State ℕ
answer_of None all kept = Err (kept + 1)
answer_of (Some leaf) false kept = Err (kept + 1)
answer_of (Some leaf) true kept = Ok leaf

-- what reading by a script answers, where this tells the leaf of a place behind the last line
abbrev pub read_by : {Place State : Type 0} → Script Place → Place → (Place → Option State)
    → List ℕ → Result State ℕ
read_by script start leaf_of log =
    let read = follows script start (whole_lines log) in
    answer_of (leaf_of read.1)
    (read.0 == length (whole_lines log) && bytes_eq log (lines_text (whole_lines log))) read.0

-- the leaf, where the last line was read
abbrev pub log_leaf : {State : Type 0} → LogPlace State → Option State
log_leaf (heading wanted lines) = None
log_leaf (stepping steps s) = None
log_leaf (closed s) = Some s

-- the leaf of a log, or the line at which it differs
unfoldable pub log_reading : {State : Type 0} → Tree State → State → List ℕ → List ℕ
    → Result State ℕ
log_reading tree from head log =
    read_by (log_script tree end_line from) (before from (whole_lines head)) log_leaf log

-- a reading is the one answer that is right
pub record IsExactAnswer {State : Type 0} (Genuine : List ℕ → State → Type 0) (log : List ℕ)
    (reading : Result State ℕ) : Type 0 where
  pub right : IsAnswer Genuine log reading
  pub alone : (answer : Result State ℕ) → IsAnswer Genuine log answer → answer ≡ reading

abbrev pub IsExactReading : {State : Type 0} → Tree State → State → List ℕ → List ℕ → Type 0
IsExactReading tree from head log =
    IsExactAnswer (IsGenuine tree from head) log (log_reading tree from head log)
