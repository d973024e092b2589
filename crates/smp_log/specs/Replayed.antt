-- What a replay owes, whichever form of log it reads.
use Rattle.std.specs.Prelude.{◌≡◌, ℕ, ◌-◌, Bool, true, List, Option, Result, Err, OnOk, OnErr}
use Rattle.smp_split.specs.Trees.{Tree}
use Rattle.smp_split.specs.Sectioning.{Sectioning}
use Rattle.smp_split.specs.Paths.{Entry}
use Rattle.smp_split.specs.Runs.{and_then}
use Rattle.smp_log.specs.declared.fault.LogFault.{LogFault}
use Rattle.smp_log.specs.declared.fault.LogFault.TheVariants as log
use Rattle.smp_log.specs.declared.fault.ReplayFault.{ReplayFault}
use Rattle.smp_log.specs.declared.fault.ReplayFault.TheVariants.{Differs, NoMemory}
use Rattle.smp_log.specs.Answers.{AnswersAs, answer_at, log_reading}
use Rattle.smp_log.specs.Genuine.{DiffersAt, IsGenuine, IsToldGenuine, IsToldLogOf}
use Rattle.smp_log.specs.LoneSections.{HasToldSection, SectionDiffers, section_in_first_lines}
use Rattle.smp_log.specs.LoneSections.{section_reading, section_told}
use Rattle.smp_log.specs.SectionLogs.{IsAnyGenuine, IsAnyText, IsSectionedGenuine, IsSectionedText}
use Rattle.smp_log.specs.SectionReading.{any_reading, sectioned_reading}
use Rattle.smp_log.specs.Told.{IsToldAlong, IsToldPart, path_in_first_lines, path_told}

-- what is said of a log: whose log it is where it is genuine, and told so; at which line it differs; the path that it tells, and
-- that its first lines tell; and the answer as a function of the bytes
pub record Form (State : Type 0) : Type 1 where
  pub genuine : State → Type 0
  pub differs : ℕ → Type 0
  pub told : List Entry
  pub first_told : ℕ → List Entry
  pub reading : Result State ℕ

-- one whose lines behind the head tell the path
abbrev pub path_form : {State : Type 0} → Tree State → State → List ℕ → (State → Type 0) → (ℕ → Type 0)
    → Result State ℕ → Form State
path_form tree from log genuine differs reading = record {
  genuine = genuine;
  differs = differs;
  told = path_told tree from log;
  first_told = λ count. path_in_first_lines tree from count log;
  reading = reading;
}

-- a log of version 1
abbrev pub old_form : {State : Type 0} → Tree State → State → List ℕ → List ℕ → Form State
old_form tree from head log =
    path_form tree from log (IsToldGenuine tree from head log) (DiffersAt (IsGenuine tree from head) log)
    (log_reading tree from head log)

-- of version 2
abbrev pub sectioned_form : {State : Type 0} → Tree State → Sectioning State → State → List ℕ
    → List ℕ → Form State
sectioned_form tree sections from head log =
    path_form tree from log (IsToldLogOf (IsSectionedText tree sections from head) tree from log)
    (DiffersAt (IsSectionedGenuine tree sections from head) log)
    (sectioned_reading tree sections from head log)

-- of either version
abbrev pub any_form : {State : Type 0} → Tree State → Sectioning State → State → List ℕ → List ℕ
    → Form State
any_form tree sections from head log =
    path_form tree from log (IsToldLogOf (IsAnyText tree sections from head) tree from log)
    (DiffersAt (IsAnyGenuine tree sections from head) log) (any_reading tree sections from head log)

-- one section of a log of version 2
abbrev pub section_form : {State : Type 0} → Tree State → State → List ℕ → ℕ → List ℕ → Form State
section_form tree from head number log = record {
  genuine = HasToldSection tree from head number log (section_told tree from number log);
  differs = SectionDiffers tree from head number log;
  told = section_told tree from number log;
  first_told = λ count. section_in_first_lines tree from number count log;
  reading = section_reading tree from head number log;
}

-- A replay from one state to another answers so, where its steps were told behind the old lines, if lines are told at all.
pub record Replays {State : Type 0} (tree : Tree State) (member : State → Type 0)
    (form : Form State) (from to : State) (old new : Option (List Entry)) (refuses : Bool)
    (result : Result (Unit {0}) ReplayFault) : Type 0 where
  pub genuine : OnOk result (form.genuine to)
  pub told : OnOk result (new ≡ and_then old form.told)
  pub differs : (line : ℕ) → result ≡ Err (Differs line) → form.differs line
  -- before an error the first steps that the log tells were told, up to the state, and no more
  pub stopped : OnErr result (IsToldPart tree form.told from to old new)
  -- where it differs, they are those of the lines before the one that is named
  pub kept : (line : ℕ) → result ≡ Err (Differs line)
      → IsToldAlong tree (form.first_told (line - 1)) from to old new
  -- memory is wanted only where a line may be refused
  pub may_refuse : result ≡ Err NoMemory → refuses ≡ true
  pub done : OnOk result (tree.done to ≡ true)
  pub belongs : member to
  -- the same as a function of the bytes
  pub reading : AnswersAs result to form.reading

-- the same where no step is told
pub record ReplaysUntold {State : Type 0} (tree : Tree State) (member : State → Type 0)
    (form : Form State) (to : State) (result : Result (Unit {0}) LogFault) : Type 0 where
  pub genuine : OnOk result (form.genuine to)
  pub differs : (line : ℕ) → result ≡ Err (log.Differs line) → form.differs line
  pub done : OnOk result (tree.done to ≡ true)
  pub belongs : member to
  pub reading : answer_at result to ≡ form.reading
