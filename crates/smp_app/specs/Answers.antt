-- What each answer of a call says.
use Rattle.std.specs.Prelude.{◌≡◌, ◌⊎◌, ℕ, List, Option, Some, None, option_map, is_ok, true, Result, Ok, Err}
use Rattle.smp_io.specs.Counts.{Rose}
use Rattle.smp_io.specs.Sink.{with_bytes, AppendsFront}
use Rattle.smp_io.specs.Store.{Files}
use Rattle.smp_words.specs.declared.command.Command.{Command}
use Rattle.smp_words.specs.Words.{command_of}
use Rattle.smp_status.specs.declared.status.Status.{Status}
use Rattle.smp_status.specs.declared.status.Status.TheVariants.{Usage}
use Rattle.smp_status.specs.Codes.{Class, IsDone, IsUsage, IsRefusal, IsReadFault, IsWriteFault, IsNoMemory, class_of}
use Rattle.smp_status.specs.FaultLines.{fault_line}
use Rattle.smp_app.specs.Commands.{Job, job_for, job_of, inputs_named, inputs_of, outputs_of}
use Rattle.smp_plan.specs.Reads.{Sees}
use Rattle.smp_plan.specs.Stops.{Stop, Refused, Missing, without}
use Rattle.smp_app.specs.Verdict.{verdict}
use Rattle.smp_app.specs.Deliveries.{Outputs, SomeRose, names_of, with_files, StopsAt, AtPlace}

-- What can be told of the outside: the files, and for each name the counts of failed reads, of failed writes and of writes that ended
-- for want of memory; what was put, and the counts of failed puts and of puts that ended for want of memory. `None` where the files, or
-- what was put, aren't told.
pub record Outside : Type 0 where
  pub files : Option Files
  pub read_faults : List ℕ → ℕ
  pub write_faults : List ℕ → ℕ
  pub write_shortages : List ℕ → ℕ
  pub put : Option (List ℕ)
  pub put_faults : ℕ
  pub put_shortages : ℕ

-- what a store and a sink tell
abbrev pub outside : {K S : Type 0} → (K → Option Files)
    → (K → List ℕ → ℕ) → (K → List ℕ → ℕ) → (K → List ℕ → ℕ)
    → (S → Option (List ℕ)) → (S → ℕ) → (S → ℕ) → K → S → Outside
outside files read_faults write_faults write_shortages written put_faults put_shortages store out =
    record {
      files = files store;
      read_faults = read_faults store;
      write_faults = write_faults store;
      write_shortages = write_shortages store;
      put = written out;
      put_faults = put_faults out;
      put_shortages = put_shortages out;
    }

-- nothing but counts changed
pub record Untouched (before now : Outside) : Type 0 where
  pub files : now.files ≡ before.files
  pub put : now.put ≡ before.put

-- ---- all was done

-- All outputs are written and put, and they are those that the verdict accepts of the files before.
pub record IsWork (words : List (List ℕ)) (job : Job) (fs : Files) (before now : Outside)
    : Type 0 where
  pub outputs : Outputs
  pub accepted : verdict words fs ≡ Ok outputs
  pub files : now.files ≡ option_map (with_files outputs.files) before.files
  pub put : now.put ≡ with_bytes outputs.put before.put

pub record Done (words : List (List ℕ)) (before now : Outside) : Type 0 where
  pub job : Job
  pub asked : job_for words ≡ Some job
  pub done : (fs : Files) → Sees (inputs_of job) before.files fs → IsWork words job fs before now

-- ---- refusals

-- The words are those of a command, and its verdict is this refusal.
pub record Refuses (refusal : Status) (words : List (List ℕ)) (told : Option Files) : Type 0 where
  pub command : Command
  pub asked : command_of words ≡ Some command
  pub verdict_is : (fs : Files) → Sees (inputs_of (job_of command)) told fs
      → verdict words fs ≡ Err (Refused refusal)

-- Usage is the refusal of words that are those of no command.
abbrev pub RefusesBy : Class → Status → List (List ℕ) → Option Files → Type 0
RefusesBy IsUsage refusal words told = command_of words ≡ None
RefusesBy other refusal words told = Refuses refusal words told

-- A refusal. No file changed, and its line was put: whole, or a front of it where the sink failed.
pub record Refusal (class : Class) (refusal : Status) (words : List (List ℕ))
    (before now : Outside) : Type 0 where
  pub refused : RefusesBy class refusal words before.files
  pub files : now.files ≡ before.files
  pub line : List ℕ
  pub line_is : fault_line refusal ≡ Some line
  pub put : (now.put ≡ with_bytes line before.put)
      ⊎ (Rose before.put_faults now.put_faults × AppendsFront line before.put now.put)

-- ---- faults of the outside

-- A read of an input failed, and nothing was touched. Where the files are told, no refusal stands before that reading: were the file
-- not there, it would be missing.
pub record ReadFault (words : List (List ℕ)) (before now : Outside) : Type 0 where
  pub job : Job
  pub asked : job_for words ≡ Some job
  pub cause : SomeRose (inputs_of job) before.read_faults now.read_faults
  pub first : (fs : Files) → before.files ≡ Some fs
      → verdict words (without cause.name fs) ≡ Err (Missing cause.name)
  pub same : Untouched before now

-- The outputs stopped, for what the verdict accepts.
pub record Stopped (words : List (List ℕ)) (before now : Outside) : Type 0 where
  pub job : Job
  pub asked : job_for words ≡ Some job
  pub outputs : Outputs
  pub named : names_of outputs.files ≡ outputs_of job
  pub accepted : (fs : Files) → Sees (inputs_of job) before.files fs → verdict words fs ≡ Ok outputs
  pub stops : StopsAt outputs before.files now.files before.put now.put

-- The outputs stopped, and this holds of the name of the file whose write stopped them, or of the put.
pub record StoppedBy (words : List (List ℕ)) (before now : Outside) (of_file : List ℕ → Type 0)
    (of_put : Type 0) : Type 0 where
  pub stopped : Stopped words before now
  pub cause : AtPlace stopped.stops of_file of_put

-- The outputs stopped because the write of that file, or the put, failed: the place where they stopped is the call whose count rose.
abbrev pub WriteFault : List (List ℕ) → Outside → Outside → Type 0
WriteFault words before now =
    StoppedBy words before now (λ name. Rose (before.write_faults name) (now.write_faults name))
    (Rose before.put_faults now.put_faults)

-- They stopped because that write, or the put, ended for want of memory.
abbrev pub Shortage : List (List ℕ) → Outside → Outside → Type 0
Shortage words before now =
    StoppedBy words before now
    (λ name. Rose (before.write_shortages name) (now.write_shortages name))
    (Rose before.put_shortages now.put_shortages)

-- The put of a refusal's line ended for want of memory, of which a front may have been put; no file was touched.
pub record AtLine (words : List (List ℕ)) (before now : Outside) : Type 0 where
  pub refusal : Status
  pub refused : RefusesBy (class_of refusal) refusal words before.files
  pub line : List ℕ
  pub line_is : fault_line refusal ≡ Some line
  pub files : now.files ≡ before.files
  pub cause : Rose before.put_shortages now.put_shortages
  pub put : AppendsFront line before.put now.put

-- Memory ran out: before anything was touched, in the put of a refusal's line, or in a write or the put of the outputs. So once a file
-- is written it is a call of the store or the sink that ended for want of memory.
abbrev pub NoMemory : List (List ℕ) → Outside → Outside → Type 0
NoMemory words before now =
    Untouched before now ⊎ (AtLine words before now ⊎ Shortage words before now)

-- ---- the answer

-- what a status of each class says
abbrev pub Says : Class → Status → List (List ℕ) → Outside → Outside → Type 0
Says IsDone answer words before now = Done words before now
Says IsUsage answer words before now = Refusal IsUsage answer words before now
Says IsRefusal answer words before now = Refusal IsRefusal answer words before now
Says IsReadFault answer words before now = ReadFault words before now
Says IsWriteFault answer words before now = WriteFault words before now
Says IsNoMemory answer words before now = NoMemory words before now

-- No call that the job of the words makes on the outside failed.
pub record Undisturbed (job : Job) (before now : Outside) : Type 0 where
  pub reads : ¬ (SomeRose (inputs_of job) before.read_faults now.read_faults)
  pub writes : ¬ (SomeRose (outputs_of job) before.write_faults now.write_faults)
  pub put : ¬ (Rose before.put_faults now.put_faults)

-- the answer of a call that nothing disturbs, but for want of memory: that of its verdict
abbrev pub IsVerdict : Class → Status → Result Outputs Stop → Type 0
IsVerdict IsNoMemory answer v = Unit {0}
IsVerdict IsReadFault answer v = ⊥
IsVerdict IsWriteFault answer v = ⊥
IsVerdict IsDone answer v = is_ok v ≡ true
IsVerdict IsUsage answer v = v ≡ Err (Refused Usage)
IsVerdict IsRefusal answer v = v ≡ Err (Refused answer)

-- the words of no command are answered by Usage, or memory ran out
abbrev pub UsageOnly : Class → Type 0
UsageOnly IsUsage = Unit {0}
UsageOnly IsNoMemory = Unit {0}
UsageOnly other = ⊥

-- What a call answers, by its words and by what can be told of the outside before it and now: what the status says. From that it
-- follows that words which are those of no command are answered by Usage, and that, where nothing outside fails, the answer is the
-- verdict's, or memory ran out. `demo` reads no file, so of it all this stands over any store.
pub record IsAnswer (answer : Status) (words : List (List ℕ)) (before now : Outside) : Type 0 where
  pub says : Says (class_of answer) answer words before now
  pub usage : command_of words ≡ None → UsageOnly (class_of answer)
  pub complete : (fs : Files) → Sees (inputs_named words) before.files fs
      → ((job : Job) → job_for words ≡ Some job → Undisturbed job before now)
      → IsVerdict (class_of answer) answer (verdict words fs)
