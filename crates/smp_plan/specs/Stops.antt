-- Why the work on the inputs stops, and how it goes on.
use Rattle.std.specs.Prelude.{ℕ, List, Option, Some, None, Result, Ok, Err, if◌then◌else◌}
use Rattle.std.specs.Str.{bytes_eq}
use Rattle.smp_io.specs.Store.{Files}
use Rattle.smp_status.specs.declared.status.Status.{Status}

-- why a call doesn't go on to its writes
pub data Stop : Type 0 where
  Refused : Status → Stop
  Missing : List ℕ → Stop

-- what there is, or a refusal
abbrev pub or_refused : {A : Type 0} → Status → Option A → Result A Stop
or_refused refusal (Some x) = Ok x
or_refused refusal None = Err (Refused refusal)

-- what was read, or the refusal of its fault
abbrev pub or_fault : {A Fault : Type 0} → (Fault → Status) → Result A Fault → Result A Stop
or_fault status (Ok x) = Ok x
or_fault status (Err fault) = Err (Refused (status fault))

-- the content under a name
abbrev pub content : List ℕ → Option (List ℕ) → Result (List ℕ) Stop
content name (Some bytes) = Ok bytes
content name None = Err (Missing name)

abbrev pub content_of : List ℕ → Files → Result (List ℕ) Stop
content_of name fs = content name (fs name)

-- the files, but for this one
abbrev pub without : List ℕ → Files → Files
without name fs = λ other. if bytes_eq name other then None else fs other
