-- What a function owes that reads inputs: it hands on a result that is a stage of the work.
use Rattle.std.specs.Prelude.{◌≡◌, ℕ, List, [], ◌∷◌, Contains, Option, Some, Result, Ok, Err, IfErr}
use Rattle.smp_io.specs.Counts.{Rose, NeverFalls}
use Rattle.smp_io.specs.Store.{Files, AsksOnly}
use Rattle.smp_status.specs.declared.status.Status.{Status}
use Rattle.smp_status.specs.Codes.{Class, IsReadFault, IsNoMemory, class_of}
use Rattle.smp_plan.specs.Stops.{Stop, Refused, Missing, without}
use Rattle.smp_status.specs.Reports.{IsOfInputs}

abbrev pub result_view : {A B E : Type 0} → (A → B) → Result A E → Result B E
result_view view (Ok x) = Ok (view x)
result_view view (Err e) = Err e

-- what can be told of a store
pub record Told : Type 0 where
  pub files : Option Files
  pub read_faults : List ℕ → ℕ
  pub write_faults : List ℕ → ℕ
  pub write_shortages : List ℕ → ℕ
  pub asked : Option (List (List ℕ))

abbrev pub told : {K : Type 0} → (K → Option Files) → (K → List ℕ → ℕ) → (K → List ℕ → ℕ)
    → (K → List ℕ → ℕ) → (K → Option (List (List ℕ))) → K → Told
told files read_faults write_faults write_shortages asked store = record {
  files = files store;
  read_faults = read_faults store;
  write_faults = write_faults store;
  write_shortages = write_shortages store;
  asked = asked store;
}

-- The files are told, and are these. Where none of them is named, these may be any.
abbrev pub Sees : List (List ℕ) → Option Files → Files → Type 0
Sees [] told fs = Unit {0}
Sees (name ∷ names) told fs = told ≡ Some fs

-- an error is the stage's refusal, unless a read failed or memory ran out
abbrev pub IsErrorOf : {A : Type 0} → Class → Status → Result A Stop → Type 0
IsErrorOf IsReadFault error stage = Unit {0}
IsErrorOf IsNoMemory error stage = Unit {0}
IsErrorOf other refusal stage = stage ≡ Err (Refused refusal)

abbrev pub Follows : {A : Type 0} → Result A Status → Result A Stop → Type 0
Follows (Ok x) stage = stage ≡ Ok x
Follows (Err error) stage = IsErrorOf (class_of error) error stage

-- A read of one of these inputs failed. Where the files are told, no refusal stands before that reading: were the file not there, it
-- would be missing.
pub record ReadCause {A : Type 0} (inputs : List (List ℕ)) (stage : Files → Result A Stop)
    (before now : Told) : Type 0 where
  pub name : List ℕ
  pub is_input : Contains inputs name
  pub rose : Rose (before.read_faults name) (now.read_faults name)
  pub first : (fs : Files) → before.files ≡ Some fs → stage (without name fs) ≡ Err (Missing name)

-- the status of a failed read has a cause
abbrev pub IsCaused : Class → Type 0 → Type 0
IsCaused IsReadFault cause = cause
IsCaused other cause = Unit {0}

-- What a function answers that reads these inputs: a stage of the verdict. It changes no file and asks for no other. ReadFault comes
-- where a read of one of the inputs failed.
pub record Reads {A : Type 0} (inputs : List (List ℕ)) (stage : Files → Result A Stop)
    (answer : Result A Status) (before now : Told) : Type 0 where
  pub follows : (fs : Files) → Sees inputs before.files fs → Follows answer (stage fs)
  pub kinds : IfErr answer (λ error. IsOfInputs (class_of error) error)
  pub cause : IfErr answer (λ error. IsCaused (class_of error) (ReadCause inputs stage before now))
  pub same : now.files ≡ before.files
  pub reads : NeverFalls before.read_faults now.read_faults
  pub writes : NeverFalls before.write_faults now.write_faults
  pub shortages : NeverFalls before.write_shortages now.write_shortages
  pub asked : AsksOnly inputs before.asked now.asked
