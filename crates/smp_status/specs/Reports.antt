-- How the line of a refusal is put.
use Rattle.std.specs.Prelude.{◌≡◌, ◌⊎◌, ℕ, List, Option, Some, None, is_some, true, Result, Ok, Err}
use Rattle.smp_io.specs.Counts.{Rose}
use Rattle.smp_io.specs.Sink.{with_bytes, AppendsFront}
use Rattle.smp_frac.specs.declared.memory.NoMemory as memory
use Rattle.smp_status.specs.declared.status.Status.{Status}
use Rattle.smp_status.specs.declared.status.Status.TheVariants as status
use Rattle.smp_status.specs.Codes.{Class, IsRefusal, IsReadFault, IsNoMemory}
use Rattle.smp_status.specs.FaultLines.{fault_line}

-- ---- refusals by class

-- a refusal, which has a line
abbrev pub HasLine : Status → Type 0
HasLine refusal = is_some (fault_line refusal) ≡ true

-- the statuses to which reading the inputs and their content can lead, by class
abbrev pub IsOfInputs : Class → Status → Type 0
IsOfInputs IsRefusal refusal = HasLine refusal
IsOfInputs IsReadFault status = Unit {0}
IsOfInputs IsNoMemory status = Unit {0}
IsOfInputs other status = ⊥

-- those to which their content can lead
abbrev pub IsOfContent : Class → Status → Type 0
IsOfContent IsRefusal refusal = HasLine refusal
IsOfContent IsNoMemory status = Unit {0}
IsOfContent other status = ⊥

-- ---- the line of a refusal

-- what can be told of a sink
pub record Put : Type 0 where
  pub written : Option (List ℕ)
  pub faults : ℕ
  pub shortages : ℕ

abbrev pub put_by : {S : Type 0} → (S → Option (List ℕ)) → (S → ℕ) → (S → ℕ) → S → Put
put_by written faults shortages out = record {
  written = written out;
  faults = faults out;
  shortages = shortages out;
}

-- How a line was put for a refusal, and what is answered then: the whole line, or a front of it where the sink failed; or memory ran
-- out, where no put failed, with a front of the line put where the put itself ended so, or with nothing.
pub data PutsLine (refusal answer : Status) (line : List ℕ) (before now : Put) : Type 0 where
  Whole : answer ≡ refusal → now.written ≡ with_bytes line before.written
      → PutsLine refusal answer line before now
  Cut : answer ≡ refusal → Rose before.faults now.faults
      → AppendsFront line before.written now.written → PutsLine refusal answer line before now
  OutOfMemory : answer ≡ status.NoMemory → now.faults ≡ before.faults
      → (Rose before.shortages now.shortages × AppendsFront line before.written now.written)
      ⊎ (now.written ≡ before.written)
      → PutsLine refusal answer line before now

-- the line of a refusal, or nothing for a status that has none
abbrev pub Reports : Option (List ℕ) → Status → Status → Put → Put → Type 0
Reports (Some line) refusal answer before now = PutsLine refusal answer line before now
Reports None refusal answer before now = (answer ≡ refusal) × (now ≡ before)

-- a refusal whose line is put or was to be put, unless memory ran out
abbrev pub kept_status : Status → Result (Unit {0}) memory.NoMemory → Status
kept_status refusal (Ok done) = refusal
kept_status refusal (Err error) = status.NoMemory
