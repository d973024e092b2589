-- The steps of a replay: lines that stand first in a text, made and told. No public clause cites them.
use Rattle.std.specs.Prelude.{◌≡◌, ℕ, ◌+◌, Bool, true, false, List, [], ◌∷◌, ◌++◌, length, Option, Some, None}
use Rattle.smp_split.specs.Trees.{Tree, weight_sum, picked}
use Rattle.smp_split.specs.Paths.{Entry, Leads, entry_at}
use Rattle.smp_split.specs.Runs.{and_then}
use Rattle.smp_log.specs.declared.fault.ReplayFault.{ReplayFault}
use Rattle.smp_log.specs.declared.fault.ReplayFault.TheVariants.{Differs, NoMemory}
use Rattle.smp_log.specs.Logs.{steps_text}
use Rattle.smp_log.specs.Reading.{step_first}
use Rattle.smp_log.specs.SectionLogs.{tape_place}

-- ---- one step

-- From one state the step whose line stands first in a text was made to another and told: by its value, to its bound, with so much text
-- behind the line.
pub record IsMade {State : Type 0} (tree : Tree State) (from to : State) (text after : List ℕ)
    (bound : ℕ) (old new : Option (List Entry)) : Type 0 where
  pub value : ℕ
  pub bound_is : bound ≡ weight_sum (tree.parts from)
  pub read : step_first (tree.kind from) (weight_sum (tree.parts from)) text ≡ Some (value, after)
  pub made : to ≡ picked from (tree.parts from) value
  pub told : new ≡ and_then old (entry_at tree from value ∷ [])

-- the first line of a text isn't that of a state's next step, and nothing was done
pub record IsLeft {State : Type 0} (tree : Tree State) (from to : State) (text : List ℕ)
    (old new : Option (List Entry)) : Type 0 where
  pub read : step_first (tree.kind from) (weight_sum (tree.parts from)) text ≡ None
  pub same : to ≡ from
  pub untold : new ≡ old

-- either, by what stands behind the line, and the bound
abbrev pub StepsOn : {State : Type 0} → Tree State → (from to : State) → List ℕ → Option (List ℕ × ℕ)
    → (old new : Option (List Entry)) → Type 0
StepsOn tree from to text (Some step) old new = IsMade tree from to text step.0 step.1 old new
StepsOn tree from to text None old new = IsLeft tree from to text old new

-- ---- the steps of a part

-- the steps of a path are each asked at a state that passes a test
abbrev pub EachPasses : {State : Type 0} → Tree State → (State → Bool) → State → List Entry → Type 0
EachPasses tree has s [] = Unit {0}
EachPasses tree has s (entry ∷ path) =
    (has s ≡ true) × EachPasses tree has (picked s (tree.parts s) entry.2) path

-- The steps of a path from a state to another, each of a part, whose lines stand first in a text, were made and told: so many, and so
-- many that take a value of the tape, with so much text behind their lines.
pub record AreMade {State : Type 0} (tree : Tree State) (has : State → Bool) (from to : State)
    (text rest : List ℕ) (steps taken : ℕ) (old new : Option (List Entry)) : Type 0 where
  pub path : List Entry
  pub leads : Leads tree from path to
  pub passes : EachPasses tree has from path
  pub text_is : text ≡ steps_text path ++ rest
  pub steps_are : steps ≡ length path
  pub taken_are : taken ≡ tape_place path
  pub told : new ≡ and_then old path

-- so it is of all steps of the part
pub record AreAllMade {State : Type 0} (tree : Tree State) (has : State → Bool) (from to : State)
    (text rest : List ℕ) (steps taken : ℕ) (old new : Option (List Entry)) : Type 0 where
  pub made : AreMade tree has from to text rest steps taken old new
  pub over : has to ≡ false

-- so it is of some
pub record AreBegun {State : Type 0} (tree : Tree State) (has : State → Bool) (from to : State)
    (text : List ℕ) (old new : Option (List Entry)) : Type 0 where
  pub rest : List ℕ
  pub steps : ℕ
  pub taken : ℕ
  pub made : AreMade tree has from to text rest steps taken old new

-- behind some, and so many lines before them, a step of the part comes next, and this line isn't its own
pub record IsNoStepAt {State : Type 0} (tree : Tree State) (has : State → Bool) (from to : State)
    (text : List ℕ) (lines : ℕ) (old new : Option (List Entry)) (line : ℕ) : Type 0 where
  pub begun : AreBegun tree has from to text old new
  pub going : has to ≡ true
  pub read : step_first (tree.kind to) (weight_sum (tree.parts to)) begun.rest ≡ None
  pub counted : line ≡ lines + begun.steps + 1

-- the reading of a part ended before its last step: at such a line, or for want of memory, where a line may be refused
abbrev pub AreStopped : {State : Type 0} → Tree State → (State → Bool) → (from to : State) → List ℕ
    → ℕ → (old new : Option (List Entry)) → Bool → ReplayFault → Type 0
AreStopped tree has from to text lines old new refuses (Differs line) =
    IsNoStepAt tree has from to text lines old new line
AreStopped tree has from to text lines old new refuses NoMemory =
    AreBegun tree has from to text old new × (refuses ≡ true)
