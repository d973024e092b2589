-- The run of a design over a source of draws, and a walk as such a run.
use Rattle.std.specs.Prelude.{◌≡◌, ℕ, zero, suc, true, false, if◌then◌else◌, Option, Some, None, List, [], ◌∷◌}
use Rattle.std.specs.Prelude.{◌++◌, Result, Ok, Err}
use Rattle.smp_tape.specs.declared.draws.DrawFault.{DrawFault}
use Rattle.smp_tape.specs.Sources.{Source}
use Rattle.smp_split.specs.Trees.{Tree, weight_sum, picked}
use Rattle.smp_split.specs.Paths.{Entry, entry_at, IsStep, Leads}

-- How a run ends, with its path and what is left of the source: at a leaf, or at a state whose draw is refused.
pub data Outcome (State Rest : Type 0) : Type 0 where
  leaf : State → List Entry → Rest → Outcome State Rest
  stopped : State → List Entry → DrawFault → Rest → Outcome State Rest

-- on from a value, or an end by a fault, with what is left of the source
abbrev pub by_answer : {Rest End : Type 0} → Result ℕ DrawFault → Rest → (ℕ → Rest → End)
    → (DrawFault → Rest → End) → End
by_answer (Ok value) rest on stop = on value rest
by_answer (Err fault) rest on stop = stop fault rest

-- The run from a state, after this path. `steps` is at least the rank, so that no path is longer.
abbrev pub run_within : {State Rest : Type 0} → ℕ → Source Rest → Tree State → State → List Entry
    → Rest → Outcome State Rest
run_within zero source tree s path rest = leaf s path rest
run_within (suc steps) source tree s path rest =
    if tree.done s then leaf s path rest
    else (let drawn = source.next rest (weight_sum (tree.parts s)) in
    by_answer drawn.answer drawn.rest
    (λ value left. run_within steps source tree (picked s (tree.parts s) value)
    (path ++ entry_at tree s value ∷ []) left)
    (λ fault left. stopped s path fault left))

abbrev pub run : {State Rest : Type 0} → Source Rest → Tree State → State → Rest
    → Outcome State Rest
run source tree state rest = run_within (tree.rank state) source tree state [] rest

-- ---- what a run comes to, without its steps

-- the source gives the values of the path to its bounds, and then so much of it is left
abbrev pub Gives : {Rest : Type 0} → Source Rest → Rest → List Entry → Rest → Type 0
Gives source rest [] left = left ≡ rest
Gives source rest (entry ∷ path) left =
    ((source.next rest entry.1).answer ≡ Ok entry.2)
    × Gives source (source.next rest entry.1).rest path left

-- the path leads to a leaf, and the source gives it
pub record IsLeaf {State Rest : Type 0} (source : Source Rest) (tree : Tree State) (from : State)
    (rest : Rest) (to : State) (path : List Entry) (left : Rest) : Type 0 where
  pub leads : Leads tree from path to
  pub done : tree.done to ≡ true
  pub gives : Gives source rest path left

-- the path leads to a state that is not done, the source gives the path, and then it refuses the draw
pub record IsStop {State Rest : Type 0} (source : Source Rest) (tree : Tree State) (from : State)
    (rest : Rest) (to : State) (path : List Entry) (fault : DrawFault) (left : Rest) : Type 0 where
  pub asked : Rest
  pub leads : Leads tree from path to
  pub going : tree.done to ≡ false
  pub gives : Gives source rest path asked
  pub refused : source.next asked (weight_sum (tree.parts to))
      ≡ record { answer = Err fault; rest = left }

abbrev pub IsOutcome : {State Rest : Type 0} → Source Rest → Tree State → State → Rest
    → Outcome State Rest → Type 0
IsOutcome source tree from rest (leaf to path left) = IsLeaf source tree from rest to path left
IsOutcome source tree from rest (stopped to path fault left) =
    IsStop source tree from rest to path fault left

-- ---- walks

-- where a walk stands: at a state, with so much left of the source, and with these entries told, where entries are told
pub record Position (State Rest : Type 0) : Type 0 where
  pub state : State
  pub rest : Rest
  pub told : Option (List Entry)

abbrev pub position : {State Rest : Type 0} → State → Rest → Option (List Entry)
    → Position State Rest
position state rest told = record { state = state; rest = rest; told = told }

-- the entries after these, where entries are told
abbrev pub and_then : Option (List Entry) → List Entry → Option (List Entry)
and_then None path = None
and_then (Some told) path = Some (told ++ path)

-- a walk to a leaf: the run leads there, and its path was told
pub record Arrived {State Rest : Type 0} (source : Source Rest) (tree : Tree State)
    (old new : Position State Rest) : Type 0 where
  pub path : List Entry
  pub ran : run source tree old.state old.rest ≡ leaf new.state path new.rest
  pub told : new.told ≡ and_then old.told path

-- a walk whose draw was refused: the run stops there, and its path was told
pub record Refused {State Rest : Type 0} (source : Source Rest) (tree : Tree State)
    (fault : DrawFault) (old new : Position State Rest) : Type 0 where
  pub path : List Entry
  pub ran : run source tree old.state old.rest ≡ stopped new.state path fault new.rest
  pub told : new.told ≡ and_then old.told path

-- a walk that stopped since a step wasn't told: its value was drawn, and the walk stands at the state that asked
pub record Untold {State Rest : Type 0} (source : Source Rest) (tree : Tree State)
    (old new : Position State Rest) : Type 0 where
  pub path : List Entry
  pub value : ℕ
  pub leads : Leads tree old.state path new.state
  pub step : IsStep tree new.state (entry_at tree new.state value)
  pub gives : Gives source old.rest (path ++ entry_at tree new.state value ∷ []) new.rest
  pub told : new.told ≡ and_then old.told path

-- ---- what is kept of a walk, whatever that is

-- what is kept of a walk to one state is kept, from the old trace to the new one, of the walk that goes on to another
abbrev pub KeepsOn : {State Trace : Type 0} → (State → State → Trace → Type 0) → (s t : State)
    → (old new : Trace) → Type 0
KeepsOn {State} Keeps s t old new = (from : State) → Keeps from s old → Keeps from t new

-- so it is by a step
abbrev pub KeepsStep : {State Trace : Type 0} → Tree State → (State → State → Trace → Type 0) → State
    → Entry → (old new : Trace) → Type 0
KeepsStep tree Keeps s entry old new =
    IsStep tree s entry → KeepsOn Keeps s (picked s (tree.parts s) entry.2) old new
