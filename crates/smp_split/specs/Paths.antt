-- Paths in the tree of a design, and its leaves.
use Rattle.std.specs.Prelude.{◌≡◌, ℕ, ◌<◌, nat_lt, true, false, if◌then◌else◌, List, [], ◌∷◌}
use Rattle.smp_split.specs.declared.kind.Kind.{Kind}
use Rattle.smp_split.specs.Trees.{Tree, weight_sum, picked}

-- an entry of a path: the kind of a step, its bound, and the value that was drawn
-- = (kind, b, v)
-- e.g. (pivot, 3, 0)
abbrev pub Entry : Type 0
Entry = Kind × ℕ × ℕ

-- the entry of a state's step, where this value is drawn
abbrev pub entry_at : {State : Type 0} → Tree State → State → ℕ → Entry
entry_at tree state value = (tree.kind state, weight_sum (tree.parts state), value)

-- the entry is of the step of a state that is not done: it has the kind and the bound of the step, and a value below the bound
-- = (kind, b(s), v) with v < b(s)
pub record IsStep {State : Type 0} (tree : Tree State)
    (state : State) (entry : Entry) : Type 0 where
  pub going : tree.done state ≡ false
  pub kind : entry.0 ≡ tree.kind state
  pub bound : entry.1 ≡ weight_sum (tree.parts state)
  pub value : entry.2 < entry.1

-- the path leads from a state to another
-- e.g. by 0, 3, 4 to (0,0,5,5)/5
abbrev pub Leads : {State : Type 0} → Tree State → State → List Entry → State → Type 0
Leads tree from [] to = to ≡ from
Leads tree from (entry ∷ path) to =
    IsStep tree from entry × Leads tree (picked from (tree.parts from) entry.2) path to

-- a state to which a path leads from the start
-- e.g. (1,0,5,4)/5, by 0 and 3
pub record IsReached {State : Type 0} (tree : Tree State) (start state : State) : Type 0 where
  pub path : List Entry
  pub leads : Leads tree start path state

-- ---- leaves: the done states below a state

-- P holds of each leaf below a state, and of the path to it
abbrev pub AtEachLeaf : {State : Type 0} → Tree State → State → (List Entry → State → Type 0)
    → Type 0
AtEachLeaf {State} tree state P =
    (path : List Entry) (leaf : State) → Leads tree state path leaf → tree.done leaf ≡ true
    → P path leaf

-- a leaf below a state, and the path to it
pub record LeafBelow {State : Type 0} (tree : Tree State) (state : State) : Type 0 where
  pub path : List Entry
  pub leaf : State
  pub leads : Leads tree state path leaf
  pub done : tree.done leaf ≡ true

-- ---- full tapes

-- the values that a path takes from a tape: those of the steps whose bound is 2 or more
-- = the v of the entries with b ≥ 2
-- e.g. 0 3 4
abbrev pub values_of : List Entry → List ℕ
values_of [] = []
values_of (entry ∷ path) = if nat_lt 1 entry.1 then entry.2 ∷ values_of path else values_of path

-- A full tape: its values are those of a path from the state to a leaf.
pub record IsFull {State : Type 0} (tree : Tree State) (state : State) (values : List ℕ)
    (path : List Entry) (leaf : State) : Type 0 where
  pub leads : Leads tree state path leaf
  pub done : tree.done leaf ≡ true
  pub all : values ≡ values_of path
