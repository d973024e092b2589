-- What a selection keeps that flies and then lands, and what its landing gives up (Deville and Tillé 2004), whatever its method. All
-- of it is said of every path from a state.
use Rattle.std.specs.Prelude.{◌≡◌, ◌≢◌, ◌⊎◌, ℕ, ◌<◌, ◌≤◌, true, false, List, [], ◌∷◌, ◌++◌}
use Rattle.smp_frac.specs.Fractions.{Fraction, Same}
use Rattle.smp_frac.specs.Bounds.{DifferByAtMost}
use Rattle.smp_split.specs.Trees.{Tree, picked}
use Rattle.smp_split.specs.Paths.{Entry, IsStep, Leads}
use Rattle.smp_split.specs.declared.kind.Kind.{Kind}
use Rattle.smp_split.specs.declared.kind.Kind.TheVariants as kind

-- What is balanced: the tree; of each state the rows in force, how many units were fractional where the landing began (0 as long as
-- it hasn't begun), and how many are fractional; how many rows there are; the total of a row at a state, what it should be, what is
-- estimated of it at a leaf, and what bounds the error where the landing begins at a state. Of the search at a state: the columns of
-- the fractional units are independent in the rows in force; and it finds no direction, or a number of it or of its move passes its
-- gate. And what is known before the draw: the numbers are so small that none can.
pub record Balance (State : Type 0) : Type 1 where
  pub tree : Tree State
  pub rows : State → ℕ
  pub left : State → ℕ
  pub undecided : State → ℕ
  pub all_rows : ℕ
  pub total : State → ℕ → Fraction
  pub known : ℕ → Fraction
  pub estimate : State → ℕ → Fraction
  pub bound : State → ℕ → Fraction
  pub independent : State → Type 0
  pub stuck : State → Type 0
  pub narrow : Type 0

-- a path without a step that drops a row or goes over to pivotal steps
abbrev pub IsBeforeLanding : List Entry → Type 0
IsBeforeLanding [] = Unit {0}
IsBeforeLanding (entry ∷ path) =
    (entry.0 ≢ kind.Drop) × (entry.0 ≢ kind.Wide) × IsBeforeLanding path

-- a step of this kind begins the landing, unless it began before
abbrev pub Begins : Kind → Type 0
Begins k = (k ≡ kind.Drop) ⊎ (k ≡ kind.Wide)

module _ {State : Type 0} (b : Balance State) where
  -- such a path leads to the state, and its own step drops a row or goes over to pivotal steps
  pub record LandsAt (from : State) (before : List Entry) (s : State) : Type 0 where
    pub leads : Leads b.tree from before s
    pub flight : IsBeforeLanding before
    pub going : b.tree.done s ≡ false
    pub begins : Begins (b.tree.kind s)

  -- a path that lands: the part before the landing begins, where it does, the step that begins it, and the part after
  pub record Lands (from : State) (path : List Entry) (to : State) : Type 0 where
    pub before : List Entry
    pub entry : Entry
    pub after : List Entry
    pub at : State
    pub lands : LandsAt from before at
    pub goes_on : Leads b.tree at (entry ∷ after) to
    pub is : path ≡ before ++ entry ∷ after

  -- What holds on every path from a state.
  pub record IsBalanced (from : State) : Type 0 where
    -- each flight step keeps the total of each row in force exactly, before rows were dropped and after
    pub flights : (path : List Entry) (s : State) (entry : Entry) → Leads b.tree from path s
        → IsStep b.tree s entry → entry.0 ≡ kind.Flight → (row : ℕ) → row < b.rows s
        → Same (b.total (picked s (b.tree.parts s) entry.2) row) (b.total s row)
    -- until the landing begins, each total is what it should be
    pub totals : (path : List Entry) (s : State) → Leads b.tree from path s
        → IsBeforeLanding path → (row : ℕ) → row < b.all_rows
        → Same (b.total s row) (b.known row)
    -- where it never begins, each estimate is exact
    pub exact : (path : List Entry) (leaf : State) → Leads b.tree from path leaf
        → IsBeforeLanding path → b.tree.done leaf ≡ true → (row : ℕ) → row < b.all_rows
        → Same (b.estimate leaf row) (b.known row)
    -- each path lands, or stays before the landing
    pub lands : (path : List Entry) (to : State) → Leads b.tree from path to
        → IsBeforeLanding path ⊎ Lands from path to
    -- the landing begins only where no direction is left or the next step doesn't fit
    pub landing : (before : List Entry) (s : State) → LandsAt from before s → b.stuck s
    -- a row is dropped only where the columns of the fractional units are independent in the rows in force
    pub drops : (path : List Entry) (s : State) → Leads b.tree from path s
        → b.tree.done s ≡ false → b.tree.kind s ≡ kind.Drop → b.independent s
    -- where the landing begins as no direction is left, no more units are fractional than there are rows in force
    pub few : (before : List Entry) (s : State) → LandsAt from before s
        → b.tree.kind s ≡ kind.Drop → (b.undecided s ≤ b.rows s) × (b.rows s ≤ b.all_rows)
    -- the units that are fractional where the landing begins bound the error of each estimate, also after pivotal steps
    pub error : (before after : List Entry) (s leaf : State) → LandsAt from before s
        → Leads b.tree s after leaf → b.tree.done leaf ≡ true → (row : ℕ) → row < b.all_rows
        → DifferByAtMost (b.bound s row) (b.estimate leaf row) (b.known row)
    -- what is kept as left is 0 before the landing, and after it began the number of units that were fractional there
    pub none_left : (path : List Entry) (s : State) → Leads b.tree from path s
        → IsBeforeLanding path → b.left s ≡ 0
    pub left : (before after : List Entry) (entry : Entry) (s to : State) → LandsAt from before s
        → Leads b.tree s (entry ∷ after) to → b.left to ≡ b.undecided s
    -- where the numbers are narrow, no step goes over to pivotal steps: neither the first of a landing nor one after it
    pub never_wide : b.narrow → (path : List Entry) (s : State) → Leads b.tree from path s
        → b.tree.done s ≡ false → b.tree.kind s ≢ kind.Wide
    -- so no more units are left than there are rows, whatever is drawn
    pub few_left : b.narrow → (path : List Entry) (s : State) → Leads b.tree from path s → b.left s ≤ b.all_rows
