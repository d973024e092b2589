-- The leaves of a draw tree, counted. A sampling design has the samples of its leaves as its support, and none besides.
use Rattle.std.specs.Prelude.{ℕ, zero, suc, ◌+◌, nat_lt, if◌then◌else◌, List, [], ◌∷◌}
use Rattle.smp_split.specs.Trees.{Part, Tree}

-- the sum of f over the parts of positive weight
abbrev pub sum_of_parts : {State : Type 0} → (State → ℕ) → List (Part State) → ℕ
sum_of_parts f [] = 0
sum_of_parts f (p ∷ ps) = (if nat_lt 0 p.weight then f p.state else 0) + sum_of_parts f ps

-- How many ways lead from a state by parts of positive weight to a done state. `steps` is at least the rank, so that no way
-- is longer.
abbrev pub leaves_within : {State : Type 0} → ℕ → Tree State → State → ℕ
leaves_within zero tree state = 1
leaves_within (suc steps) tree state =
    if tree.done state then 1 else sum_of_parts (leaves_within steps tree) (tree.parts state)

-- the leaves below a state, each counted as often as ways lead to it
abbrev pub leaves : {State : Type 0} → Tree State → State → ℕ
leaves tree state = leaves_within (tree.rank state) tree state
