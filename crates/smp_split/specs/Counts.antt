-- How many units the values add up to, and how many the leaves of a design select.
use Rattle.std.specs.Prelude.{◌≡◌, ℕ, Bool, List}
use Rattle.std.specs.List.{count_by, filter, range_with_len}
use Rattle.smp_frac.specs.Bounds.{IsAround}
use Rattle.smp_frac.specs.Fractions.{Same, whole}
use Rattle.smp_split.specs.Trees.{Tree, weight_sum, picked}
use Rattle.smp_split.specs.Means.{value_sum}
use Rattle.smp_split.specs.Paths.{AtEachLeaf}

-- the units that are selected, in order
-- e.g. 2, 3
abbrev pub selected_units : {State : Type 0} → Tree State → State → List ℕ
selected_units tree state = filter (tree.selected state) (range_with_len 0 tree.units)

-- how many units are selected
abbrev pub selected_count : {State : Type 0} → Tree State → State → ℕ
selected_count tree state = count_by (tree.selected state) (range_with_len 0 tree.units)

-- each leaf below a state selects n units
abbrev pub LeavesSelect : {State : Type 0} → Tree State → ℕ → State → Type 0
LeavesSelect tree n state = AtEachLeaf tree state (λ path leaf. selected_count tree leaf ≡ n)

-- each leaf selects as many units as the values add up to, or, where that isn't whole, one of the two whole numbers around it
abbrev pub LeavesSelectAround : {State : Type 0} → Tree State → State → Type 0
LeavesSelectAround tree state =
    AtEachLeaf tree state (λ path leaf.
    IsAround (selected_count tree leaf) (value_sum tree (λ _. whole 1) state))

-- the values add up to n
abbrev pub AddsUp : {State : Type 0} → Tree State → ℕ → State → Type 0
AddsUp tree n state = Same (value_sum tree (λ _. whole 1) state) (whole n)

-- how many draws of a state's step lead to a state that passes a test
abbrev pub draws_to : {State : Type 0} → Tree State → State → (State → Bool) → ℕ
draws_to tree state test =
    count_by (λ draw. test (picked state (tree.parts state) draw))
    (range_with_len 0 (weight_sum (tree.parts state)))

-- how many of them lead to a state in which the unit is selected
abbrev pub draws_selecting : {State : Type 0} → Tree State → State → ℕ → ℕ
draws_selecting tree state unit = draws_to tree state (λ next. tree.selected next unit)

-- whether a draw leads to a state in which the unit is selected
abbrev pub selected_after : {State : Type 0} → Tree State → State → ℕ → ℕ → Bool
selected_after tree state draw unit = tree.selected (picked state (tree.parts state) draw) unit
