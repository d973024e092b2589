-- The mean of a list over the selected units, and a unit's probability of selection, where each number below the bound of a step is
-- drawn as often as any other, whatever numbers came before.
use Rattle.std.specs.Prelude.{ℕ, zero, suc, cond, nat_eq, ◌&&◌, List}
use Rattle.smp_frac.specs.Fractions.{Fraction, whole, times, divided, sum_below}
use Rattle.smp_split.specs.Trees.{Part, Tree, weight_sum, picked}

-- the sum of c over the selected units
-- = Σ c(k)
abbrev pub selected_sum : {State : Type 0} → Tree State → (ℕ → Fraction) → State → Fraction
selected_sum tree c state = sum_below tree.units (λ k. cond (tree.selected state k) (c k) (whole 0))

-- the sum, over all numbers below the bound of a state's step, of f at the state to which the number leads
-- = Σ f(s·v) over v < b(s), where v leads from s to s·v
-- e.g. of P(c) at the start 3/5 + 3/5 + 3/5 = 9/5
abbrev pub sum_over_draws : {State : Type 0} → (State → Fraction) → State → List (Part State)
    → Fraction
sum_over_draws f state parts = sum_below (weight_sum parts) (λ draw. f (picked state parts draw))

-- The mean of a function of the done states. At a done state it is its value there. At any other it is the sum, over all numbers below the
-- bound of its step, of the mean from the state to which the number leads, divided by the bound: so the numbers are uniform and independent
-- of those before. `steps` is at least the rank, so that no path is longer.
-- = E f(s) = f(s) at a leaf, and else Σ E f(s·v) / b(s), over all v < b(s)
-- e.g. of c at (0,3,3,4)/5: (1/5 + 1/5 + 1 + 1)/4 = 3/5
abbrev pub mean_of_within : {State : Type 0} → ℕ → Tree State → (State → Fraction) → State
    → Fraction
mean_of_within zero tree f state = f state
mean_of_within (suc steps) tree f state =
    cond (tree.done state) (f state)
    (divided (sum_over_draws (mean_of_within steps tree f) state (tree.parts state))
    (weight_sum (tree.parts state)))

-- the mean below a state, within as many steps as its rank
-- = E f(s)
abbrev pub mean_of : {State : Type 0} → Tree State → (State → Fraction) → State → Fraction
mean_of tree f state = mean_of_within (tree.rank state) tree f state

-- the mean of the sum of c over the selected units
-- = E Σ c(k)
abbrev pub mean : {State : Type 0} → Tree State → (ℕ → Fraction) → State → Fraction
mean tree c state = mean_of tree (selected_sum tree c) state

-- the second-order inclusion probability: the mean of the number that is 1 where both units are selected, and 0 elsewhere
abbrev pub joint_probability : {State : Type 0} → Tree State → State → ℕ → ℕ → Fraction
joint_probability tree state j k =
    mean_of tree (λ leaf. whole (cond (tree.selected leaf j && tree.selected leaf k) 1 0)) state

-- 1 at this unit and 0 elsewhere
abbrev pub only : ℕ → ℕ → Fraction
only unit k = whole (cond (nat_eq k unit) 1 0)

-- the first-order inclusion probability: the mean of the number that is 1 where the unit is selected, and 0 elsewhere
-- = P(s, k) = E [k is selected]
-- e.g. P(c) = (3/5 + 3/5 + 3/5)/3 = 3/5 at the start
abbrev pub inclusion_probability : {State : Type 0} → Tree State → State → ℕ → Fraction
inclusion_probability tree state unit = mean tree (only unit) state

-- the sum of c times the value, over the units
abbrev pub value_sum : {State : Type 0} → Tree State → (ℕ → Fraction) → State → Fraction
value_sum tree c state = sum_below tree.units (λ k. times (c k) (tree.value state k))
