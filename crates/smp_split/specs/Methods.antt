-- What a selection method owes, and what a selection by it starts with.
use Rattle.std.specs.Prelude.{ℕ, ◌<◌}
use Rattle.smp_frac.specs.Fractions.{Fraction, Same}
use Rattle.smp_split.specs.Trees.{Tree, Lawful}
use Rattle.smp_split.specs.Means.{mean, value_sum, inclusion_probability}
use Rattle.smp_split.specs.Counts.{AddsUp, LeavesSelect}

-- a draw tree, which states are the method's own, and the law that each split of these is lawful
pub record Method (State : Type 0) : Type 1 where
  pub tree : Tree State
  pub belongs : State → Type 0
  pub lawful : Lawful tree belongs

-- of the methods of many designs, the trees, the states, and the laws
abbrev pub trees : {Design : Type 0} → {State : Type 0} → (Design → Method State) → Design → Tree State
trees method design = (method design).tree

abbrev pub owns : {Design : Type 0} → {State : Type 0} → (Design → Method State) → Design → State → Type 0
owns method design = (method design).belongs

-- What holds of a state of a method's own. Over all draws, the mean of the sum of any numbers c over the selected units is the sum of c
-- times the value; so each unit's probability of selection is its value.
pub record HasMeans {State : Type 0} (method : Method State) (state : State) : Type 0 where
  pub member : method.belongs state
  pub mean : (c : ℕ → Fraction) → Same (mean method.tree c state) (value_sum method.tree c state)
  pub probability : (unit : ℕ) → unit < method.tree.units
      → Same (inclusion_probability method.tree state unit) (method.tree.value state unit)

-- where the values add up to a whole number, each leaf selects that many units
abbrev pub HasCount : {State : Type 0} → Tree State → State → Type 0
HasCount tree state = (n : ℕ) → AddsUp tree n state → LeavesSelect tree n state

-- What holds of a state from which a selection starts: its means, and how many units are selected.
pub record Starts {State : Type 0} (method : Method State) (state : State) : Type 0 where
  pub means : HasMeans method state
  pub count : HasCount method.tree state
