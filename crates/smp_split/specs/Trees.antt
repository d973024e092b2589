-- A selection design as a tree of weighted parts, and its lawful splits (Deville and Tillé 1998).
use Rattle.std.specs.Prelude.{◌≡◌, ℕ, ◌+◌, ◌-◌, ◌*◌, ◌≤◌, ◌<◌, Bool, true, false, cond, nat_lt, List}
use Rattle.std.specs.Prelude.{[], ◌∷◌}
use Rattle.smp_frac.specs.Limits.{wide_limit}
use Rattle.smp_frac.specs.Fractions.{Fraction, Same, whole, plus, times}
use Rattle.smp_split.specs.declared.kind.Kind.{Kind}

-- a weight, and the state that has it
-- = (wᵢ, sᵢ)
-- e.g. (1, (3,0,3,4)/5)
pub record Part (State : Type 0) : Type 0 where
  pub weight : ℕ
  pub state : State

-- what a design means: how many units it has, and of each state whether it is done, the kind of its step, its parts, its rank (a number
-- that is to fall at each step), the value of each unit, which is a fraction, and which units are selected in it
pub record Tree (State : Type 0) : Type 0 where
  pub units : ℕ
  pub done : State → Bool
  pub kind : State → Kind
  pub parts : State → List (Part State)
  pub rank : State → ℕ
  pub value : State → ℕ → Fraction
  pub selected : State → ℕ → Bool

-- the sum of the weights, which is the bound of a draw
-- = b(s) = Σ wᵢ
-- e.g. 1 + 2 = 3 at the start
abbrev pub weight_sum : {State : Type 0} → List (Part State) → ℕ
weight_sum [] = 0
weight_sum (p ∷ ps) = p.weight + weight_sum ps

-- the state of the first part at which the cumulated weights pass the draw; the default where none does, which no draw below the bound
-- comes to
-- = the first sᵢ with v < w₁ + .. + wᵢ, to which so wᵢ of the b(s) numbers lead
-- e.g. 0 leads to (3,0,3,4)/5, 1 and 2 to (0,3,3,4)/5
abbrev pub picked : {State : Type 0} → State → List (Part State) → ℕ → State
picked default [] draw = default
picked default (p ∷ ps) draw =
    cond (nat_lt draw p.weight) p.state (picked default ps (draw - p.weight))

-- the sum of weight times f over the parts
-- = Σ wᵢ·f(sᵢ)
-- e.g. of P(c) at the start 1·(3/5) + 2·(3/5) = 9/5
abbrev pub weighted : {State : Type 0} → (State → Fraction) → List (Part State) → Fraction
weighted f [] = whole 0
weighted f (p ∷ ps) = plus (times (whole p.weight) (f p.state)) (weighted f ps)

-- P holds of each part
abbrev pub EachPart : {State : Type 0} → (Part State → Type 0) → List (Part State) → Type 0
EachPart P [] = Unit {0}
EachPart P (p ∷ ps) = P p × EachPart P ps

-- a part of a state: its weight is 1 or more, its rank is lower, and its state belongs to the tree too
-- = wᵢ ≥ 1, rank sᵢ < rank s
pub record IsPart {State : Type 0} (tree : Tree State) (belongs : State → Type 0) (state : State)
    (part : Part State) : Type 0 where
  pub heavy : 1 ≤ part.weight
  pub falls : tree.rank part.state < tree.rank state
  pub member : belongs part.state

-- A state is split lawfully into these parts: the bound of the draw, which is the sum of their weights, is 1 or more and below 2^126; each
-- of them is a part of the state (`IsPart`); and for each unit, the sum of weight times value over the parts is the bound times its value
-- in the state.
-- = Σ wᵢ·vₖ(sᵢ) = b(s)·vₖ(s) for each unit k, and 1 ≤ b(s) < 2^126
-- e.g. of a at the start 1·(3/5) + 2·0 = 3·(1/5)
pub record LawfulParts {State : Type 0} (tree : Tree State) (belongs : State → Type 0)
    (state : State) (parts : List (Part State)) : Type 0 where
  pub some : 1 ≤ weight_sum parts
  pub narrow : weight_sum parts < wide_limit
  pub each : EachPart (IsPart tree belongs state) parts
  pub even : (unit : ℕ) → unit < tree.units
      → Same (weighted (λ s. tree.value s unit) parts)
      (times (whole (weight_sum parts)) (tree.value state unit))

-- the split of a state into its own parts
abbrev pub LawfulSplit : {State : Type 0} → Tree State → (State → Type 0) → State → Type 0
LawfulSplit tree belongs state = LawfulParts tree belongs state (tree.parts state)

-- in a done state each value is 1 or 0, and the units of value 1 are selected
-- = vₖ(s) = 1 or 0, as k is selected or not
-- e.g. (0,0,5,5)/5: c and d
abbrev pub LawfulEnd : {State : Type 0} → Tree State → State → Type 0
LawfulEnd tree state =
    (unit : ℕ) → unit < tree.units → Same (tree.value state unit) (whole (cond (tree.selected state unit) 1 0))

-- A tree is lawful in the states that belong to it: each that isn't done is split so, and each that is done ends so.
pub record Lawful {State : Type 0} (tree : Tree State) (belongs : State → Type 0) : Type 0 where
  pub split : (state : State) → belongs state → tree.done state ≡ false
      → LawfulParts tree belongs state (tree.parts state)
  pub end : (state : State) → belongs state → tree.done state ≡ true → LawfulEnd tree state

-- the sum of weight times a number of the part's state
abbrev pub weighted_number : {State : Type 0} → (State → ℕ) → List (Part State) → ℕ
weighted_number f [] = 0
weighted_number f (p ∷ ps) = p.weight * f p.state + weighted_number f ps
