-- The steps of a selection that flies and then lands (Deville and Tillé 2004), as the code finds them.
use Rattle.std.specs.Prelude.{◌≡◌, ℕ, Bool, if◌then◌else◌, List, [], ◌∷◌, Option, Some, None}
use Rattle.smp_split.specs.Trees.{Part}
use Rattle.smp_split.specs.declared.kind.Kind.{Kind}
use Rattle.smp_split.specs.declared.kind.Kind.TheVariants as kind
use Rattle.smp_moves.specs.declared.steps.Next.{Next}
use Rattle.smp_moves.specs.declared.steps.Next.TheVariants as next

-- two parts, with these weights
pub record IsFork {State : Type 0} (weights : ℕ × ℕ) (parts : List (Part State)) : Type 0 where
  pub up : State
  pub down : State
  pub are : parts ≡ record { weight = weights.0; state = up } ∷ record { weight = weights.1; state = down } ∷ []

-- one part, with the weight 1
pub record IsLone {State : Type 0} (parts : List (Part State)) : Type 0 where
  pub only : State
  pub are : parts ≡ record { weight = 1; state = only } ∷ []

-- the state of the first of two parts or of the second, and that of a lone part
abbrev pub end_of : {State : Type 0} → State → List (Part State) → Bool → State
end_of default [] plus = default
end_of default (lone ∷ []) plus = lone.state
end_of default (up ∷ down ∷ parts) plus = if plus then up.state else down.state

-- the kind of a step of the flight that is found, and that it has one part, unless it is a move
abbrev pub IsStepOf : {Move State : Type 0} → Kind → List (Part State) → Option (Next Move) → Type 0
IsStepOf k parts None = Unit {0}
IsStepOf k parts (Some (next.Move m)) = k ≡ kind.Flight
IsStepOf k parts (Some next.Independent) = (k ≡ kind.Drop) × IsLone parts
IsStepOf k parts (Some next.Wide) = (k ≡ kind.Wide) × IsLone parts
