-- The chosen units of a sample.
use Rattle.std.specs.Prelude.{◌≡◌, ◌≤◌, Bool, true, false, List, [], ◌∷◌, EachIndex, HoldsAt, slice_index_or}
use Rattle.smp_frac.specs.Fractions.{Fraction, inverse}
use Rattle.smp_frac.specs.declared.fractions.Frac.{Frac}
use Rattle.smp_frac.specs.Exact.{fraction}

-- a chosen unit: one of its values, and the inclusion probability that was asked for it
pub record Chosen (A : Type 0) : Type 0 where
  pub value : A
  pub asked : Frac

-- the design weight of a unit: the inverse of its inclusion probability (Tillé 2006)
abbrev pub weight : Frac → Fraction
weight asked = inverse (fraction asked)

-- the chosen units in order
abbrev pub chosen_units : {A : Type 0} → List A → List Frac → List Bool → List (Chosen A)
chosen_units (a ∷ values) (p ∷ asked) (true ∷ chosen) = record { value = a; asked = p } ∷ chosen_units values asked chosen
chosen_units (a ∷ values) (p ∷ asked) (false ∷ chosen) = chosen_units values asked chosen
chosen_units values asked chosen = []

-- each chosen unit has a probability above zero
abbrev pub ChosenArePositive : List Frac → List Bool → Type 0
ChosenArePositive asked chosen = EachIndex chosen (λ i. slice_index_or chosen i false ≡ true → HoldsAt (λ p. 1 ≤ p.num) asked i)
