-- The chosen units from a place on.
use Rattle.std.proofs.Common.{◌≡◌, ℕ, ◌+◌, ◌<◌, Bool, true, false, List, ◌∷◌, length, drop, drop-cons, get_or, add-one, refl}
use Rattle.smp_frac.specs.declared.fractions.Frac.{Frac}
use Rattle.smp_weights.specs.Chosen.{Chosen, chosen_units}

-- at a unit that is chosen, and at one that isn't
module _ {A : Type 0} (values : List A) (asked : List Frac) (chosen : List Bool) (i : ℕ) (a : A) (p : Frac) (b : Bool) (in_values : i < length values) (in_asked : i < length asked) (in_chosen : i < length chosen) where
  abbrev rest : ℕ → List (Chosen A)
  rest j = chosen_units (drop j values) (drop j asked) (drop j chosen)

  pub chosen_units-taken : get_or chosen i b ≡ true → rest i ≡ record { value = get_or values i a; asked = get_or asked i p } ∷ rest (i + 1)
  chosen_units-taken taken = rw (add-one, drop-cons values i a, drop-cons asked i p, drop-cons chosen i b, taken) refl

  pub chosen_units-skipped : get_or chosen i b ≡ false → rest i ≡ rest (i + 1)
  chosen_units-skipped skipped = rw (add-one, drop-cons values i a, drop-cons asked i p, drop-cons chosen i b, skipped) refl
