-- Pivotal steps, stratum by stratum (Deville and Tillé 1998), on values of which each stands over its own denominator.
use Rattle.std.specs.Prelude.{◌≡◌, ◌⊎◌, ℕ, ◌<◌, ◌≤◌, nat_eq, if◌then◌else◌, true, Option, Some, None, List, [], ◌∷◌, slice_index, take}
use Rattle.std.specs.List.{list_any}
use Rattle.std.specs.Option.{option_map, unwrap_or}
use Rattle.smp_split.specs.Trees.{Part}
use Rattle.smp_split.specs.Parts.{moved}
use Rattle.smp_values.specs.Steps.{parts_on}
use Rattle.smp_stratcube.specs.declared.values.Value.{Value}
use Rattle.smp_stratcube.specs.Units.{Units, stratum}
use Rattle.smp_stratcube.specs.Values.{fractional_units, is_fractional, over_common, stratum_common, taken_over}

-- The first two neighbours of one stratum. Units stand stratum by stratum, so among fractional units they are the first two of the
-- first stratum that has two.
abbrev pub first_pair : Units → List ℕ → Option (ℕ × ℕ)
first_pair units [] = None
first_pair units (i ∷ []) = None
first_pair units (i ∷ j ∷ rest) =
    if nat_eq (stratum units i) (stratum units j) then Some (i, j)
    else first_pair units (j ∷ rest)

-- the units of a pivotal step: that pair, or the first fractional unit alone where there is none
abbrev pub step_units : Units → List Value → List ℕ
step_units units values =
    unwrap_or (option_map (λ (pair : ℕ × ℕ). pair.0 ∷ pair.1 ∷ []) (first_pair units (fractional_units values)))
    (take 1 (fractional_units values))

-- the parts of a pivotal step: its units take over their new values over the least common denominator of their stratum's fractional values
abbrev pub paired_parts : Units → List Value → List (Part (List Value))
paired_parts units values =
    let ks = step_units units values in
    let den = stratum_common units values (stratum units (slice_index ks 0)) in
    moved (taken_over (λ k. list_any (λ unit. nat_eq unit k) ks) values) (parts_on (over_common den values) ks)

-- The pair of a pivotal step: the first two fractional units of a stratum, before which no stratum has two.
pub record IsFirstPair (units : Units) (values : List Value) (pair : ℕ × ℕ) : Type 0 where
  pub first_open : is_fractional values pair.0 ≡ true
  pub second_open : is_fractional values pair.1 ≡ true
  pub in_order : pair.0 < pair.1
  pub same : stratum units pair.0 ≡ stratum units pair.1
  pub first_two : (k : ℕ) → is_fractional values k ≡ true → stratum units k ≡ stratum units pair.0
      → (k ≡ pair.0) ⊎ (pair.1 ≤ k)
  pub first_stratum : (j k : ℕ) → j < k → is_fractional values j ≡ true → is_fractional values k ≡ true
      → stratum units j ≡ stratum units k → stratum units pair.0 ≤ stratum units j

-- there is such a pair, or no two fractional units are of one stratum
abbrev pub IsPairOf : Units → List Value → Option (ℕ × ℕ) → Type 0
IsPairOf units values (Some pair) = IsFirstPair units values pair
IsPairOf units values None =
    (j k : ℕ) → is_fractional values j ≡ true → is_fractional values k ≡ true
    → stratum units j ≡ stratum units k → j ≡ k
