-- What the code keeps of pivotal steps.
use Rattle.std.specs.Prelude.{◌≡◌, ℕ, ◌<◌, nat_eq, nat_lt, Bool, true, if◌then◌else◌, Option, List, [], ◌∷◌, map, slice_index, take}
use Rattle.std.specs.List.{filter, list_any}
use Rattle.std.specs.Option.{option_map, unwrap_or}
use Rattle.smp_split.specs.Trees.{Part}
use Rattle.smp_split.specs.Parts.{moved}
use Rattle.smp_values.specs.Steps.{parts_on}
use Rattle.smp_values.specs.Pairs.{pair_at}
use Rattle.smp_moves.specs.Ends.{lowest}
use Rattle.smp_stratcube.specs.declared.fronts.Front.{Front}
use Rattle.smp_stratcube.specs.declared.pairs.TwoValues.{TwoValues}
use Rattle.smp_stratcube.specs.declared.values.Value.{Value}
use Rattle.smp_stratcube.specs.Units.{Units, stratum}
use Rattle.smp_stratcube.specs.Values.{over_common, stratum_common, taken_over, value}
use Rattle.smp_moves.specs.Steps.{common_multiple}

-- ---- the units of a step

-- those of a pair, or the first of these where there is none
abbrev pub units_by : Option (ℕ × ℕ) → List ℕ → List ℕ
units_by pair order = unwrap_or (option_map (λ (pair : ℕ × ℕ). pair.0 ∷ pair.1 ∷ []) pair) (take 1 order)

-- whether a unit is one of these
abbrev pub is_one_of : List ℕ → ℕ → Bool
is_one_of ks k = list_any (λ unit. nat_eq unit k) ks

-- the parts of a pivotal step of these units
abbrev pub parts_of : Units → List Value → List ℕ → List (Part (List Value))
parts_of units values ks =
    moved (taken_over (is_one_of ks) values)
    (parts_on (over_common (stratum_common units values (stratum units (slice_index ks 0))) values) ks)

-- ---- their values

-- the denominators of the values of these units that are of a stratum, and their least common multiple
abbrev pub dens_in : Units → List Value → ℕ → List ℕ → List ℕ
dens_in units values h order = map (λ k. (value values k).at.den) (filter (λ k. nat_eq (stratum units k) h) order)

abbrev pub common_in : Units → List Value → ℕ → List ℕ → ℕ
common_in units values h order = common_multiple (dens_in units values h order)

-- a unit of the front is of the stratum
pub record HasStratum (units : Units) (front : Front) (h : ℕ) : Type 0 where
  pub place : ℕ
  pub inside : place < front.number
  pub is : stratum units (slice_index front.units place) ≡ h

-- the value a / b that a step leads to
abbrev pub as_value : ℕ → ℕ → Value
as_value a b = record { at = lowest a b; touched = true }

-- two units before they meet: their numerators over the common denominator of their stratum
pub record IsMeeting (units : Units) (values : List Value) (pair : ℕ × ℕ) (two : TwoValues) : Type 0 where
  pub den : two.den ≡ stratum_common units values (stratum units pair.0)
  pub first : two.first ≡ slice_index (over_common (stratum_common units values (stratum units pair.0)) values).numer pair.0
  pub second : two.second ≡ slice_index (over_common (stratum_common units values (stratum units pair.0)) values).numer pair.1

-- the numerators of two units after they met, over the common denominator of their stratum
abbrev pub met_at : Units → List Value → ℕ × ℕ → ℕ → ℕ × ℕ
met_at units values pair draw =
    let s = over_common (stratum_common units values (stratum units pair.0)) values in
    pair_at (slice_index s.numer pair.0) (slice_index s.numer pair.1) s.den draw

-- and their values
pub record AreMet (units : Units) (values : List Value) (pair : ℕ × ℕ) (draw : ℕ) (both : Value × Value) : Type 0 where
  pub first : both.0 ≡ as_value (met_at units values pair draw).0 (stratum_common units values (stratum units pair.0))
  pub second : both.1 ≡ as_value (met_at units values pair draw).1 (stratum_common units values (stratum units pair.0))

-- the value of a unit that is settled by itself, over the same denominator
abbrev pub settled_at : Units → List Value → ℕ → ℕ → Value
settled_at units values unit draw =
    let s = over_common (stratum_common units values (stratum units unit)) values in
    as_value (if nat_lt draw (slice_index s.numer unit) then s.den else 0) s.den
