-- What the code keeps of the first fractional units.
use Rattle.std.specs.Prelude.{◌≡◌, ◌⊎◌, ℕ, ◌-◌, ◌<◌, ◌≤◌, false, List, ◌++◌, length, slice_index, take}
use Rattle.std.specs.List.{filter, range_with_len}
use Rattle.smp_stratcube.specs.declared.fronts.Front.{Front}
use Rattle.smp_stratcube.specs.declared.values.Value.{Value}
use Rattle.smp_stratcube.specs.Values.{fractional_units, is_fractional, value}

-- the units in the first places of an array
abbrev pub front_units : Front → List ℕ
front_units front = take front.number front.units

-- the units from a place on, of so many
abbrev pub units_on : ℕ → ℕ → List ℕ
units_on place count = range_with_len place (count - place)

-- those of the units of a front that are fractional
pub record IsStanding (values : List Value) (front still : Front) : Type 0 where
  pub fewer : still.number ≤ front.number
  pub place : still.place ≡ front.place
  pub is : front_units still ≡ filter (is_fractional values) (front_units front)

-- the same units, of which 17 stand in the array, or all of them
pub record IsFilled (count : ℕ) (front full : Front) : Type 0 where
  pub short : full.number ≤ 17
  pub long : full.number ≤ length full.units
  pub within : full.place ≤ count
  pub later : front.place ≤ full.place
  pub all : front_units full ++ units_on full.place count ≡ front_units front ++ units_on front.place count
  pub enough : (full.number ≡ 17) ⊎ (full.place ≡ count)

-- The fractional units: 17 of them stand in the array, or all of them, and the others are those from the place on, which no step has
-- changed.
pub record IsFront (values : List Value) (front : Front) : Type 0 where
  pub short : front.number ≤ 17
  pub within : front.place ≤ length values
  pub inside : (j : ℕ) → j < front.number → slice_index front.units j < length values
  pub all : front_units front ++ units_on front.place (length values) ≡ fractional_units values
  pub enough : (front.number ≡ 17) ⊎ (front.place ≡ length values)
  pub fresh : (k : ℕ) → front.place ≤ k → (value values k).touched ≡ false

-- those of the units in the array that are fractional, and all from the place on, are all fractional units
pub record IsAhead (values : List Value) (front : Front) : Type 0 where
  pub short : front.number ≤ 17
  pub within : front.place ≤ length values
  pub inside : (j : ℕ) → j < front.number → slice_index front.units j < length values
  pub all :
      filter (is_fractional values) (front_units front) ++ units_on front.place (length values)
      ≡ fractional_units values
  pub fresh : (k : ℕ) → front.place ≤ k → (value values k).touched ≡ false
