-- What the code keeps of the first fractional units and of a search.
use Rattle.std.specs.Prelude.{◌≡◌, ℕ, ◌++◌, ◌<◌, ◌≤◌, List, ℤ, length, slice_index, take}
use Rattle.std.specs.List.{filter}
use Rattle.smp_kernel.specs.Searched.{answer, ArePadded}
use Rattle.smp_kernel.specs.declared.searches.Searched.{Searched}
use Rattle.smp_moves.specs.Kept.Searches.{search}
use Rattle.smp_prob.specs.Shares.{Shares}
use Rattle.smp_values.specs.Values.{fractional_units, is_fractional}
use Rattle.smp_values.proofs.Units.{units_from}
use Rattle.smp_flight.specs.declared.fronts.Front.{Front}

-- the units in the first places of an array
abbrev pub front_units : Front → List ℕ
front_units front = take front.number front.units

-- the first fractional units, at most so many
pub record IsFront (s : Shares) (most : ℕ) (front : Front) : Type 0 where
  pub short : front.number ≤ most
  pub is : front_units front ≡ take most (fractional_units s)

-- those of the units that are fractional, and all from the place on, are all fractional units
pub record IsAhead (s : Shares) (front : Front) : Type 0 where
  pub short : front.number ≤ 17
  pub within : (j : ℕ) → j < front.number → slice_index front.units j < length s.numer
  pub all :
      filter (is_fractional s) (front_units front) ++ units_from s front.place
      ≡ fractional_units s

-- the units of another front that are still fractional
pub record IsStanding (s : Shares) (front still : Front) : Type 0 where
  pub fewer : still.number ≤ front.number
  pub place : still.place ≡ front.place
  pub is : front_units still ≡ filter (is_fractional s) (front_units front)

-- a search as its function has it, with factors that are 0 in the places past them
pub record IsSearched (q : ℕ) (columns : List (List ℤ)) (result : Searched) : Type 0 where
  pub is : answer result ≡ search q columns
  pub padded : ArePadded q result
