-- What the code keeps of a line.
use Rattle.std.specs.Prelude.{◌≡◌, ℕ, ◌*◌, ◌/◌, ◌<◌, ◌≤◌, List, ℤ, length, slice_index, slice_index_or, take}
use Rattle.smp_frac.specs.Limits.{most_entry}
use Rattle.smp_kernel.specs.Searches.{found}
use Rattle.smp_kernel.specs.Vectors.{entry}
use Rattle.smp_moves.specs.declared.lines.Ratio.{Ratio}
use Rattle.smp_moves.specs.declared.lines.Line.{Line as LineOfPlaces}
use Rattle.smp_stratcube.specs.declared.fronts.Front.{Front}
use Rattle.smp_stratcube.specs.Units.{Units, share}
use Rattle.smp_stratcube.specs.Values.{fractional_units}
use Rattle.smp_stratcube.specs.States.{Flight}
use Rattle.smp_stratcube.specs.Moves.{setting_of}
use Rattle.smp_moves.specs.Steps.{Finds, product}
use Rattle.smp_moves.specs.Kept.Computed.{IsLineOf}

-- the units of a front are among so many
pub record AreInside (count : ℕ) (front : Front) : Type 0 where
  pub short : front.number ≤ 17
  pub inside : (j : ℕ) → j < front.number → slice_index front.units j < count

-- where there is no product
abbrev pub no_part : Ratio
no_part = record { num = 0; den = 0 }

abbrev pub part : List Ratio → ℕ → Ratio
part parts j = slice_index_or parts j no_part

-- the products of the first so many units with their factors
abbrev pub AreParts : Units → List ℕ → List ℤ → ℕ → List Ratio → Type 0
AreParts units order w number parts =
    (j : ℕ) → j < number → part parts j ≡ product (share units (slice_index order j)) (entry w j)

-- a product of a probability and a factor: it is at most the factor
pub record IsPart (r : Ratio) : Type 0 where
  pub some : 1 ≤ r.den
  pub most : r.num ≤ r.den * most_entry

-- its numerator over a multiple of its denominator
abbrev pub over : Ratio → ℕ → ℕ
over r den = r.num * (den / r.den)

-- the line is that of a circuit which the search finds
pub record HasDirection (units : Units) (f : Flight) (line : LineOfPlaces) : Type 0 where
  pub circuit : List ℤ
  pub finds : Finds (setting_of units) f (fractional_units f.values) (found circuit)
  pub is_line : IsLineOf (share units) (take (length circuit) (fractional_units f.values)) circuit line
