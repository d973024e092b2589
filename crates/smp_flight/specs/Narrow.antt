-- Units whose numbers are so small that no number of the flight passes its gate.
use Rattle.std.specs.Prelude.{◌≡◌, ℕ, ◌*◌, ◌^◌, ◌<◌, ◌≤◌, List, ℤ, pos, length}
use Prim.Native.Nat.{◌∣◌}
use Rattle.smp_frac.specs.Limits.{most_entry, most_denominator}
use Rattle.smp_kernel.specs.Minors.{IsFrom, minor_limit}
use Rattle.smp_kernel.specs.Searches.{found}
use Rattle.smp_kernel.specs.Vectors.{entry}
use Rattle.smp_prob.specs.Shares.{Shares}
use Rattle.smp_moves.specs.Moves.{IsOrder, Move}
use Rattle.smp_flight.specs.States.{Units, Flight, IsFlight, IsUnits, column, row_count, size}
use Rattle.smp_moves.specs.Steps.{Finds, IsMove, IsWide}
use Rattle.smp_flight.specs.Moves.{setting_of}

-- The bound of each row is at least 1, and the numbers of each unit lie from 0 to it. So a minor of all rows, times the bound of the
-- sizes, is within the gate of entries, and times a common multiple of the requested denominator and of the sizes within that of
-- denominators. Where some bounds and some multiple are, so are the greatest number of each row, or 1, and the least common multiple: no
-- others are less.
pub record IsNarrow (units : Units) : Type 0 where
  pub bound : ℕ → ℕ
  pub some_bound : (row : ℕ) → 1 ≤ bound row
  pub from : (k : ℕ) → k < length units.sizes → IsFrom bound (column units k)
  pub entries : bound 0 * minor_limit bound (row_count units) ≤ most_entry
  pub multiple : ℕ
  pub some : 1 ≤ multiple
  pub of_denominator : units.requested.den ∣ multiple
  pub of_sizes : (k : ℕ) → k < length units.sizes → size units k ∣ multiple
  pub denominators : multiple * minor_limit bound (row_count units) ≤ most_denominator

-- units of equal sizes, of at most three balancing values each, which lie from 0 to 11,360: of three, 12 times the product is at most 2^44,
-- and no more with 11,361
pub record AreEqualAndSmall (units : Units) : Type 0 where
  pub equal : (k : ℕ) → k < length units.sizes → size units k ≡ 1
  pub few_rows : row_count units ≤ 4
  pub from : (k : ℕ) → k < length units.sizes → (row : ℕ) → 1 ≤ row → row < row_count units
      → (a : ℕ) × (entry (column units k) row ≡ pos a) × (a ≤ 11360)
  pub small_denominator : units.requested.den ≤ 2 ^ 36

abbrev pub EqualAreNarrow : Type 0
EqualAreNarrow = (units : Units) → IsUnits units → AreEqualAndSmall units → IsNarrow units

-- where a step is wide all the same, it is by the denominator of an end of its move
pub record IsWideByDenominator (units : Units) (s : Flight) (order : List ℕ) : Type 0 where
  pub circuit : List ℤ
  pub finds : Finds (setting_of units) s order (found circuit)
  pub m : Move
  pub plus_end : Shares
  pub minus_end : Shares
  pub is : IsMove (setting_of units) s.values order circuit m plus_end minus_end
  pub wide : plus_end.den ≤ most_denominator → minus_end.den ≤ most_denominator → ⊥

abbrev pub OnlyDenominatorsAreWide : Type 0
OnlyDenominatorsAreWide =
    (units : Units) → IsNarrow units → (s : Flight) (order : List ℕ) → IsFlight units s → IsOrder s.values order
    → IsWide (setting_of units) s order → IsWideByDenominator units s order
