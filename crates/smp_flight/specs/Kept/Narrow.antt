-- What the code keeps on the way to whether units are narrow.
use Rattle.std.specs.Prelude.{ℕ, ◌<◌, ◌≤◌, pos, length, ◌≤ℤ◌, ◌≡◌, List, max, ◌^◌, map}
use Rattle.std.specs.Int.RustNames.{unsigned_abs}
use Prim.Native.Nat.{◌∣◌}
use Rattle.smp_kernel.specs.Vectors.{entry}
use Rattle.smp_flight.specs.States.{Units, column, size}
use Rattle.std.specs.List.{fold}
use Rattle.smp_frac.specs.Limits.{most_entry}
use Rattle.smp_kernel.specs.Minors.{minor_limit}

-- the greatest number of a row by its absolute value, or 1
abbrev pub row_numbers : Units → ℕ → List ℕ
row_numbers units row = map (λ c. unsigned_abs (entry c row)) units.columns

abbrev pub row_most : Units → ℕ → ℕ
row_most units row = fold max 1 (row_numbers units row)

-- no number of a row is below 0, and this is the greatest
pub record IsRowMost (units : Units) (row most : ℕ) : Type 0 where
  pub is : most ≡ row_most units row
  pub signs : (k : ℕ) → k < length units.sizes → pos 0 ≤ℤ entry (column units k) row
  pub small : most < 2 ^ 32

-- no number of the first rows is below 0, and no minor of theirs passes this, which is within the gate
pub record IsLimit (units : Units) (rows limit : ℕ) : Type 0 where
  pub is : limit ≡ minor_limit (row_most units) rows
  pub signs :
      (row : ℕ) → row < rows → (k : ℕ) → k < length units.sizes → pos 0 ≤ℤ entry (column units k) row
  pub small : limit ≤ most_entry

-- a common multiple of the requested denominator and of the first n sizes
pub record IsCommonBelow (units : Units) (n multiple : ℕ) : Type 0 where
  pub some : 1 ≤ multiple
  pub of_denominator : units.requested.den ∣ multiple
  pub of_sizes : (k : ℕ) → k < n → size units k ∣ multiple

-- the least of them, which divides each
pub record IsLeastBelow (units : Units) (n multiple : ℕ) : Type 0 where
  pub common : IsCommonBelow units n multiple
  pub divides : (other : ℕ) → IsCommonBelow units n other → multiple ∣ other

-- the same of all sizes
abbrev pub IsLeast : Units → ℕ → Type 0
IsLeast units multiple = IsLeastBelow units (length units.sizes) multiple
