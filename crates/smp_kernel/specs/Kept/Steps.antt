-- One step of elimination.
use Rattle.std.specs.Prelude.{◌≡◌, ◌≢◌, ℕ, ◌<◌, List, ℤ, pos, neg_ℤ, Bool, false, slice_index_or}
use Rattle.std.specs.List.{All}
use Rattle.smp_frac.specs.Limits.{most_entry}
use Rattle.smp_kernel.specs.Vectors.{entry, plus, times, Within}
use Rattle.smp_kernel.specs.Reduced.{IsReduced, IsTooLong}
use Rattle.smp_kernel.specs.Kept.Tables.{at_place}

-- the first place that isn't used and has a product other than 0
pub record IsFirstOpen (q : ℕ) (products : List ℤ) (used : List Bool) (place : ℕ) : Type 0 where
  pub in_force : place < q
  pub unused : slice_index_or used place false ≡ false
  pub meets : entry products place ≢ pos 0
  pub first : (k : ℕ) → k < place → slice_index_or used k false ≡ false → entry products k ≡ pos 0

-- row k times the product of the pivot row, less the pivot row times the product of row k
abbrev pub cleared_row : (ℕ → List ℤ) → (ℕ → ℤ) → ℕ → ℕ → List ℤ
cleared_row rows product pivot k = plus (times (product pivot) (rows k)) (times (neg_ℤ (product k)) (rows pivot))

-- the rows below n of the next table
pub record AreNextRows (n : ℕ) (rows : List (List ℤ)) (products : List ℤ) (pivot : ℕ) (next : List (List ℤ)) : Type 0 where
  pub same : at_place next pivot ≡ at_place rows pivot
  pub others : (k : ℕ) → k < n → k ≢ pivot → IsReduced (cleared_row (at_place rows) (entry products) pivot k) (at_place next k)
  pub within : All (Within most_entry) next

-- some row of the next table doesn't fit
pub record HasTooLong (q : ℕ) (rows : List (List ℤ)) (products : List ℤ) (pivot : ℕ) : Type 0 where
  pub row : ℕ
  pub in_force : row < q
  pub other : row ≢ pivot
  pub long : IsTooLong (cleared_row (at_place rows) (entry products) pivot row)
