-- A row of whole numbers divided by what its entries have in common.
use Rattle.std.specs.Prelude.{◌≡◌, ℕ, zero, suc, List, ℤ, pos, ◌<ℤ◌, ◌*ℤ◌, length, map}
use Rattle.std.specs.Int.RustNames.{unsigned_abs, int_div}
use Rattle.smp_frac.specs.Limits.{most_entry}
use Rattle.smp_frac.specs.Divisors.{greatest_common_divisor}
use Rattle.smp_kernel.specs.Vectors.{entry, IsPrimitive, Within}

-- e is primitive, and some positive number times e is the row
pub record IsReduced (row e : List ℤ) : Type 0 where
  pub primitive : IsPrimitive e
  pub divisor : ℤ
  pub positive : pos 0 <ℤ divisor
  pub product : (j : ℕ) → divisor *ℤ entry e j ≡ entry row j

-- the reduced row has an entry past 2^44
pub record IsTooLong (row : List ℤ) : Type 0 where
  pub reduced : List ℤ
  pub is : IsReduced row reduced
  pub long : Within most_entry reduced → ⊥

-- ---- by division

-- the greatest common divisor of the first n entries, and 0 where these are 0
abbrev pub content_of_first : ℕ → List ℤ → ℕ
content_of_first zero row = 0
content_of_first (suc n) row =
    greatest_common_divisor (content_of_first n row) (unsigned_abs (entry row n))

-- each entry divided by g
abbrev pub quotients : ℕ → List ℤ → List ℤ
quotients g row = map (λ e. int_div e (pos g)) row

-- the row divided by the greatest common divisor of its entries, which is the one reduced row of a row that isn't 0
unfoldable pub primitive_part : List ℤ → List ℤ
primitive_part row = quotients (content_of_first (length row) row) row
