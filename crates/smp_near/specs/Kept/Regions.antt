-- Ranges of coordinates, and the least squared distance that a point within them may have.
use Rattle.std.specs.Prelude.{ℕ, ◌+◌, ◌*◌, ◌≤◌, ◌<◌, ℤ, pos, ◌-ℤ◌, ◌≤ℤ◌, unsigned_abs, int_lt}
use Rattle.std.specs.Prelude.{if◌then◌else◌, List, [], ◌∷◌, length, slice_index_or}
use Rattle.smp_near.specs.declared.region.Region.{Region}

-- the square of the distance of a coordinate from a range
abbrev pub squared_gap : ℤ → ℤ → ℤ → ℕ
squared_gap lowest highest a =
    if int_lt a lowest then unsigned_abs (lowest -ℤ a) * unsigned_abs (lowest -ℤ a)
    else if int_lt highest a then unsigned_abs (a -ℤ highest) * unsigned_abs (a -ℤ highest)
    else 0

-- the sum of these squares
abbrev pub region_distance : List ℤ → List ℤ → List ℤ → ℕ
region_distance [] highest at = 0
region_distance (l ∷ ls) [] at = 0
region_distance (l ∷ ls) (h ∷ hs) [] = 0
region_distance (l ∷ ls) (h ∷ hs) (a ∷ rest) = squared_gap l h a + region_distance ls hs rest

-- each coordinate lies in its range
pub record IsWithin (lowest at highest : List ℤ) : Type 0 where
  pub long : length lowest ≤ length at
  pub above : (axis : ℕ) → axis < length lowest → slice_index_or lowest axis (pos 0) ≤ℤ slice_index_or at axis (pos 0)
  pub below : (axis : ℕ) → axis < length lowest → slice_index_or at axis (pos 0) ≤ℤ slice_index_or highest axis (pos 0)

-- a point with these coordinates and this number lies in a region
pub record IsIn {K : ℕ} (region : Region K) (at : List ℤ) (unit : ℕ) : Type 0 where
  pub within : IsWithin region.lowest at region.highest
  pub first : region.first ≤ unit
