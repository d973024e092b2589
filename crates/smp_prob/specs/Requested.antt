-- Requested inclusion probabilities of n units: in proportion to size, as far as no probability passes 1 (Tillé 2006).
use Rattle.std.specs.Prelude.{◌≡◌, ◌⊎◌, ℕ, ◌+◌, ◌-◌, ◌*◌, ◌≤◌, ◌<◌, Bool, not, nat_lt, nat_le, ◌&&◌}
use Rattle.std.specs.Prelude.{if◌then◌else◌, List, [], ◌∷◌, slice_index, drop, sum, sum_by, count_by, filter}
use Rattle.smp_frac.specs.Fractions.{Fraction, whole, over}
use Rattle.smp_prob.specs.declared.requests.Request.{Request}
use Rattle.smp_prob.specs.Shapes.{shape_of}

-- how many sizes are larger than z
-- = #{x > z}
-- e.g. of 3 it is 1
abbrev pub larger : List ℕ → ℕ → ℕ
larger sizes z = count_by (nat_lt z) sizes

-- the sum of the sizes that are no larger than z
-- = Σ x over x ≤ z
-- e.g. of 4 it is 10, of 3 it is 6
abbrev pub rest : List ℕ → ℕ → ℕ
rest sizes z = sum_by (λ x. if nat_lt z x then 0 else x) sizes

-- A unit of size z is certain where its share of the draws that the larger units leave is at least one. The test reads the size alone, so
-- units of equal size are certain together; `FirstAreCertain` says it of the sizes in falling order.
-- = (n - #{x > z})·z ≥ Σ{x ≤ z} x, and z > 0
-- e.g. of 4 not: 2·4 < 10
abbrev pub is_certain : ℕ → List ℕ → ℕ → Bool
is_certain n sizes z = nat_lt 0 z && nat_le (rest sizes z) ((n - larger sizes z) * z)

-- a unit of size 0 is neither certain nor free
abbrev pub is_free : ℕ → List ℕ → ℕ → Bool
is_free n sizes z = nat_lt 0 z && not (is_certain n sizes z)

-- how many sizes are above 0
abbrev pub positive_units : List ℕ → ℕ
positive_units sizes = count_by (nat_lt 0) sizes

-- how many units are certain
-- = c = #{certain}
-- e.g. 0
abbrev pub certain_units : ℕ → List ℕ → ℕ
certain_units n sizes = count_by (is_certain n sizes) sizes

-- the sum of the sizes of the units that aren't certain
-- = R = Σ of the sizes that aren't certain
-- e.g. 10
abbrev pub open_total : ℕ → List ℕ → ℕ
open_total n sizes = sum_by (λ x. if is_certain n sizes x then 0 else x) sizes

-- the places of the entries that pass a test, where the first entry has the given place
abbrev pub places : {A : Type 0} → (A → Bool) → ℕ → List A → List ℕ
places test place [] = []
places test place (x ∷ xs) = if test x then place ∷ places test (place + 1) xs else places test (place + 1) xs

-- the sizes of the free units
abbrev pub free_sizes : ℕ → List ℕ → List ℕ
free_sizes n sizes = filter (is_free n sizes) sizes

-- the probability that is requested of a unit of size z: 1 where it is certain, 0 where it has no size, and else z times the draws that
-- the certain units leave, divided by the sum of the sizes that aren't certain
-- = π = (n - c)·z/R, or 1 where z is certain
-- e.g. of c: 2·3/10 = 6/10 = 3/5
abbrev pub requested_fraction : ℕ → List ℕ → ℕ → Fraction
requested_fraction n sizes z =
    if is_certain n sizes z then whole 1
    else if nat_lt 0 z then over ((n - certain_units n sizes) * z) (open_total n sizes)
    else whole 0

-- the request for n units
abbrev pub requested_of : List ℕ → ℕ → Request
requested_of sizes n = record {
  certain = places (is_certain n sizes) 0 sizes;
  free = places (is_free n sizes) 0 sizes;
  shape = shape_of (free_sizes n sizes);
  r = n - certain_units n sizes;
  total = sum (shape_of (free_sizes n sizes));
}

-- ---- the rule by the sizes in falling order

abbrev pub IsFalling : List ℕ → Type 0
IsFalling zs = (i j : ℕ) → i ≤ j → slice_index zs j ≤ slice_index zs i

-- whether the rule stops at c: c is n, or the next size, times the draws left, is below the sum of the sizes past the first c
abbrev pub Stops : ℕ → List ℕ → ℕ → Type 0
Stops n zs c = (c ≡ n) ⊎ ((n - c) * slice_index zs c < sum (drop c zs))

-- the least number at which it stops
pub record IsLeastCut (n : ℕ) (zs : List ℕ) (c : ℕ) : Type 0 where
  pub stops : Stops n zs c
  pub least : (d : ℕ) → d < c → ¬ Stops n zs d

-- the same by the sizes in falling order, zs: the first ones are certain, up to the least cut
pub record FirstAreCertain (n : ℕ) (sizes zs : List ℕ) : Type 0 where
  pub least : IsLeastCut n zs (certain_units n sizes)
  pub certain : (k : ℕ) → is_certain n sizes (slice_index zs k) ≡ nat_lt k (certain_units n sizes)
  pub left : open_total n sizes ≡ sum (drop (certain_units n sizes) zs)
