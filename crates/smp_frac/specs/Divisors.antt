-- Common divisors and common multiples.
use Rattle.std.specs.Prelude.{ℕ, zero, suc, ◌%◌, ◌<◌, ◌≤◌, max, nat_eq, Bool, ◌&&◌, if◌then◌else◌, List, ℤ, pos}
use Rattle.std.specs.Prelude.{length, slice_index_or}
use Rattle.std.specs.Int.RustNames.{unsigned_abs}
use Prim.Native.Nat.{◌∣◌}

-- whether d, from 1 on, divides both a and b
abbrev pub divides_both : ℕ → ℕ → ℕ → Bool
divides_both a b d = nat_eq (a % d) 0 && nat_eq (b % d) 0

-- the greatest number from 1 to the last one that divides both a and b, 0 where there is none
abbrev pub greatest_up_to : ℕ → ℕ → ℕ → ℕ
greatest_up_to a b zero = 0
greatest_up_to a b (suc n) = if divides_both a b (suc n) then suc n else greatest_up_to a b n

-- the greatest common divisor of a and b, 0 where both are 0
-- = gcd(a, b)
-- e.g. of 6 and 10: 2
unfoldable pub greatest_common_divisor : ℕ → ℕ → ℕ
greatest_common_divisor a b = greatest_up_to a b (max a b)

-- a and b both divide m, which is at least 1
pub record IsCommonMultiple (a b m : ℕ) : Type 0 where
  pub positive : 1 ≤ m
  pub first : a ∣ m
  pub second : b ∣ m

-- m is a common multiple of a and b that divides each of their common multiples
pub record IsLeastMultiple (a b m : ℕ) : Type 0 where
  pub common : IsCommonMultiple a b m
  pub least : (n : ℕ) → IsCommonMultiple a b n → m ∣ n

-- d divides each of the first n entries
abbrev pub DividesFirst : ℕ → List ℤ → ℕ → Type 0
DividesFirst n row d = (i : ℕ) → i < n → d ∣ unsigned_abs (slice_index_or row i (pos 0))

-- g divides each of the first n entries, and each number that does so divides g
abbrev pub IsContentOfFirst : ℕ → List ℤ → ℕ → Type 0
IsContentOfFirst n row g = DividesFirst n row g × ((d : ℕ) → DividesFirst n row d → d ∣ g)

-- the greatest common divisor of all entries
abbrev pub IsContent : List ℤ → ℕ → Type 0
IsContent row g = IsContentOfFirst (length row) row g
