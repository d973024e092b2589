-- Bounds of the rows, and what they come to.
use Rattle.std.proofs.Common.{◌≡◌, ℕ, zero, suc, ◌+◌, ◌*◌, ◌<◌, ◌≤◌, max, fold, List, [], ◌∷◌, ℤ, pos, ◌≤ℤ◌, length, get_or, arith, subst, inl, inr, mul-le-mul, suc-le-suc}
use Rattle.std.specs.Int.RustNames.{unsigned_abs}
use Rattle.std.proofs.{lemmas.Bool.{cases_lt}, lemmas.Int.{ints}, lemmas.List.{get_or-map, get_or_past, length-map}}
use Rattle.std.proofs.lemmas.Nat.Gcd.{le_of_dvd}
use Rattle.smp_frac.specs.Limits.{most_denominator, most_entry}
use Rattle.smp_kernel.proofs.TableSizes.{limit_upto}
use Rattle.smp_kernel.specs.{Minors.{minor_limit, product_below, sign_count}, Vectors.{entry}}
use Rattle.smp_flight.specs.{Kept.Narrow.{IsCommonBelow, IsLeast, IsLimit, IsRowMost, row_most, row_numbers}, Narrow.{IsNarrow}}
use Rattle.smp_flight.specs.States.{Units, IsUnits, column, row_count}
use Rattle.smp_flight.proofs.Narrow.{times_more}

-- a row more: from the third on times its number, for half of the permutations
pub next_limit : (m : ℕ → ℕ) (n places : ℕ) → (n < 2 → places ≡ 1) → (2 ≤ n → places ≡ n + 1) → minor_limit m (suc n) ≡ minor_limit m n * m n * places
next_limit m zero places few many = (let e = few (omega arith) in rw e (omega arith))
next_limit m (suc zero) places few many = (let e = few (omega arith) in rw e (omega arith))
next_limit m (suc (suc n)) places few many = (let e = many (omega arith) in rw e (omega arith))

-- ---- the greatest of some numbers

from_start : (a : ℕ) (xs : List ℕ) → a ≤ fold max a xs
from_start a [] = omega arith
from_start a (x ∷ xs) = (let h = from_start (max a x) xs in omega (arith, h))

each_most : (a : ℕ) (xs : List ℕ) (i : ℕ) → i < length xs → get_or xs i 0 ≤ fold max a xs
each_most a [] i l = absurd (omega (arith, l))
each_most a (x ∷ xs) zero l = (let h = from_start (max a x) xs in omega (arith, h))
each_most a (x ∷ xs) (suc i) l = each_most (max a x) xs i (omega (arith, l))

most_least : (a b : ℕ) (xs : List ℕ) → a ≤ b → ((i : ℕ) → i < length xs → get_or xs i 0 ≤ b) → fold max a xs ≤ b
most_least a b [] l h = l
most_least a b (x ∷ xs) l h = most_least (max a x) b xs (let first = h 0 (omega arith) in omega (arith, l, first)) (λ i m. h (suc i) (suc-le-suc m))

-- a number that isn't below 0
from_zero : (z : ℤ) (b : ℕ) → pos 0 ≤ℤ z → unsigned_abs z ≤ b → (a : ℕ) × (z ≡ pos a) × (a ≤ b)
from_zero z b s l = (unsigned_abs z, omega (arith, ints), l)

small_number : (z : ℤ) (a b : ℕ) → z ≡ pos a → a ≤ b → unsigned_abs z ≤ b
small_number z a b e l = omega (arith, ints, e, l)

module _ (units : Units) (are : IsUnits units) where
  pub number_at : (row k : ℕ) → k < length units.sizes → get_or (row_numbers units row) k 0 ≡ unsigned_abs (entry (column units k) row)
  number_at row k l = get_or-map (λ c. unsigned_abs (entry c row)) units.columns k [] 0 (omega (arith, l, are.paired))

  pub row_long : (row : ℕ) → length (row_numbers units row) ≡ length units.sizes
  row_long row = omega (arith, length-map units.columns (λ c. unsigned_abs (entry c row)), are.paired)

  -- within the gates they are narrow
  pub narrow_by : (first limit multiple : ℕ) → IsRowMost units 0 first → IsLimit units (row_count units) limit → IsLeast units multiple → first * limit ≤ most_entry → multiple * limit ≤ most_denominator → IsNarrow units
  narrow_by first limit multiple f l least entries denominators = record {
    bound = row_most units;
    some_bound = λ row. from_start 1 (row_numbers units row);
    from = λ k m row. elim (cases_lt row (row_count units)) [
      | inl h ↦
          (let most = each_most 1 (row_numbers units row) k (omega (arith, m, row_long row)) in
          from_zero (entry (column units k) row) (row_most units row) (l.signs row h k m) (omega (arith, most, number_at row k m)))
      | inr past ↦ (0, get_or_past (column units k) row (pos 0) (omega (arith, past, are.lengths k m)), omega arith)
    ];
    entries = subst (λ (x : ℕ). x * minor_limit (row_most units) (row_count units) ≤ most_entry) f.is (subst (λ (x : ℕ). first * x ≤ most_entry) l.is entries);
    multiple = multiple;
    some = least.common.some;
    of_denominator = least.common.of_denominator;
    of_sizes = least.common.of_sizes;
    denominators = subst (λ (x : ℕ). multiple * x ≤ most_denominator) l.is denominators;
  }

-- ---- and where the units are narrow, they are within the gates

product_most : (m n : ℕ → ℕ) (q : ℕ) → ((r : ℕ) → m r ≤ n r) → product_below m q ≤ product_below n q
product_most m n zero h = omega arith
product_most m n (suc q) h = mul-le-mul (h q) (product_most m n q h)

module _ (units : Units) (are : IsUnits units) (n : IsNarrow units) where
  -- no number is below 0
  pub none_below : (k row : ℕ) → k < length units.sizes → (e : ℤ) → entry (column units k) row ≡ e → pos 0 ≤ℤ e
  none_below k row l e is = (let f = n.from k l row in omega (arith, ints, f.1, is))

  small_row : (row : ℕ) → row_most units row ≤ n.bound row
  small_row row =
      most_least 1 (n.bound row) (row_numbers units row) (n.some_bound row)
      (λ k m.
      (let l : k < length units.sizes = omega (arith, m, row_long units are row) in
      let f = n.from k l row in
      let small = small_number (entry (column units k) row) f.0 (n.bound row) f.1 f.2 in
      omega (arith, small, number_at units are row k l)))

  least_limit : (rows : ℕ) → minor_limit (row_most units) rows ≤ minor_limit n.bound rows
  least_limit rows = (let same : sign_count rows ≤ sign_count rows = omega arith in mul-le-mul same (product_most (row_most units) n.bound rows small_row))

  -- no limit of some rows passes the gate of entries
  pub limit_within : (rows : ℕ) → rows ≤ row_count units → minor_limit (row_most units) rows ≤ most_entry
  limit_within rows l =
      let least = least_limit rows in
      let all = limit_upto n.bound n.some_bound rows (row_count units) l in
      let first = times_more (n.bound 0) (minor_limit n.bound (row_count units)) (n.some_bound 0) in
      let e = n.entries in
      omega (arith, least, all, first, e)

  pub entries_within : row_most units 0 * minor_limit (row_most units) (row_count units) ≤ most_entry
  entries_within = (let t = mul-le-mul (small_row 0) (least_limit (row_count units)) in let e = n.entries in omega (arith, t, e))

  -- nor does the multiple pass that of denominators
  pub common_fits : n.multiple ≤ most_denominator
  common_fits =
      let same : n.multiple ≤ n.multiple = omega arith in
      let some = limit_upto n.bound n.some_bound 0 (row_count units) (omega arith) in
      let one : 1 ≤ minor_limit n.bound (row_count units) = omega (arith, some) in
      let t : n.multiple * 1 ≤ n.multiple * minor_limit n.bound (row_count units) = mul-le-mul same one in
      let d = n.denominators in
      omega (arith, t, d)

  pub denominators_within : (multiple : ℕ) → IsLeast units multiple → multiple * minor_limit (row_most units) (row_count units) ≤ most_denominator
  denominators_within multiple least =
      let common : IsCommonBelow units (length units.sizes) n.multiple = record { some = n.some; of_denominator = n.of_denominator; of_sizes = n.of_sizes } in
      let m : multiple ≤ n.multiple = le_of_dvd n.some (least.divides n.multiple common) in
      let t = mul-le-mul m (least_limit (row_count units)) in
      let d = n.denominators in
      omega (arith, t, d)
