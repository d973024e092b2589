-- Units of equal sizes with few and small balancing values are narrow.
use Rattle.std.proofs.Common.{◌≡◌, ℕ, zero, suc, ◌*◌, ◌^◌, ◌<◌, ◌≤◌, pos, length, arith, refl, sym, ap, ◌∙◌, subst, inl, inr, mul-le-mul}
use Rattle.std.proofs.{lemmas.Bool.{cases_lt}, lemmas.List.{get_or_past}, lemmas.Nat.Gcd.{dvd_refl}, Math.Nat.{dvd-mul_right}}
use Prim.Native.Nat.{◌∣◌}
use Rattle.smp_kernel.specs.{Minors.{minor_limit}, Vectors.{entry}}
use Rattle.smp_kernel.proofs.TableSizes.{limit_upto}
use Rattle.smp_flight.specs.{Narrow.{AreEqualAndSmall, EqualAreNarrow, IsNarrow}, States.{Units, IsUnits, column, row_count, size}}

-- the bound of each row: 1 of the sizes, and 11,360 of the values
abbrev equal_bound : ℕ → ℕ
equal_bound zero = 1
equal_bound (suc row) = 11360

equal_some : (row : ℕ) → 1 ≤ equal_bound row
equal_some zero = omega arith
equal_some (suc row) = omega arith

-- of 4 rows: half of 4! times the product
four_rows : minor_limit equal_bound 4 ≡ 17592041472000
four_rows = refl

module _ (units : Units) (are : IsUnits units) (e : AreEqualAndSmall units) where
  at_row : (k : ℕ) → k < length units.sizes → (row : ℕ) → (a : ℕ) × (entry (column units k) row ≡ pos a) × (a ≤ equal_bound row)
  at_row k l zero = (1, are.first k l ∙ ap pos (e.equal k l), omega arith)
  at_row k l (suc row) =
      elim (cases_lt (suc row) (row_count units)) [
        | inl m ↦ e.from k l (suc row) (omega arith) m
        | inr past ↦ (0, get_or_past (column units k) (suc row) (pos 0) (omega (arith, past, are.lengths k l)), omega arith)
      ]

  few : minor_limit equal_bound (row_count units) ≤ 17592041472000
  few = (let m : minor_limit equal_bound (row_count units) ≤ minor_limit equal_bound 4 = limit_upto equal_bound equal_some (row_count units) 4 e.few_rows in omega (arith, m, four_rows))

  one_divides : (k : ℕ) → k < length units.sizes → size units k ∣ units.requested.den
  one_divides k l =
      let P : ℕ → Type 0 = λ x. x ∣ units.requested.den in
      let Q : ℕ → Type 0 = λ x. 1 ∣ x in
      let same : 1 * units.requested.den ≡ units.requested.den = omega arith in
      subst P (sym (e.equal k l)) (subst Q same (dvd-mul_right 1 units.requested.den))

  pub narrow : IsNarrow units
  narrow = record {
    bound = equal_bound;
    some_bound = equal_some;
    from = at_row;
    entries = omega (arith, few);
    multiple = units.requested.den;
    some = are.requested.positive;
    of_denominator = dvd_refl units.requested.den;
    of_sizes = one_divides;
    denominators = (let m : units.requested.den * minor_limit equal_bound (row_count units) ≤ 2 ^ 36 * 17592041472000 = mul-le-mul e.small_denominator few in omega (arith, m));
  }

pub equal_narrow : EqualAreNarrow
equal_narrow units are e = narrow units are e
