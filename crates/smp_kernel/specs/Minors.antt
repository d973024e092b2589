-- Minors of columns: for each list of rows, the determinant of the columns cut to these rows, by expansion along the first column.
use Rattle.std.specs.Prelude.{◌≡◌, ◌≢◌, ℕ, zero, suc, ◌+◌, ◌*◌, ◌<◌, ◌≤◌, Bool, true, false, List, [], ◌∷◌, ◌++◌}
use Rattle.std.specs.Prelude.{ℤ, pos, neg_ℤ, ◌+ℤ◌, ◌*ℤ◌, length, slice_index_or, take}
use Rattle.std.specs.Int.RustNames.{unsigned_abs}
use Rattle.std.specs.List.{Contains}
use Prim.Native.Nat.{◌∣◌}
use Rattle.smp_kernel.specs.Vectors.{entry, dot, IsPrimitive, Within}
use Rattle.smp_frac.specs.Limits.{most_entry}
use Rattle.smp_kernel.specs.Searches.{too_wide, IsSearch}
use Rattle.smp_kernel.specs.RowReduction.{cut, AreIndependent, InForce, IsCircuit, IsRelationOn, TableFits}

-- a column before a function of lists of rows: each row is taken out in turn, with signs that alternate
abbrev pub wedge : List ℤ → List ℕ → (List ℕ → ℤ) → ℤ
wedge c [] f = pos 0
wedge c (r ∷ rows) f = entry c r *ℤ f rows +ℤ neg_ℤ (wedge c rows (λ s. f (r ∷ s)))

-- 1 where there are no rows, and 0 otherwise
abbrev pub no_rows : List ℕ → ℤ
no_rows [] = pos 1
no_rows (r ∷ rows) = pos 0

-- the minor of columns in as many rows; in more rows, or in fewer, it is 0
abbrev pub minor : List (List ℤ) → List ℕ → ℤ
minor [] rows = no_rows rows
minor (c ∷ cs) rows = wedge c rows (λ s. minor cs s)

-- the vector has the product 0 with each column
abbrev pub IsOrthogonal : List ℤ → List (List ℤ) → Type 0
IsOrthogonal e [] = Unit {0}
IsOrthogonal e (c ∷ cs) = (dot e c ≡ pos 0) × IsOrthogonal e cs

-- The law on minors. Columns have a minor other than 0 in some rows, and a primitive vector is 0 outside of these rows and has the
-- product 0 with all columns but one. Then its entry at one of the rows is at most the minor of the other columns in the other rows.
abbrev pub LawOfMinors : Type 0
LawOfMinors =
    (q : ℕ) (before after : List (List ℤ)) (column e : List ℤ) (rows : List ℕ) → IsPrimitive e
    → ((i : ℕ) → q ≤ i → entry e i ≡ pos 0)
    → IsOrthogonal e before → IsOrthogonal e after
    → ((i : ℕ) → Contains rows i → i < q)
    → ((i : ℕ) → (Contains rows i → ⊥) → entry e i ≡ pos 0)
    → minor (before ++ column ∷ after) rows ≢ pos 0
    → (xs ys : List ℕ) (x : ℕ) → rows ≡ xs ++ x ∷ ys
    → unsigned_abs (entry e x) ≤ unsigned_abs (minor (before ++ after) (xs ++ ys))

-- ---- how large they are

-- no entry is below 0, and that of row r isn't past m r
abbrev pub IsFrom : (ℕ → ℕ) → List ℤ → Type 0
IsFrom m c = (r : ℕ) → (a : ℕ) × (entry c r ≡ pos a) × (a ≤ m r)

abbrev pub AreFrom : (ℕ → ℕ) → List (List ℤ) → Type 0
AreFrom m [] = Unit {0}
AreFrom m (c ∷ cs) = IsFrom m c × AreFrom m cs

-- how many permutations of n places have the same sign, or 1: half of them all from 2 places on
abbrev pub sign_count : ℕ → ℕ
sign_count zero = 1
sign_count (suc zero) = 1
sign_count (suc (suc zero)) = 1
sign_count (suc (suc (suc n))) = (n + 3) * sign_count (suc (suc n))

-- the product of the bounds of some rows
abbrev pub row_product : (ℕ → ℕ) → List ℕ → ℕ
row_product m [] = 1
row_product m (r ∷ rows) = m r * row_product m rows

-- a minor has half of its permutations with either sign, and no product of entries passes that of the bounds
abbrev pub MinorsAreSmall : Type 0
MinorsAreSmall =
    (m : ℕ → ℕ) (columns : List (List ℤ)) → AreFrom m columns → (rows : List ℕ)
    → unsigned_abs (minor columns rows) ≤ sign_count (length rows) * row_product m rows

-- the product of the bounds of the first n rows
abbrev pub product_below : (ℕ → ℕ) → ℕ → ℕ
product_below m zero = 1
product_below m (suc n) = m n * product_below m n

-- no minor of columns of q rows with these bounds passes this
abbrev pub minor_limit : (ℕ → ℕ) → ℕ → ℕ
minor_limit m q = sign_count q * product_below m q

-- So the table of independent columns has no entry past it.
abbrev pub TablesAreSmall : Type 0
TablesAreSmall =
    (m : ℕ → ℕ) → ((r : ℕ) → 1 ≤ m r) → (q : ℕ) (columns : List (List ℤ)) → AreFrom m (cut q columns)
    → AreIndependent q (cut q columns) → TableFits (minor_limit m q) q (cut q columns)

-- And no circuit of a column that depends on them has one.
abbrev pub CircuitsAreSmall : Type 0
CircuitsAreSmall =
    (m : ℕ → ℕ) → ((r : ℕ) → 1 ≤ m r) → (q : ℕ) (columns : List (List ℤ)) (column : List ℤ) → AreFrom m (cut q columns)
    → IsFrom m (take q column) → AreIndependent q (cut q columns) → (w : List ℤ) (last : ℤ)
    → IsCircuit q (cut q columns) (take q column) w last → Within (minor_limit m q) (w ++ last ∷ [])

-- So where that is within the gate, no search through columns with these bounds is too wide.
abbrev pub NoneTooWide : Type 0
NoneTooWide =
    (m : ℕ → ℕ) → ((r : ℕ) → 1 ≤ m r) → (q : ℕ) (columns : List (List ℤ)) → AreFrom m (cut q columns)
    → minor_limit m q ≤ most_entry → IsSearch q (cut q columns) too_wide → ⊥

-- What solves some columns' sum for a whole vector: one number, no more than that limit, clears the denominators of all such solutions.
-- With the factors w of the columns and `last` of the vector, which add up to 0 in the rows in force, the solution is -w / last.
pub record HasDenominator (m : ℕ → ℕ) (q : ℕ) (columns : List (List ℤ)) : Type 0 where
  pub denominator : ℕ
  pub some : 1 ≤ denominator
  pub within : denominator ≤ minor_limit m q
  pub clears :
      (vector w : List ℤ) (last : ℤ) → IsRelationOn (InForce q) (columns ++ vector ∷ []) (w ++ last ∷ [])
      → (j : ℕ) → j < length columns → unsigned_abs last ∣ denominator * unsigned_abs (entry w j)

abbrev pub EachHasDenominator : Type 0
EachHasDenominator =
    (m : ℕ → ℕ) → ((r : ℕ) → 1 ≤ m r) → (q : ℕ) (columns : List (List ℤ)) → AreFrom m (cut q columns)
    → AreIndependent q (cut q columns) → HasDenominator m q (cut q columns)

-- ---- one relation

-- the columns at which `kept` is true
abbrev pub keep : List Bool → List (List ℤ) → List (List ℤ)
keep [] cs = []
keep (b ∷ bs) [] = []
keep (true ∷ bs) (c ∷ cs) = c ∷ keep bs cs
keep (false ∷ bs) (c ∷ cs) = keep bs cs

-- A column that depends on independent ones has one relation with them, up to a factor. So without a column whose factor isn't 0 they are
-- independent, and so are any of the rest.
abbrev pub OneRelation : Type 0
OneRelation =
    (q : ℕ) (columns : List (List ℤ)) (column : List ℤ) → AreIndependent q columns → (w : List ℤ) (last : ℤ) → last ≢ pos 0
    → IsRelationOn (InForce q) (columns ++ column ∷ []) (w ++ last ∷ [])
    → (kept : List Bool) → length kept ≡ length columns + 1 → (i : ℕ) → entry (w ++ last ∷ []) i ≢ pos 0
    → slice_index_or kept i true ≡ false → AreIndependent q (keep kept (columns ++ column ∷ []))

-- Independent columns have one relation at most in one row fewer, up to a factor; so without a column whose factor isn't 0 they, and any
-- of the rest, are independent there.
abbrev pub FewerRows : Type 0
FewerRows =
    (q : ℕ) (columns : List (List ℤ)) → AreIndependent (suc q) columns → (w : List ℤ) → IsRelationOn (InForce q) columns w
    → (kept : List Bool) → length kept ≡ length columns → (i : ℕ) → entry w i ≢ pos 0
    → slice_index_or kept i true ≡ false → AreIndependent q (keep kept columns)
