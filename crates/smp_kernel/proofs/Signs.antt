-- A primitive row is, up to its sign, what is left of any multiple of it.
use Rattle.std.proofs.Common.{◌≡◌, ℕ, ◌<◌, List, length, ℤ, pos, neg_ℤ, ◌+ℤ◌, ◌*ℤ◌, ◌<ℤ◌, arith, sym, ap, subst, ◌∙◌, inl, inr}
use Rattle.std.proofs.{lemmas.Int.{ints}, lemmas.Bool.{cases_lt}, lemmas.List.{get_or_past}}
use Rattle.std.specs.Int.RustNames.{unsigned_abs}
use Rattle.smp_kernel.specs.{Kept.Steps.{cleared_row}, Reduced.{IsReduced}, Vectors.{IsPrimitive, entry, plus, times}}
use Rattle.smp_kernel.proofs.{Dot.{entry-plus, entry-times}, Ring.{neg-*ℤ}}
use lib.IntN.{*ℤ_comm}
use Prim.Native.Nat.{◌∣◌}

module _ (factor : ℤ) (row : List ℤ) (primitive : IsPrimitive row) where
  pub same_sign : pos 0 <ℤ factor → IsReduced (times factor row) row
  same_sign positive = record {
    primitive = primitive;
    divisor = factor;
    positive = positive;
    product = λ j. sym (entry-times factor row j);
  }

  pub other_sign : (turned : List ℤ) → factor <ℤ pos 0 → ((j : ℕ) → entry turned j ≡ neg_ℤ (entry row j)) → IsReduced (times factor row) turned
  other_sign turned negative each = record {
    primitive = λ d all. primitive d (λ j. subst (λ (n : ℕ). d ∣ n) (size j) (all j));
    divisor = neg_ℤ factor;
    positive = omega (arith, ints, negative);
    product = λ j. ap (λ x. neg_ℤ factor *ℤ x) (each j) ∙ both (entry row j) ∙ sym (entry-times factor row j);
  }
    where
      size : (j : ℕ) → unsigned_abs (entry turned j) ≡ unsigned_abs (entry row j)
      size j = (let e = each j in omega (arith, ints, e))

      twice : (x : ℤ) → neg_ℤ (neg_ℤ x) ≡ x
      twice x = omega (arith, ints)

      both : (x : ℤ) → neg_ℤ factor *ℤ neg_ℤ x ≡ factor *ℤ x
      both x = neg-*ℤ factor (neg_ℤ x) ∙ ap neg_ℤ (*ℤ_comm factor (neg_ℤ x) ∙ neg-*ℤ x factor ∙ ap neg_ℤ (*ℤ_comm x factor)) ∙ twice (factor *ℤ x)

-- the row with the other sign, where it has so in its places
pub turned_past : (q : ℕ) (row turned : List ℤ) → length row ≡ q → length turned ≡ q → ((i : ℕ) → i < q → entry turned i ≡ neg_ℤ (entry row i)) → (j : ℕ) → entry turned j ≡ neg_ℤ (entry row j)
turned_past q row turned lr lt each j =
    elim (cases_lt j q) [
      | inl l ↦ each j l
      | inr m ↦ get_or_past turned j (pos 0) (omega (arith, lt, m)) ∙ ap neg_ℤ (sym (get_or_past row j (pos 0) (omega (arith, lr, m))))
    ]

-- a row that the column doesn't meet is cleared where it is multiplied
pub unmet : (rows : ℕ → List ℤ) (product : ℕ → ℤ) (pivot k : ℕ) → product k ≡ pos 0
    → (j : ℕ) → entry (times (product pivot) (rows k)) j ≡ entry (cleared_row rows product pivot k) j
unmet rows product pivot k none j =
    let a : ℤ = entry (times (product pivot) (rows k)) j in
    let gone : entry (times (neg_ℤ (product k)) (rows pivot)) j ≡ pos 0 =
    entry-times (neg_ℤ (product k)) (rows pivot) j ∙ neg-*ℤ (product k) (entry (rows pivot) j) ∙ ap (λ x. neg_ℤ (x *ℤ entry (rows pivot) j)) none ∙ zero (entry (rows pivot) j) in
    sym (entry-plus (times (product pivot) (rows k)) (times (neg_ℤ (product k)) (rows pivot)) j ∙ ap (λ x. a +ℤ x) gone ∙ right a)
  where
    zero : (x : ℤ) → neg_ℤ (pos 0 *ℤ x) ≡ pos 0
    zero x = omega (arith, ints)

    right : (a : ℤ) → a +ℤ pos 0 ≡ a
    right a = omega (arith, ints)
