-- A sum over the rows of a frame is one over the places where the rows stand.
use Rattle.std.proofs.Common.{◌≡◌, ◌≢◌, ℕ, zero, suc, ◌<◌, cond, arith, refl, sym, ap₂, subst, ◌∙◌, inl, inr}
use Rattle.std.specs.Prelude.{nat_eq}
use Rattle.std.proofs.lemmas.Bool.{cases_Bool, cases_eq, eq-eqb, eqb-true, ne_eqb}
use Rattle.smp_frac.specs.Fractions.{Fraction, Same, sum_below, whole}
use Rattle.smp_frac.proofs.Arithmetic.{plus-zero, plus_same, same_refl, same_sym, same_trans, sum-plus, sum-zero, sum_same, zero-plus}

-- ---- one term, two sums

-- a sum of which one term alone isn't 0
only_one : (n : ℕ) (f : ℕ → Fraction) (i : ℕ) → i < n → ((j : ℕ) → j < n → j ≢ i → Same (f j) (whole 0)) → Same (sum_below n f) (f i)
only_one zero f i l none = absurd (omega (arith, l))
only_one (suc n) f i l none =
    elim (cases_eq i n) [
      | inl last ↦
          subst (λ (k : ℕ). Same (sum_below (suc n) f) (f k)) (sym last)
          (same_trans (plus_same (sum-zero n f (λ j m. none j (omega (arith, m)) (λ e. omega (arith, e, last, m)))) (same_refl (f n))) (zero-plus (f n)))
      | inr before ↦
          same_trans
          (plus_same (only_one n f i (omega (arith, l, before)) (λ j m other. none j (omega (arith, m)) other)) (none n (omega arith) (λ e. before (sym e))))
          (plus-zero (f i))
    ]

sums_cross : (n m : ℕ) (f : ℕ → ℕ → Fraction) → Same (sum_below n (λ i. sum_below m (λ j. f i j))) (sum_below m (λ j. sum_below n (λ i. f i j)))
sums_cross zero m f = same_sym (sum-zero m (λ j. whole 0) (λ j l. same_refl (whole 0)))
sums_cross (suc n) m f =
    same_trans (plus_same (sums_cross n m f) (same_refl (sum_below m (λ j. f n j)))) (same_sym (sum-plus m (λ j. sum_below n (λ i. f i j)) (λ j. f n j)))

-- ---- the rows, and the places where they stand: each place has one row

module _ (rows count : ℕ) (width : ℕ → ℕ) (first second : ℕ → ℕ) (row_of : ℕ → ℕ → ℕ)
    (within : (row : ℕ) → row < rows → (first row < count) × (second row < width (first row)))
    (stands : (h k : ℕ) → h < count → k < width h → (row_of h k < rows) × (first (row_of h k) ≡ h) × (second (row_of h k) ≡ k))
    (back : (row : ℕ) → row < rows → row_of (first row) (second row) ≡ row) (f : ℕ → ℕ → Fraction) where
  abbrev term : ℕ → ℕ → ℕ → Fraction
  term row h k = cond (nat_eq (first row) h) (cond (nat_eq (second row) k) (f h k) (whole 0)) (whole 0)

  row_is : (row : ℕ) → row < rows → Same (sum_below count (λ h. sum_below (width h) (λ k. term row h k))) (f (first row) (second row))
  row_is row l =
      let here = within row l in
      same_trans
      (only_one count (λ h. sum_below (width h) (λ k. term row h k)) (first row) here.0
      (λ h m other. sum-zero (width h) (λ k. term row h k) (λ k m'. rw (ne_eqb (first row) h (λ e. other (sym e))) (same_refl (whole 0)))))
      (same_trans
      (only_one (width (first row)) (λ k. term row (first row) k) (second row) here.1
      (λ k m other. rw (eq-eqb (first row) (first row) refl, ne_eqb (second row) k (λ e. other (sym e))) (same_refl (whole 0))))
      (rw (eq-eqb (first row) (first row) refl, eq-eqb (second row) (second row) refl) (same_refl (f (first row) (second row)))))

  place_is : (h k : ℕ) → h < count → k < width h → Same (sum_below rows (λ row. term row h k)) (f h k)
  place_is h k l m =
      let there = stands h k l m in
      same_trans
      (only_one rows (λ row. term row h k) (row_of h k) there.0
      (λ row in_rows other.
      elim (cases_Bool (nat_eq (first row) h)) [
        | inl one ↦
            elim (cases_Bool (nat_eq (second row) k)) [
              | inl two ↦ absurd (other (sym (back row in_rows) ∙ ap₂ row_of (eqb-true (first row) h one) (eqb-true (second row) k two)))
              | inr differs ↦ rw (one, differs) (same_refl (whole 0))
            ]
        | inr differs ↦ rw differs (same_refl (whole 0))
      ]))
      (rw (eq-eqb (first (row_of h k)) h there.1, eq-eqb (second (row_of h k)) k there.2) (same_refl (f h k)))

  pub over_places : Same (sum_below rows (λ row. f (first row) (second row))) (sum_below count (λ h. sum_below (width h) (λ k. f h k)))
  over_places =
      same_trans (sum_same rows (λ row. f (first row) (second row)) (λ row. sum_below count (λ h. sum_below (width h) (λ k. term row h k))) (λ row l. same_sym (row_is row l)))
      (same_trans (sums_cross rows count (λ row h. sum_below (width h) (λ k. term row h k)))
      (sum_same count (λ h. sum_below rows (λ row. sum_below (width h) (λ k. term row h k))) (λ h. sum_below (width h) (λ k. f h k))
      (λ h l. same_trans (sums_cross rows (width h) (λ row k. term row h k))
      (sum_same (width h) (λ k. sum_below rows (λ row. term row h k)) (λ k. f h k) (λ k m. place_is h k l m)))))
