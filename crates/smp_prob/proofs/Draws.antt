-- The draws that numerators over a denominator share, and what their shapes are out of.
use Rattle.std.proofs.Common.{◌≡◌, ◌↔◌, ℕ, ◌*◌, ◌/◌, ◌%◌, ◌^◌, ◌<◌, ◌≤◌, zero, suc, true, List, [], ◌∷◌, length, arith, refl, ap, inl, inr}
use Rattle.std.specs.Prelude.{sum, slice_index, EachIndex, All}
use Rattle.std.proofs.{lemmas.Bool.{cases_Bool, eqb-true, eq-eqb}, lemmas.List.Elements.{All-from_get_or}}
use Rattle.std.proofs.lemmas.List.Sums.{get_or-le-sum_by, sum_by-le}
use Rattle.std.proofs.lemmas.Nat.Gcd.{dvd_of_mod-eq-zero, mod-eq-zero_of_dvd, le_of_dvd, dvd-zero}
use Rattle.std.proofs.Math.Nat.{div-mul_cancel, div-le_of_le-mul, div-le_self, mul-lt-mul_of_pos_left, dvd-mul_left}
use Prim.Native.Nat.{◌∣◌}
use Rattle.smp_frac.specs.Limits.{most_rows}
use Rattle.smp_prob.specs.{Shapes.{size_divisor, shape_of}, Given.{has_whole_sum, draws, out_of, largest_multiple}}
use Rattle.smp_prob.proofs.ShapeLemmas.{divides_each, divisor_positive, length-shape_of, shape-divisor, total-divisor, shape_below, shape_small, sum_narrow}

module _ (den : ℕ) (numerators : List ℕ) where
  pub whole-divides : has_whole_sum den numerators ≡ true → den ∣ sum numerators
  whole-divides e = dvd_of_mod-eq-zero den (eqb-true (sum numerators % den) 0 e)

  pub divides-whole : den ∣ sum numerators → has_whole_sum den numerators ≡ true
  divides-whole divides = eq-eqb (sum numerators % den) 0 (mod-eq-zero_of_dvd den divides)

  -- a whole sum, times the denominator
  pub whole-draws : has_whole_sum den numerators ≡ true → draws den numerators * den ≡ sum numerators
  whole-draws e = rw e (div-mul_cancel den (whole-divides e))

  -- where the shapes add up to what they are out of, the sum is whole, and the other way round
  pub whole-shapes : (sum (shape_of numerators) ≡ out_of den numerators) ↔ (has_whole_sum den numerators ≡ true)
  whole-shapes = (
    (λ same. elim (cases_Bool (has_whole_sum den numerators)) [
      | inl e ↦ e
      | inr e ↦
          (let out : sum (shape_of numerators) ≡ den = rw e at same in
          let all : size_divisor numerators * den ≡ sum numerators = omega (arith, total-divisor numerators, ap (λ x. x * size_divisor numerators) out) in
          divides-whole (rw (← all) (dvd-mul_left den (size_divisor numerators))))
    ]),
    (λ e. rw e refl),
  )

  -- shape * draws / what they are out of is numerator / denominator
  pub share-cross : EachIndex numerators (λ i. slice_index (shape_of numerators) i * draws den numerators * den ≡ slice_index numerators i * out_of den numerators)
  share-cross i here =
      let shape = shape-divisor numerators i here in
      elim (cases_Bool (has_whole_sum den numerators)) [
        | inl e ↦
            (let drawn : sum numerators / den * den ≡ sum numerators = div-mul_cancel den (whole-divides e) in
            let total = total-divisor numerators in
            let s : ℕ = slice_index (shape_of numerators) i in
            let one : s * (sum numerators / den * den) ≡ s * sum numerators = ap (λ x. s * x) drawn in
            let two : s * (sum (shape_of numerators) * size_divisor numerators) ≡ s * sum numerators = ap (λ x. s * x) total in
            let three : s * size_divisor numerators * sum (shape_of numerators) ≡ slice_index numerators i * sum (shape_of numerators) = ap (λ x. x * sum (shape_of numerators)) shape in
            rw e (omega (arith, one, two, three)))
        | inr e ↦ rw e (ap (λ x. x * den) shape)
      ]

  module _ (positive : EachIndex numerators (λ i. 1 ≤ slice_index numerators i)) where
    some_sum : 1 ≤ length numerators → 1 ≤ sum numerators
    some_sum some = omega (arith, positive 0 some, get_or-le-sum_by (λ (x : ℕ). x) numerators 0 0 some)

    pub draws_positive : 1 ≤ length numerators → 1 ≤ draws den numerators
    draws_positive some =
        elim (cases_Bool (has_whole_sum den numerators)) [
          | inl e ↦ some_draws (draws den numerators) (whole-draws e)
          | inr e ↦ rw e (divisor_positive numerators 0 some (positive 0 some))
        ]
      where
        some_draws : (s : ℕ) → s * den ≡ sum numerators → 1 ≤ s
        some_draws zero all = absurd (omega (arith, all, some_sum some))
        some_draws (suc s) all = omega arith

    pub share_below : EachIndex numerators (λ i. slice_index numerators i < den) → EachIndex numerators (λ i. slice_index (shape_of numerators) i * draws den numerators < out_of den numerators)
    share_below below i here =
        elim (cases_Bool (has_whole_sum den numerators)) [
          | inl e ↦
              (let more : draws den numerators * slice_index numerators i < draws den numerators * den = mul-lt-mul_of_pos_left (below i here) (draws_positive (omega arith)) in
              let less : draws den numerators * slice_index numerators i < sum numerators = omega (arith, more, whole-draws e) in
              rw e (shape_below numerators i here (sum numerators / den) (rw e at less)))
          | inr e ↦ rw e (omega (arith, shape-divisor numerators i here, below i here))
        ]

    -- the draws are few, and so are what the shapes are out of
    module _ (within : EachIndex numerators (λ i. slice_index numerators i ≤ den)) (few : length numerators ≤ most_rows) (small : den ≤ largest_multiple) where
      pub narrow : EachIndex numerators (λ i. slice_index numerators i < 2 ^ 31)
      narrow i here = omega (arith, within i here, small)

      pub whole_few : sum numerators / den ≤ 200000
      whole_few =
          let each : All (λ x. x ≤ den) numerators = All-from_get_or (λ x. x ≤ den) numerators 0 within in
          let all : sum numerators ≤ length numerators * den = sum_by-le (λ (x : ℕ). x) den numerators each in
          let le : sum numerators / den ≤ length numerators = div-le_of_le-mul den (omega (arith, all)) in
          omega (arith, le, few)

      pub divisor_narrow : size_divisor numerators < 2 ^ 31
      divisor_narrow = by_list numerators positive narrow
        where
          by_list : (xs : List ℕ) → EachIndex xs (λ i. 1 ≤ slice_index xs i) → EachIndex xs (λ i. slice_index xs i < 2 ^ 31) → size_divisor xs < 2 ^ 31
          by_list [] some below = omega arith
          by_list (x ∷ xs) some below =
              let le : size_divisor (x ∷ xs) ≤ x = le_of_dvd (some 0 (omega arith)) (divides_each 0 (x ∷ xs) 0 (omega arith)) in
              omega (arith, le, below 0 (omega arith))

      pub out_narrow : out_of den numerators < 2 ^ 49
      out_narrow =
          elim (cases_Bool (has_whole_sum den numerators)) [
            | inl e ↦ rw e (sum_narrow (shape_of numerators) (omega (arith, few, length-shape_of numerators)) (shape_small numerators narrow))
            | inr e ↦ rw e (omega (arith, small))
          ]

-- nothing is drawn where there are no numerators
pub no_draws : (den : ℕ) (numerators : List ℕ) → length numerators ≡ 0 → (draws den numerators ≡ 0) × (out_of den numerators ≡ 0)
no_draws den (x ∷ xs) none = absurd (omega (arith, none))
no_draws den [] none =
    let e : has_whole_sum den [] ≡ true = divides-whole den [] (dvd-zero den) in
    rw e (zero_over den, refl)
  where
    zero_over : (d : ℕ) → 0 / d ≡ 0
    zero_over d = omega (arith, div-le_self 0 d)
