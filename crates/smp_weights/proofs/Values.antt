-- What a total is worth, by the laws of fractions.
use Rattle.std.proofs.Common.{◌≡◌, zero, suc, true, false, List, [], ◌∷◌, ℤ, pos, negsuc, Result, Ok, Err, IfOk, arith}
use Rattle.std.proofs.{lemmas.Bool.Decides.{nat_tests}, lemmas.Result.{IfOk-weaker}}
use Rattle.std.specs.{Prelude.{unsigned_abs}, Int.{is_negative, is_positive}}
use Rattle.smp_frac.specs.{declared.fractions.Frac.{Frac}, declared.fractions.Wide.{Wide}, declared.signed.Signed.{Signed}, Faults.{◌>>=◌}}
use Rattle.smp_frac.specs.{Exact.{fraction, signed_fraction}, Fractions.{Fraction, Same, whole, integer, negated, plus, times}}
use Rattle.smp_frac.proofs.Arithmetic.{same_refl, same_sym, same_trans, plus_same, times_same, plus_swap, plus_assoc, plus_left_comm, plus_negated, plus_cancel, plus_minus, plus-zero, zero-plus, zero-times, zero-plus-zero}
use Rattle.smp_frac.specs.LowestTerms.{lowest_terms}
use Rattle.smp_weights.specs.{Arithmetic.{sum_of, difference_of}, Chosen.{Chosen, weight}, Values.{weighted_total}}
use Rattle.smp_weights.specs.Totals as Totals
use Rattle.smp_weights.specs.Totals.{term_of, with_term, with_terms, total_of, gains, losses, estimate_of}
use Rattle.smp_frac.proofs.LowestTerms.{lowest_terms-value}
use Rattle.smp_weights.proofs.Arithmetic.{product_value, sum_value, difference_value}

-- ---- sums of terms

-- the size of a unit's value, times its weight
abbrev sized : Chosen ℤ → Fraction
sized u = times (whole (unsigned_abs u.value)) (weight u.asked)

abbrev sized_sum : List (Chosen ℤ) → Fraction
sized_sum [] = whole 0
sized_sum (u ∷ us) = plus (sized u) (sized_sum us)

-- what holds of the results of the first step, and then of those of the next
then_holds : {A B : Type 0} (r : Result A Wide) (next : A → Result B Wide) (P : A → Type 0) (Q : B → Type 0) → IfOk r P → ((a : A) → P a → IfOk (next a) Q) → IfOk (r >>= next) Q
then_holds (Ok a) next P Q h k = k a h
then_holds (Err w) next P Q h k = tt

term_value : (u : Chosen ℤ) → IfOk (term_of u) (λ f. Same (fraction f) (sized u))
term_value u =
    let p = lowest_terms (integer u.value) in
    let q = lowest_terms (weight u.asked) in
    IfOk-weaker (term_of u) _ _
    (λ f same. same_trans same (times_same (lowest_terms-value (integer u.value)) (lowest_terms-value (weight u.asked))))
    (product_value p q)

with_term_value : (total : Frac) (u : Chosen ℤ) → IfOk (with_term total u) (λ s. Same (fraction s) (plus (fraction total) (sized u)))
with_term_value total u =
    then_holds (term_of u) (sum_of total) (λ f. Same (fraction f) (sized u)) _ (term_value u)
    (λ term same. IfOk-weaker (sum_of total term) _ _ (λ s value. same_trans value (plus_same (same_refl (fraction total)) same)) (sum_value total term))

with_terms_value : (total : Frac) (us : List (Chosen ℤ)) → IfOk (with_terms total us) (λ s. Same (fraction s) (plus (fraction total) (sized_sum us)))
with_terms_value total [] = same_sym (plus-zero (fraction total))
with_terms_value total (u ∷ us) =
    then_holds (with_term total u) (λ next. with_terms next us) (λ next. Same (fraction next) (plus (fraction total) (sized u))) _ (with_term_value total u)
    (λ next same. IfOk-weaker (with_terms next us) _ _
    (λ s value. same_trans value (same_trans (plus_same same (same_refl (sized_sum us))) (plus_assoc (fraction total) (sized u) (sized_sum us))))
    (with_terms_value next us))

total_value : (us : List (Chosen ℤ)) → IfOk (total_of us) (λ s. Same (fraction s) (sized_sum us))
total_value us =
    IfOk-weaker (total_of us) _ _
    (λ s value. same_trans value (same_trans (plus_same (lowest_terms-value (whole 0)) (same_refl (sized_sum us))) (zero-plus (sized_sum us))))
    (with_terms_value Totals.zero us)

-- the units above zero have the weighted total and what those below it take off
unit_parts : (z : ℤ) (p : Frac) (us : List (Chosen ℤ)) → Same (plus (sized_sum (losses us)) (weighted_total us)) (sized_sum (gains us))
    → Same (plus (sized_sum (losses (record { value = z; asked = p } ∷ us))) (weighted_total (record { value = z; asked = p } ∷ us))) (sized_sum (gains (record { value = z; asked = p } ∷ us)))
unit_parts (pos zero) p us h =
    same_trans (plus_same (same_refl (sized_sum (losses us))) (same_trans (plus_same (zero-times (weight p)) (same_refl (weighted_total us))) (zero-plus (weighted_total us)))) h
unit_parts (pos (suc n)) p us h =
    let term = times (whole (suc n)) (weight p) in
    let above : is_positive (pos (suc n)) ≡ true = grind (arith, nat_tests) in
    let not_below : is_negative (pos (suc n)) ≡ false = grind (arith, nat_tests) in
    rw (above, not_below) (same_trans (plus_left_comm (sized_sum (losses us)) term (weighted_total us)) (plus_same (same_refl term) h))
unit_parts (negsuc n) p us h =
    let term = times (whole (suc n)) (weight p) in
    same_trans (plus_swap term (sized_sum (losses us)) (negated term) (weighted_total us))
    (same_trans (plus_same (plus_negated term) h) (zero-plus (sized_sum (gains us))))

parts_value : (us : List (Chosen ℤ)) → Same (plus (sized_sum (losses us)) (weighted_total us)) (sized_sum (gains us))
parts_value [] = zero-plus-zero
parts_value (u ∷ us) = unit_parts u.value u.asked us (parts_value us)

-- ---- the difference of the sums

difference_of_sums : (us : List (Chosen ℤ)) (above below : Frac) → Same (fraction above) (sized_sum (gains us)) → Same (fraction below) (sized_sum (losses us)) → IfOk (difference_of above below) (λ d. Same (signed_fraction d) (weighted_total us))
difference_of_sums us p q above below =
    IfOk-weaker (difference_of p q) _ _
    (λ d value. plus_cancel (fraction q) (signed_fraction d) (weighted_total us)
    (same_trans (plus_same (same_refl (fraction q)) value)
    (same_trans (plus_minus (fraction p) (fraction q))
    (same_trans above
    (same_trans (same_sym (parts_value us)) (plus_same (same_sym below) (same_refl (weighted_total us))))))))
    (difference_value p q)

-- an estimate is the weighted total
pub estimate_value : (us : List (Chosen ℤ)) → IfOk (estimate_of us) (λ d. Same (signed_fraction d) (weighted_total us))
estimate_value us =
    let IsWeighted : Signed → Type 0 = λ d. Same (signed_fraction d) (weighted_total us) in
    then_holds (total_of (gains us)) _ (λ s. Same (fraction s) (sized_sum (gains us))) IsWeighted (total_value (gains us))
    (λ p above. then_holds (total_of (losses us)) (difference_of p) (λ s. Same (fraction s) (sized_sum (losses us))) IsWeighted (total_value (losses us))
    (λ q below. difference_of_sums us p q above below))
