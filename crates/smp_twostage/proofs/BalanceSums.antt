-- Sums over the units that were drawn, as the report adds them up.
use Rattle.std.proofs.{Common.{ℕ, zero, suc, ◌+◌, ◌<◌, Bool, cond, ℤ, pos, ◌+ℤ◌, map, arith, subst, inl, inr}, lemmas.Bool.{cases_Bool}}
use Rattle.std.specs.{Prelude.{nat_eq}, List.{range_with_len}}
use Rattle.std.proofs.lemmas.Int.{ints}
use Rattle.smp_frac.specs.{Fractions.{Fraction, Same, integer, plus, sum_below, times, whole}, declared.fractions.Frac.{Frac}}
use Rattle.smp_frac.proofs.Arithmetic.{plus-zero, plus_assoc, plus_same, same_refl, same_sym, same_trans, zero-plus}
use Rattle.smp_weights.specs.{Chosen.{chosen_units, weight}, Values.{weighted_total}}
use Rattle.smp_twostage.specs.DrawnLines.{known_sum}

pub sum_first : (n : ℕ) (f : ℕ → Fraction) → Same (sum_below (suc n) f) (plus (f 0) (sum_below n (λ k. f (suc k))))
sum_first zero f = same_trans (zero-plus (f 0)) (same_sym (plus-zero (f 0)))
sum_first (suc n) f =
    same_trans (plus_same (sum_first n f) (same_refl (f (suc n)))) (plus_assoc (f 0) (sum_below n (λ k. f (suc k))) (f (suc n)))

module _ (value : ℕ → ℤ) (asked : ℕ → Frac) (chosen : ℕ → Bool) where
  abbrev pub chosen_term : ℕ → Fraction
  chosen_term row = cond (chosen row) (times (integer (value row)) (weight (asked row))) (whole 0)

  abbrev total_from : ℕ → ℕ → Fraction
  total_from from n = weighted_total (chosen_units (map value (range_with_len from n)) (map asked (range_with_len from n)) (map chosen (range_with_len from n)))

  one_more : (from n : ℕ) → Same (total_from from (suc n)) (plus (chosen_term from) (total_from (from + 1) n))
  one_more from n =
      elim (cases_Bool (chosen from)) [
        | inl is ↦ rw is (same_refl (plus (times (integer (value from)) (weight (asked from))) (total_from (from + 1) n)))
        | inr is ↦ rw is (same_sym (zero-plus (total_from (from + 1) n)))
      ]

  chosen_from : (from n : ℕ) (term : ℕ → Fraction) → ((i : ℕ) → i < n → Same (chosen_term (from + i)) (term i)) → Same (total_from from n) (sum_below n term)
  chosen_from from zero term each = same_refl (whole 0)
  chosen_from from (suc n) term each =
      let here : Same (chosen_term from) (term 0) = subst (λ (k : ℕ). Same (chosen_term k) (term 0)) (omega arith) (each 0 (omega arith)) in
      let rest = chosen_from (from + 1) n (λ i. term (suc i)) (λ i l. subst (λ (k : ℕ). Same (chosen_term k) (term (suc i))) (omega arith) (each (suc i) (omega (arith, l)))) in
      same_trans (one_more from n) (same_trans (plus_same here rest) (same_sym (sum_first n term)))

  pub chosen_sum : (n : ℕ) (term : ℕ → Fraction) → ((i : ℕ) → i < n → Same (chosen_term i) (term i)) → Same (total_from 0 n) (sum_below n term)
  chosen_sum n term each = chosen_from 0 n term (λ i l. subst (λ (k : ℕ). Same (chosen_term k) (term i)) (omega arith) (each i l))

integer_plus : (a b : ℤ) → Same (integer (a +ℤ b)) (plus (integer a) (integer b))
integer_plus a b = record { cross = omega (arith, ints) }

module _ (value : ℕ → ℤ) (asked : ℕ → Frac) where
  abbrev pub known_term : ℕ → ℤ
  known_term row = cond (nat_eq (asked row).num 0) (pos 0) (value row)

  abbrev known_rows : ℕ → ℕ → ℤ
  known_rows from n = known_sum (map asked (range_with_len from n)) (map value (range_with_len from n))

  known_from : (from n : ℕ) (term : ℕ → Fraction) → ((i : ℕ) → i < n → Same (integer (known_term (from + i))) (term i)) → Same (integer (known_rows from n)) (sum_below n term)
  known_from from zero term each = same_refl (whole 0)
  known_from from (suc n) term each =
      let here : Same (integer (known_term from)) (term 0) = subst (λ (k : ℕ). Same (integer (known_term k)) (term 0)) (omega arith) (each 0 (omega arith)) in
      let rest = known_from (from + 1) n (λ i. term (suc i)) (λ i l. subst (λ (k : ℕ). Same (integer (known_term k)) (term (suc i))) (omega arith) (each (suc i) (omega (arith, l)))) in
      same_trans (integer_plus (known_term from) (known_rows (from + 1) n)) (same_trans (plus_same here rest) (same_sym (sum_first n term)))

  pub known_all : (n : ℕ) (term : ℕ → Fraction) → ((i : ℕ) → i < n → Same (integer (known_term i)) (term i)) → Same (integer (known_rows 0 n)) (sum_below n term)
  known_all n term each = known_from 0 n term (λ i l. subst (λ (k : ℕ). Same (integer (known_term k)) (term i)) (omega arith) (each i l))
