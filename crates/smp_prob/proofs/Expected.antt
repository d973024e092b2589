-- The sum of fractions over the least common multiple of their denominators.
use Rattle.std.proofs.Common.{◌≡◌, ◌↔◌, ℕ, zero, suc, ◌+◌, ◌*◌, ◌<◌, ◌≤◌, List, length, get_or, map, take, pos, ◌*ℤ◌, arith, sym, ap, add-one}
use Rattle.std.specs.Prelude.{sum}
use Rattle.std.proofs.{lemmas.List.{get_or-map, length-map, take_all}, lemmas.List.Sums.{sum_by_more}, lemmas.Nat.Gcd.{dvd_refl}}
use Rattle.std.proofs.Math.Nat.{one-dvd}
use Rattle.smp_frac.specs.{Fractions.{Fraction, Same, whole, plus, over, sum_below, positive_one}, declared.fractions.Frac.{Frac}}
use Rattle.smp_frac.proofs.{Arithmetic.{same_sym, same_trans, plus_same}, Integers.{diff-same, diffs}, Unique.{same_frac}}
use Rattle.smp_frac.proofs.Over.{zero-over, over_from_cross, cross_from_over}
use Rattle.smp_frac.specs.{Exact.{fraction}, Laws.Lowest.{lowest_from_coprime}}
use Rattle.smp_prob.specs.Given.{IsWholeNumber, common_multiple, numerator_over, given_fraction, expected_size}
use Rattle.smp_prob.proofs.{Multiples.{common_multiple_positive, denominators_divide}, Numerators.{fraction_is_over}}

-- a whole number in lowest terms
whole_frac : ℕ → Frac
whole_frac n = record { num = n; den = 1; positive = positive_one; lowest = lowest_from_coprime n 1 (one-dvd n, dvd_refl 1, λ k kn k1. k1) }

-- a fraction in lowest terms is whole where its denominator is 1, and there only
pub whole_den : (p : Frac) → (p.den ≡ 1) ↔ IsWholeNumber (fraction p)
unfolding whole_frac
whole_den p = (
  (λ one. (p.num, record { cross = ap (λ d. pos p.num *ℤ pos d) (sym one) })),
  (λ (n, same). ap (λ (q : Frac). q.den) (same_frac p (whole_frac n) same)),
)

over_plus : (a b d : ℕ) → Same (plus (over a d) (over b d)) (over (a + b) d)
over_plus a b d = record { cross = simp diffs (diff-same _ _ _ _ (omega arith)) }

-- the fraction of a unit
pub given_fraction-at : (probs : List Frac) (unit : ℕ) (d : Frac) → unit < length probs → given_fraction probs unit ≡ fraction (get_or probs unit d)
given_fraction-at probs unit d here = get_or-map fraction probs unit d (whole 0) here

module _ (probs : List Frac) where
  abbrev multiple : ℕ
  multiple = common_multiple probs

  abbrev numerators : List ℕ
  numerators = map (numerator_over (common_multiple probs)) probs

  -- numerator / multiple is the fraction of the unit
  pub given_is_over : (unit : ℕ) → unit < length probs → Same (given_fraction probs unit) (over (get_or numerators unit 0) multiple)
  given_is_over unit here =
      let p : Frac = get_or probs unit (whole_frac 0) in
      let same = fraction_is_over multiple (get_or probs unit (whole_frac 0)) (denominators_divide probs unit (whole_frac 0) here) (common_multiple_positive probs) in
      rw (given_fraction-at probs unit (whole_frac 0) here, get_or-map (numerator_over (common_multiple probs)) probs unit (whole_frac 0) 0 here) same

  sum_of_first : (n : ℕ) → n ≤ length probs → Same (sum_below n (given_fraction probs)) (over (sum (take n numerators)) multiple)
  sum_of_first zero le = zero-over multiple
  sum_of_first (suc n) le =
      let before = sum_of_first n (omega arith) in
      let next = given_is_over n (omega (arith, le)) in
      let within : n < length numerators = omega (arith, le, length-map probs (numerator_over (common_multiple probs))) in
      let more : sum (take (suc n) numerators) ≡ sum (take n numerators) + get_or numerators n 0 = rw add-one at (sum_by_more (λ (x : ℕ). x) numerators n 0 within) in
      rw more (same_trans (plus_same before next) (over_plus (sum (take n numerators)) (get_or numerators n 0) multiple))

  pub expected_is_over : Same (expected_size probs) (over (sum numerators) multiple)
  expected_is_over =
      let all : take (length probs) numerators ≡ numerators = take_all (length probs) numerators (omega (arith, length-map probs (numerator_over (common_multiple probs)))) in
      rw all at (sum_of_first (length probs) (omega arith))

  -- the sum is the whole number n
  pub expected_whole : (n : ℕ) → Same (expected_size probs) (whole n) ↔ (n * multiple ≡ sum numerators)
  expected_whole n = (
    (λ same. (let e : n * multiple ≡ sum numerators * 1 = cross_from_over n (sum numerators) multiple 1 positive_one (common_multiple_positive probs) (same_trans (same_sym same) expected_is_over) in
        omega (arith, e))),
    (λ e. (let cross : n * multiple ≡ sum numerators * 1 = omega (arith, e) in
        same_trans expected_is_over (same_sym (over_from_cross n (sum numerators) multiple 1 positive_one (common_multiple_positive probs) cross)))),
  )

-- ---- the sum in lowest terms

pub sum_expected : (probs : List Frac) (p : Frac) (den total : ℕ) → den ≡ common_multiple probs → total ≡ sum (map (numerator_over den) probs) → Same (fraction p) (over total den) → Same (fraction p) (expected_size probs)
sum_expected probs p den total den_is total_is same =
    same_trans (rw (total_is, den_is) at same) (same_sym (expected_is_over probs))

pub whole_expected : (a : Fraction) (p : Frac) → Same (fraction p) a → (p.den ≡ 1) ↔ IsWholeNumber a
whole_expected a p same = (
  (λ one. (let is = (whole_den p).0 one in (is.0, same_trans (same_sym same) is.1))),
  (λ (n, is). (whole_den p).1 (n, same_trans same is)),
)
