-- Lowest terms have the value of the fraction, and no greater numbers.
use Rattle.std.proofs.{Common.{◌≡◌, ℕ, ◌*◌, ◌/◌, ◌≤◌, max, pos, arith, ap}, Math.Nat.{div-le_self, div-mul-le_self}, lemmas.Nat.{le-div}}
use Rattle.std.specs.Prelude.{unsigned_abs}
use Rattle.smp_frac.specs.{Bounds.{absolute}, Fractions.{Fraction, Same, over, positive_max}, declared.fractions.Frac.{Frac}}
use Rattle.smp_frac.proofs.{Arithmetic.{same_sym, same_trans}, Unique.{same_frac}}
use Rattle.smp_frac.specs.{Divisors.{greatest_common_divisor}, Exact.{fraction}, LowestTerms.{lowest_terms}, Laws.Lowest.{same_value}}
use Rattle.smp_frac.specs.{Laws.Coprime.{divisor_positive, part_positive}, Laws.Gcds.{IsGcd-greatest_common_divisor}}

pub lowest_terms-value : (a : Fraction) → Same (fraction (lowest_terms a)) (absolute a)
unfolding lowest_terms
lowest_terms-value a =
    let divides = IsGcd-greatest_common_divisor (unsigned_abs a.num) a.den in
    record { cross = ap pos (same_value (unsigned_abs a.num) a.den _ divides.0 divides.1) }

-- a fraction of that value is the one in lowest terms
pub same-lowest_terms : (f : Frac) (a : Fraction) → Same (fraction f) (absolute a) → f ≡ lowest_terms a
same-lowest_terms f a same = same_frac f (lowest_terms a) (same_trans same (same_sym (lowest_terms-value a)))

-- a fraction above zero stays above zero
pub lowest_terms-positive : (a : Fraction) → 1 ≤ unsigned_abs a.num → 1 ≤ (lowest_terms a).num
unfolding lowest_terms
lowest_terms-positive a some =
    part_positive (unsigned_abs a.num) _ some (IsGcd-greatest_common_divisor (unsigned_abs a.num) a.den).0

-- a fraction up to 1 stays up to 1
pub lowest_terms-at_most_one : (n d : ℕ) → n ≤ d → (lowest_terms (over n d)).num ≤ (lowest_terms (over n d)).den
unfolding lowest_terms
lowest_terms-at_most_one n d le =
    let size : ℕ = max 1 d in
    let divisor : ℕ = greatest_common_divisor n size in
    let some = divisor_positive n size divisor (positive_max d) (IsGcd-greatest_common_divisor n size) in
    let within : n / divisor * divisor ≤ n = div-mul-le_self n divisor in
    le-div (n / divisor) size divisor some (omega (arith, within, le))

pub lowest_terms-den : (n d : ℕ) → 1 ≤ d → (lowest_terms (over n d)).den ≤ d
unfolding lowest_terms
lowest_terms-den n d some =
    let one : max 1 d ≡ d = omega arith in
    let le : max 1 d / greatest_common_divisor n (max 1 d) ≤ max 1 d = div-le_self (max 1 d) (greatest_common_divisor n (max 1 d)) in
    omega (arith, one, le)
