-- Exact arithmetic on fractions in lowest terms.
use Rattle.std.specs.Prelude.{ℕ, nat_lt, if◌then◌else◌, Result, Ok, Err}
use Rattle.std.specs.Int.{is_negative}
use Rattle.smp_frac.specs.Limits.{wide_limit}
use Rattle.smp_frac.specs.Fractions.{Fraction, plus, minus, times}
use Rattle.smp_frac.specs.declared.fractions.Frac.{Frac}
use Rattle.smp_frac.specs.declared.fractions.Wide.{Wide}
use Rattle.smp_frac.specs.declared.signed.Signed.{Signed}
use Rattle.smp_frac.specs.Exact.{fraction, product_size, sum_size, difference_size}
use Rattle.smp_frac.specs.LowestTerms.{lowest_terms}
use Rattle.smp_weights.specs.Signs.{numerator_positive}

-- a fraction in lowest terms with its sign
abbrev pub signed_lowest_terms : Fraction → Signed
signed_lowest_terms a = record {
  minus = is_negative a.num;
  size = lowest_terms a;
  sign = numerator_positive a.num a.den a.positive;
}

-- a result, where the greatest number that it needs is below 2^126, and else `Wide`
abbrev pub within_limit : {A : Type 0} → ℕ → A → Result A Wide
within_limit needed result = if nat_lt needed wide_limit then Ok result else Err (record {})

-- the product of two fractions, within the limit
abbrev pub product_of : Frac → Frac → Result Frac Wide
product_of p q = within_limit (product_size p q) (lowest_terms (times (fraction p) (fraction q)))

-- the sum of two fractions, within the limit
abbrev pub sum_of : Frac → Frac → Result Frac Wide
sum_of p q = within_limit (sum_size p q) (lowest_terms (plus (fraction p) (fraction q)))

-- the second of two fractions taken from the first, within the limit
abbrev pub difference_of : Frac → Frac → Result Signed Wide
difference_of p q =
    within_limit (difference_size p q) (signed_lowest_terms (minus (fraction p) (fraction q)))
