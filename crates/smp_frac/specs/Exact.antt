-- Frac and Signed as fractions, a fraction in decimal, and the numbers that sums, products and differences need.
use Rattle.std.specs.Prelude.{ℕ, ◌+◌, ◌*◌, ◌/◌, max, ℤ, pos, negsuc, unsigned_abs, if◌then◌else◌, List, [], ◌++◌}
use Rattle.std.specs.Prelude.{codes}
use Rattle.std.specs.Int.{abs_diff}
use Rattle.std.specs.Fmt.{decimal}
use Rattle.smp_frac.specs.Fractions.{Fraction, negated}
use Rattle.smp_frac.specs.declared.fractions.Frac.{Frac}
use Rattle.smp_frac.specs.declared.signed.Signed.{Signed}
use Rattle.smp_frac.specs.Divisors.{greatest_common_divisor}

-- the value of a fraction of the code
-- = num/den
abbrev pub fraction : Frac → Fraction
fraction f = record { num = pos f.num; den = f.den; positive = f.positive }

-- the value of a fraction of the code with a sign
abbrev pub signed_fraction : Signed → Fraction
signed_fraction d = if d.minus then negated (fraction d.size) else fraction d.size

-- n over d in lowest terms, in decimal
-- e.g. of 10 and 6: `5/3`
abbrev pub lowest_text : ℕ → ℕ → List ℕ
lowest_text n d =
    let divisor = greatest_common_divisor n d in decimal (n / divisor) ++ codes "/" ++ decimal (d / divisor)

-- a minus where a number is below zero
abbrev pub sign_text : ℤ → List ℕ
sign_text (pos n) = []
sign_text (negsuc n) = codes "-"

-- a fraction in lowest terms, in decimal
-- e.g. of 10/6: `5/3`
abbrev pub fraction_text : Fraction → List ℕ
fraction_text a = sign_text a.num ++ lowest_text (unsigned_abs a.num) a.den

-- the numerator of p over the least common multiple of the denominators of p and q
abbrev pub first_term : Frac → Frac → ℕ
first_term p q = p.num * (q.den / greatest_common_divisor p.den q.den)

-- the numerator of q over the least common multiple of the denominators of p and q
abbrev pub second_term : Frac → Frac → ℕ
second_term p q = q.num * (p.den / greatest_common_divisor p.den q.den)

-- the denominator in lowest terms of n over that least common multiple
abbrev pub reduced_denominator : ℕ → Frac → Frac → ℕ
reduced_denominator n p q =
    let common = greatest_common_divisor p.den q.den in p.den / common * (q.den / greatest_common_divisor n common)

-- the greatest number that a sum needs
abbrev pub sum_size : Frac → Frac → ℕ
sum_size p q =
    let numerator = first_term p q + second_term p q in max numerator (reduced_denominator numerator p q)

-- the greatest number that a difference needs
abbrev pub difference_size : Frac → Frac → ℕ
difference_size p q =
    max (max (first_term p q) (second_term p q)) (reduced_denominator (abs_diff (first_term p q) (second_term p q)) p q)

-- the greater of the numerator and the denominator of a product in lowest terms
abbrev pub product_size : Frac → Frac → ℕ
product_size p q =
    let divisor = greatest_common_divisor (p.num * q.num) (p.den * q.den) in
    max (p.num * q.num / divisor) (p.den * q.den / divisor)
