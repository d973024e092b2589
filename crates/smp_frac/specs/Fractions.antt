-- Fractions: a whole number over a positive one, of any size. Two are the same where their cross products are equal.
use Rattle.std.specs.Prelude.{◌≡◌, ℕ, zero, suc, ◌*◌, ◌≤◌, max, ℤ, pos, negsuc, neg_ℤ, ◌+ℤ◌, ◌*ℤ◌}
use Rattle.std.specs.Prelude.{◌≤ℤ◌, ◌<ℤ◌}
use Rattle.std.proofs.Common.{arith}

-- a whole number over a positive one
-- = num/den
-- e.g. 3/5
pub record Fraction : Type 0 where
  pub num : ℤ
  pub den : ℕ
  pub positive : 1 ≤ den

-- both are the same number
-- = a = b as numbers: a.num·b.den = b.num·a.den
-- e.g. Same (9/15) (3/5)
pub record Same (a b : Fraction) : Type 0 where
  pub cross : a.num *ℤ pos b.den ≡ b.num *ℤ pos a.den

-- a is at most b
pub record AtMost (a b : Fraction) : Type 0 where
  pub cross : (a.num *ℤ pos b.den) ≤ℤ (b.num *ℤ pos a.den)

-- a is less than b
-- = a < b
pub record LessThan (a b : Fraction) : Type 0 where
  pub cross : (a.num *ℤ pos b.den) <ℤ (b.num *ℤ pos a.den)

pub positive_product : (m n : ℕ) → 1 ≤ m → 1 ≤ n → 1 ≤ m * n
positive_product m n p q = grind arith

pub positive_max : (n : ℕ) → 1 ≤ max 1 n
positive_max n = omega arith

pub positive_one : 1 ≤ 1
positive_one = omega arith

-- a whole number
-- = n/1
abbrev pub whole : ℕ → Fraction
whole n = record { num = pos n; den = 1; positive = positive_one }

-- a whole number of any sign
-- = z/1
abbrev pub integer : ℤ → Fraction
integer z = record { num = z; den = 1; positive = positive_one }

-- the opposite of a fraction
-- = -a
abbrev pub negated : Fraction → Fraction
negated a = record { num = neg_ℤ a.num; den = a.den; positive = a.positive }

-- the sum of two fractions
-- = a + b
-- e.g. 1/5 + 2/5 is 15/25
abbrev pub plus : Fraction → Fraction → Fraction
plus a b = record {
  num = a.num *ℤ pos b.den +ℤ b.num *ℤ pos a.den;
  den = a.den * b.den;
  positive = positive_product a.den b.den a.positive b.positive;
}

-- a less b
abbrev pub minus : Fraction → Fraction → Fraction
minus a b = plus a (negated b)

-- the product of two fractions
-- = a·b
-- e.g. 2·(3/5) is 6/5
abbrev pub times : Fraction → Fraction → Fraction
times a b = record { num = a.num *ℤ b.num; den = a.den * b.den; positive = positive_product a.den b.den a.positive b.positive }

-- a divided by a whole number, of which 0 counts as 1
-- = a/n
-- e.g. (9/5)/3 is 9/15
abbrev pub divided : Fraction → ℕ → Fraction
divided a n = record { num = a.num; den = a.den * max 1 n; positive = positive_product a.den (max 1 n) a.positive (positive_max n) }

-- n over d, of which 0 counts as 1
-- = n/d
-- e.g. over 6 10 is 6/10
abbrev pub over : ℕ → ℕ → Fraction
over n d = record { num = pos n; den = max 1 d; positive = positive_max d }

-- d over a whole number of any sign, of which 0 counts as 1
-- = d/z
abbrev pub over_integer : ℕ → ℤ → Fraction
over_integer d (pos n) = over d n
over_integer d (negsuc n) = negated (over d (suc n))

-- one divided by a fraction, and of 0 its denominator
-- = 1/a; of 0 it is the denominator over 1
-- e.g. of 6/10 it is 10/6
abbrev pub inverse : Fraction → Fraction
inverse a = over_integer a.den a.num

-- the sum of f over the numbers below n
-- = Σ f(i), i < n
abbrev pub sum_below : ℕ → (ℕ → Fraction) → Fraction
sum_below zero f = whole 0
sum_below (suc n) f = plus (sum_below n f) (f n)
