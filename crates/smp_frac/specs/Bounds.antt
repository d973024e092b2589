-- How far apart two fractions are.
use Rattle.std.specs.Prelude.{ℕ, ◌+◌, pos}
use Rattle.std.specs.Int.RustNames.{unsigned_abs}
use Rattle.smp_frac.specs.Fractions.{Fraction, AtMost, LessThan, whole, plus}

-- the absolute value
abbrev pub absolute : Fraction → Fraction
absolute a = record { num = pos (unsigned_abs a.num); den = a.den; positive = a.positive }

-- a and b differ by at most e
pub record DifferByAtMost (e a b : Fraction) : Type 0 where
  pub above : AtMost a (plus b e)
  pub below : AtMost b (plus a e)

-- n is a where that is whole, and else one of the two whole numbers around it
-- = |n - a| < 1
-- e.g. 2, 3 are around 5/2
pub record IsAround (n : ℕ) (a : Fraction) : Type 0 where
  pub above : LessThan a (whole (n + 1))
  pub below : LessThan (whole n) (plus a (whole 1))
