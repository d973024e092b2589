-- The weighted total as an exact fraction.
use Rattle.std.specs.Prelude.{List, [], ◌∷◌, ℤ}
use Rattle.smp_frac.specs.Fractions.{Fraction, whole, integer, plus, times}
use Rattle.smp_weights.specs.Chosen.{Chosen, weight}

-- the sum of the values, each times the weight of its unit (Horvitz and Thompson 1952)
abbrev pub weighted_total : List (Chosen ℤ) → Fraction
weighted_total [] = whole 0
weighted_total (u ∷ us) = plus (times (integer u.value) (weight u.asked)) (weighted_total us)
