-- A pivotal step on a pair of units (Deville and Tillé 1998). The two have the values a and b, numerators over den.
-- One of them gets all that both have, up to den, and the other what is left; the weights keep the mean of each.
use Rattle.std.specs.Prelude.{ℕ, ◌+◌, ◌-◌, min, nat_lt, nat_le, if◌then◌else◌}
use Rattle.smp_values.specs.declared.pairs.TwoWeights.{TwoWeights}

-- the weights of the two parts of a step on two units, whose values are a and b over den (Deville and Tillé 1998)
-- = (a, b) where a + b ≤ D, else (D - b, D - a)
-- e.g. of 1 and 2 over 5: 1 and 2; of 3 and 3: 2 and 2
abbrev pub pair_weights : ℕ → ℕ → ℕ → TwoWeights
pair_weights a b den =
    if nat_le (a + b) den then record { first = a; second = b } else record { first = den - b; second = den - a }

-- the bound of the draw
-- e.g. of 1 and 2: 3; of 3 and 3: 4
abbrev pub pair_bound : ℕ → ℕ → ℕ → ℕ
pair_bound a b den = (pair_weights a b den).first + (pair_weights a b den).second

-- what one of the two takes: all that both have, up to den
-- = min(a + b, D)
-- e.g. of 1 and 2: 3; of 3 and 3: 5
abbrev pub taken : ℕ → ℕ → ℕ → ℕ
taken a b den = min (a + b) den

-- what is left for the other, or 0
-- = max(a + b - D, 0)
-- e.g. of 1 and 2: 0; of 3 and 3: 1
abbrev pub left : ℕ → ℕ → ℕ → ℕ
left a b den = a + b - den

-- the numerators of both units where the first one takes
-- = (taken, left)
-- e.g. of 1 and 2: (3, 0)
abbrev pub pair_first : ℕ → ℕ → ℕ → ℕ × ℕ
pair_first a b den = (taken a b den, left a b den)

-- the numerators of both units where the second one takes
-- = (left, taken)
-- e.g. of 1 and 2: (0, 3)
abbrev pub pair_second : ℕ → ℕ → ℕ → ℕ × ℕ
pair_second a b den = (left a b den, taken a b den)

-- the values that a draw leads to
abbrev pub pair_at : ℕ → ℕ → ℕ → ℕ → ℕ × ℕ
pair_at a b den draw =
    if nat_lt draw (pair_weights a b den).first then pair_first a b den else pair_second a b den
