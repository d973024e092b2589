-- Shapes: sizes in lowest terms, which probabilities are in proportion to.
use Rattle.std.specs.Prelude.{ℕ, ◌/◌, List, map, fold}
use Rattle.smp_frac.specs.Divisors.{greatest_common_divisor}

-- the greatest common divisor of all sizes, 0 where there are none
abbrev pub size_divisor : List ℕ → ℕ
size_divisor sizes = fold greatest_common_divisor 0 sizes

-- the sizes, each divided by their greatest common divisor
abbrev pub shape_of : List ℕ → List ℕ
shape_of sizes = map (λ size. size / size_divisor sizes) sizes
