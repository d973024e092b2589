-- The largest of some numbers.
use Rattle.std.specs.Prelude.{ℕ, max, List, [], ◌∷◌}

-- the largest of these, or 0 where there is none
abbrev pub largest_of : List ℕ → ℕ
largest_of [] = 0
largest_of (a ∷ rest) = max a (largest_of rest)
