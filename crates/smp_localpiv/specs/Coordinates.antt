-- Points whose coordinates are the values of units.
use Rattle.std.specs.Prelude.{ℕ, ℤ, pos, List, map, slice_index_or}
use Rattle.std.specs.List.{range_with_len}

-- the first values as so many coordinates, 0 where there are fewer
abbrev pub point_of : ℕ → List ℤ → List ℤ
point_of count values = map (λ k. slice_index_or values k (pos 0)) (range_with_len 0 count)

-- where the units with these values lie, by so many coordinates
abbrev pub points_of : ℕ → List (List ℤ) → List (List ℤ)
points_of count values = map (point_of count) values
