-- Places by the numbers that stand there.
use Rattle.std.specs.Prelude.{◌≡◌, ℕ, ◌<◌, nat_eq, List, [], ◌∷◌, Option, Some, None, length, filter, slice_index}
use Rattle.std.specs.Prelude.{slice_get}
use Rattle.std.specs.List.{range_with_len}

-- the numbers of a group: a single one, or those of a list
abbrev pub numbers_in : Option ℕ → List ℕ → List ℕ
numbers_in (Some number) items = number ∷ []
numbers_in None items = items

-- the places below a limit that have a number
abbrev pub places_below : List ℕ → ℕ → ℕ → List ℕ
places_below numbers limit number =
    filter (λ place. nat_eq (slice_index numbers place) number) (range_with_len 0 limit)

-- the places that have a number
abbrev pub places_of : List ℕ → ℕ → List ℕ
places_of numbers number = places_below numbers (length numbers) number

-- where each place stands among those that have the same number
abbrev pub AreAmong : List ℕ → ℕ → List ℕ → Type 0
AreAmong numbers limit among = (place : ℕ) → place < limit
    → slice_get (places_below numbers limit (slice_index numbers place)) (slice_index among place)
    ≡ Some place
