-- The place that was found so far, and those behind it.
use Rattle.std.proofs.Common.{ℕ, List, ◌∷◌, Option, Some, None}

abbrev pub with_found : Option ℕ → List ℕ → List ℕ
with_found None places = places
with_found (Some place) places = place ∷ places
