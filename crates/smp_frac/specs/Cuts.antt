-- Bytes cut at a separator.
use Rattle.std.specs.Prelude.{ℕ, List, [], ◌∷◌, ◌==◌, Option, Some, None, option_map, if◌then◌else◌}

-- the bytes before the first separator, and those after it
abbrev pub cut_at : ℕ → List ℕ → Option (List ℕ × List ℕ)
cut_at separator [] = None
cut_at separator (b ∷ bytes) = if b == separator then Some ([], bytes) else option_map (λ p. (b ∷ p.0, p.1)) (cut_at separator bytes)
