-- The texts that were seen, after one more.
use Rattle.std.specs.Prelude.{ℕ, List, [], ◌∷◌, ◌++◌, if◌then◌else◌}
use Rattle.std.specs.List.{list_any}
use Rattle.std.specs.Str.{bytes_eq}

abbrev pub with_text : List (List ℕ) → List ℕ → List (List ℕ)
with_text seen text = if list_any (bytes_eq text) seen then seen else seen ++ text ∷ []
