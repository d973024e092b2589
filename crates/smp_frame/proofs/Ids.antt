-- The set of the ids that were seen.
use Rattle.std.proofs.Common.{◌≡◌, Bool, true, false, cond, not, ◌||◌, List, [], ◌∷◌, ◌++◌, map, refl, ◌∙◌, ap, Global, String, string_bytes, string_eq}
use Rattle.std.specs.{List.{list_any}, Str.{bytes_eq}}
use Rattle.std.proofs.lemmas.List.{map-append}
use Rattle.indexmap.specs.IndexSet.{insert_key}

abbrev Id : Type 0
Id = String Global

-- an id is among others where its text is among theirs
pub any_text : (id : Id) (ids : List Id) → list_any (string_eq id) ids ≡ list_any (bytes_eq (string_bytes id)) (map string_bytes ids)
any_text id [] = refl
any_text id (x ∷ ids) = ap (λ b. bytes_eq (string_bytes id) (string_bytes x) || b) (any_text id ids)

-- an id that is new goes last
pub added : (ids new : List Id) (id : Id) → list_any (string_eq id) ids ≡ false → new ≡ insert_key string_eq ids id → map string_bytes new ≡ map string_bytes ids ++ string_bytes id ∷ []
added ids new id free is = ap (map string_bytes) is ∙ ap (λ b. map string_bytes (cond b ids (ids ++ id ∷ []))) free ∙ map-append string_bytes ids (id ∷ [])

-- an answer that says not b, and says true
pub free : (b r : Bool) → r ≡ not b → r ≡ true → b ≡ false
free true r e h = cc
free false r e h = refl
