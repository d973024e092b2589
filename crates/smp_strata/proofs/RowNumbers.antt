-- Numbers of texts, by the places of the texts.
use Rattle.std.proofs.Common.{◌≡◌, ℕ, List, [], ◌∷◌, length, map, get_or, refl, ap, ◌∙◌}
use Rattle.std.specs.{List.{position_or_len, range_with_len}, Str.{bytes_eq}}
use Rattle.smp_strata.specs.Appearances.{distinct}
use Rattle.smp_strata.proofs.{Ranges.{map_by_places}, Texts.{Ref, texts}}

map_texts : {A : Type 0} (f : List ℕ → A) (rs : List Ref) → map (λ (r : Ref). f r.now) rs ≡ map f (texts rs)
map_texts f [] = refl
map_texts f (r ∷ rs) = ap (λ xs. f r.now ∷ xs) (map_texts f rs)

pub numbers_by_places : (rs : List Ref) (ts : List (List ℕ)) (n : ℕ) → texts rs ≡ ts → length ts ≡ n
    → map (λ (r : Ref). position_or_len (bytes_eq r.now) (distinct (texts rs))) rs ≡ map (λ k. position_or_len (bytes_eq (get_or ts k [])) (distinct ts)) (range_with_len 0 n)
numbers_by_places rs ts n e long =
    rw (← e) (map_texts (λ t. position_or_len (bytes_eq t) (distinct (texts rs))) rs
    ∙ map_by_places (λ t. position_or_len (bytes_eq t) (distinct (texts rs))) (texts rs) [] n (ap length e ∙ long))
