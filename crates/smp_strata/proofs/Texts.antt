-- Keys that are references to texts, as the texts.
use Rattle.std.proofs.Common.{◌≡◌, ℕ, ◌+◌, Bool, true, false, cond, not, ◌||◌, List, [], ◌∷◌, ◌++◌, map, refl, ◌∙◌, ap, sym, ◌<◌, length, get_or, take, drop, Some, slice_get, Bor}
use Rattle.std.specs.{List.{list_any, position_or_len}, Str.{bytes_eq}}
use Rattle.std.proofs.lemmas.List.{map-append, drop_more, map_more}
use Rattle.indexmap.specs.IndexSet.{insert_key}
use Rattle.smp_strata.proofs.Appearances.{with_text, with_new, one_more, place_kept}

abbrev pub Ref : Type 0
Ref = Bor (List ℕ)

abbrev pub texts : List Ref → List (List ℕ)
texts = map (λ n. n.now)

abbrev pub same_ref : Ref → Ref → Bool
same_ref x y = bytes_eq x.now y.now

any_text : (k : Ref) (ks : List Ref) → list_any (same_ref k) ks ≡ list_any (bytes_eq k.now) (texts ks)
any_text k [] = refl
any_text k (x ∷ ks) = ap (λ b. bytes_eq k.now x.now || b) (any_text k ks)

by_test : (b : Bool) (ks : List Ref) (k : Ref) → texts (cond b ks (ks ++ k ∷ [])) ≡ cond b (texts ks) (texts ks ++ k.now ∷ [])
by_test true ks k = refl
by_test false ks k = map-append (λ (n : Ref). n.now) ks (k ∷ [])

pub keys_as_texts : (ks : List Ref) (k : Ref) → texts (insert_key same_ref ks k) ≡ with_text (texts ks) k.now
keys_as_texts ks k = by_test (list_any (same_ref k) ks) ks k ∙ ap (λ b. cond b (texts ks) (texts ks ++ k.now ∷ [])) (any_text k ks)

pub place_of_text : (k : Ref) (ks : List Ref) → position_or_len (same_ref k) ks ≡ position_or_len (bytes_eq k.now) (texts ks)
place_of_text k [] = refl
place_of_text k (x ∷ ks) = ap (λ n. cond (not (bytes_eq k.now x.now)) (1 + n) 0) (place_of_text k ks)

-- one more text is taken in
module _ (rs : List Ref) (i : ℕ) (d : Ref) (here : i < length rs) (keys new all : List (List ℕ)) (new_is : new ≡ with_text keys (get_or rs i d).now) (before : with_new keys (texts (drop i rs)) ≡ all) where
  pub taken : with_new new (texts (drop (i + 1) rs)) ≡ all
  taken = rw new_is (one_more keys (get_or rs i d).now (texts (drop (i + 1) rs)) ∙ ap (λ (ys : List Ref). with_new keys (texts ys)) (sym (drop_more rs i d here)) ∙ before)

  pub numbered : (list : List ℕ) (number : ℕ) → list ≡ map (λ (t : Ref). position_or_len (bytes_eq t.now) all) (take i rs)
      → number ≡ position_or_len (bytes_eq (get_or rs i d).now) keys
      → list ++ number ∷ [] ≡ map (λ (t : Ref). position_or_len (bytes_eq t.now) all) (take (i + 1) rs)
  numbered list number list_is number_is =
      let x : List ℕ = (get_or rs i d).now in
      let place : position_or_len (bytes_eq x) all ≡ number =
      ap (position_or_len (bytes_eq x)) (sym taken ∙ ap (λ ks. with_new ks (texts (drop (i + 1) rs))) new_is)
      ∙ place_kept keys x (texts (drop (i + 1) rs)) ∙ sym number_is in
      rw (list_is, ← place) (sym (map_more (λ (t : Ref). position_or_len (bytes_eq t.now) all) rs i d here))

-- a text that is the first of those that were seen is seen, and its place is the first one
pub record IsFirst (ks : List Ref) (text : List ℕ) : Type 0 where
  pub seen : with_text (texts ks) text ≡ texts ks
  pub place : position_or_len (bytes_eq text) (texts ks) ≡ 0

pub first_of_seen : (ks : List Ref) (text : List ℕ) (first : Ref) → Some first ≡ slice_get ks 0 → bytes_eq text first.now ≡ true → IsFirst ks text
first_of_seen [] text first is same = absurd (cc is)
first_of_seen (k ∷ ks) text first is same =
    let here : bytes_eq text k.now ≡ true = ap (λ (r : Ref). bytes_eq text r.now) (sym (some_is first k is)) ∙ same in
    record { seen = rw here refl; place = rw here refl }
  where
    some_is : (x y : Ref) → Some x ≡ Some y → x ≡ y
    some_is x y h = cc h
