-- Texts that are taken in one after another, each once, are the distinct ones in order of first appearance.
use Rattle.std.proofs.Common.{◌≡◌, ℕ, ◌+◌, Bool, true, false, cond, not, ◌&&◌, ◌||◌, List, [], ◌∷◌, ◌++◌, filter, refl, sym, ap, ◌∙◌, inl, inr, true≢false}
use Rattle.std.specs.{List.{list_any, position_or_len}, Str.{bytes_eq}}
use Rattle.std.proofs.{lemmas.Bool.{cases_Bool}, lemmas.Slice.Eq.{bytes_eq-Decides}, lemmas.List.{append_assoc}}
use Rattle.std.proofs.lemmas.List.Folds.{list_any-append}
use Rattle.smp_strata.specs.Appearances.{distinct}

-- a text is among those that were seen
abbrev pub is_seen : List (List ℕ) → List ℕ → Bool
is_seen seen text = list_any (bytes_eq text) seen

-- the texts that were seen, and then the distinct ones of these that weren't
abbrev pub with_new : List (List ℕ) → List (List ℕ) → List (List ℕ)
with_new seen texts = seen ++ filter (λ text. not (is_seen seen text)) (distinct texts)

-- the texts that were seen after one more
abbrev pub with_text : List (List ℕ) → List ℕ → List (List ℕ)
with_text seen text = cond (is_seen seen text) seen (seen ++ text ∷ [])

-- two filters are one
filter_twice : {X : Type 0} (p q r : X → Bool) → ((x : X) → r x ≡ (p x && q x)) → (xs : List X) → filter p (filter q xs) ≡ filter r xs
filter_twice p q r h [] = refl
filter_twice p q r h (x ∷ xs) =
    elim (cases_Bool (q x)) [
      | inl e ↦ elim (cases_Bool (p x)) [
        | inl f ↦ rw (h x, e, f) (ap (λ ys. x ∷ ys) (filter_twice p q r h xs))
        | inr f ↦ rw (h x, e, f) (filter_twice p q r h xs)
      ]
      | inr e ↦ elim (cases_Bool (p x)) [
        | inl f ↦ rw (h x, e, f) (filter_twice p q r h xs)
        | inr f ↦ rw (h x, e, f) (filter_twice p q r h xs)
      ]
    ]

pub same_text : (a b : List ℕ) → bytes_eq a b ≡ true → a ≡ b
same_text a b e = (bytes_eq-Decides a b).0 e

-- the test of two texts doesn't depend on their order
eq_sym : (a b : List ℕ) → bytes_eq a b ≡ bytes_eq b a
eq_sym a b =
    elim (cases_Bool (bytes_eq a b)) [
      | inl e ↦ e ∙ sym ((bytes_eq-Decides b a).1 (sym (same_text a b e)))
      | inr e ↦ elim (cases_Bool (bytes_eq b a)) [
        | inl f ↦ absurd (true≢false (sym ((bytes_eq-Decides a b).1 (sym (same_text b a f))) ∙ e))
        | inr f ↦ e ∙ sym f
      ]
    ]

and_true : (b : Bool) → b ≡ (b && true)
and_true true = refl
and_true false = refl

and_false : (b : Bool) → false ≡ (b && false)
and_false true = refl
and_false false = refl

not_or : (a b : Bool) → not (a || (b || false)) ≡ (not a && not b)
not_or true true = refl
not_or true false = refl
not_or false true = refl
not_or false false = refl

module _ (seen : List (List ℕ)) (text : List ℕ) where
  is_new : List ℕ → Bool
  is_new other = not (is_seen seen other)

  differs : List ℕ → Bool
  differs other = not (bytes_eq text other)

  -- a text that was seen is among no others
  old_differs : is_seen seen text ≡ true → (other : List ℕ) → not (is_seen seen other) ≡ (not (is_seen seen other) && not (bytes_eq text other))
  old_differs old other =
      elim (cases_Bool (bytes_eq text other)) [
        | inl e ↦ (let seen_too : is_seen seen other ≡ true = rw (← same_text text other e) old in rw (e, seen_too) refl)
        | inr e ↦ rw e (and_true (not (is_seen seen other)))
      ]

  new_differs : (other : List ℕ) → not (is_seen (seen ++ text ∷ []) other) ≡ (not (is_seen seen other) && not (bytes_eq text other))
  new_differs other =
      ap not (list_any-append (bytes_eq other) seen (text ∷ []))
      ∙ rw (eq_sym text other) (not_or (is_seen seen other) (bytes_eq other text))

  pub one_more : (texts : List (List ℕ)) → with_new (with_text seen text) texts ≡ with_new seen (text ∷ texts)
  one_more texts =
      elim (cases_Bool (is_seen seen text)) [
        | inl e ↦
            rw e (ap (λ rest. seen ++ rest) (sym (filter_twice (λ t. not (is_seen seen t)) (λ t. not (bytes_eq text t)) (λ t. not (is_seen seen t)) (old_differs e) (distinct texts))))
        | inr e ↦
            rw e (append_assoc seen (text ∷ []) (filter (λ t. not (is_seen (seen ++ text ∷ []) t)) (distinct texts))
            ∙ ap (λ rest. seen ++ text ∷ rest) (sym (filter_twice (λ t. not (is_seen seen t)) (λ t. not (bytes_eq text t)) (λ t. not (is_seen (seen ++ text ∷ []) t)) new_differs (distinct texts))))
      ]

all_new : (texts : List (List ℕ)) → filter (λ t. not (is_seen [] t)) texts ≡ texts
all_new [] = refl
all_new (t ∷ texts) = ap (λ rest. t ∷ rest) (all_new texts)

-- before the first text, and after the last
pub none_seen : (texts : List (List ℕ)) → with_new [] texts ≡ distinct texts
none_seen texts = all_new (distinct texts)

-- ---- the place of a text stays

module _ {X : Type 0} (test : X → Bool) where
  place_before : (seen more : List X) → list_any test seen ≡ true → position_or_len test (seen ++ more) ≡ position_or_len test seen
  place_before [] more h = absurd (true≢false (sym h))
  place_before (x ∷ seen) more h =
      elim (cases_Bool (test x)) [
        | inl e ↦ rw e refl
        | inr e ↦ rw e (ap (λ n. 1 + n) (place_before seen more (rw e at h)))
      ]

  place_last : (seen : List X) (x : X) (more : List X) → list_any test seen ≡ false → test x ≡ true → position_or_len test (seen ++ x ∷ more) ≡ position_or_len test seen
  place_last [] x more h is = rw is refl
  place_last (y ∷ seen) x more h is =
      elim (cases_Bool (test y)) [
        | inl e ↦ absurd (true≢false (rw e at h))
        | inr e ↦ rw e (ap (λ n. 1 + n) (place_last seen x more (rw e at h) is))
      ]

-- the place that a text has when it is taken in is its place among all
pub place_kept : (seen : List (List ℕ)) (text : List ℕ) (texts : List (List ℕ))
    → position_or_len (bytes_eq text) (with_new (with_text seen text) texts) ≡ position_or_len (bytes_eq text) seen
place_kept seen text texts =
    elim (cases_Bool (is_seen seen text)) [
      | inl e ↦ rw e (place_before (bytes_eq text) seen _ e)
      | inr e ↦
          rw e (ap (position_or_len (bytes_eq text)) (append_assoc seen (text ∷ []) (filter (λ t. not (is_seen (seen ++ text ∷ []) t)) (distinct texts)))
          ∙ place_last (bytes_eq text) seen text _ e ((bytes_eq-Decides text text).1 refl))
    ]
