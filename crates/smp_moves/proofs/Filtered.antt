-- Filtered lists of units.
use Rattle.std.proofs.Common.{◌≡◌, ℕ, suc, ◌+◌, ◌<◌, ◌≤◌, Bool, true, false, List, [], ◌∷◌, ◌++◌, take, set, length, get_or, arith, refl, sym, ap, ◌∙◌, inl, inr, suc-le-suc, length-set}
use Rattle.std.specs.List.{filter}
use Rattle.std.proofs.{lemmas.Bool.{cases_Bool}, lemmas.List.{append-nil, take_more_set}, lemmas.List.Elements.{filter_more}}

-- by two tests, of which the second implies the first
pub filter_twice : (p q : ℕ → Bool) → ((k : ℕ) → q k ≡ true → p k ≡ true) → (xs : List ℕ) → filter q (filter p xs) ≡ filter q xs
filter_twice p q h [] = refl
filter_twice p q h (x ∷ xs) =
    elim (cases_Bool (q x)) [
      | inl t ↦ rw (h x t, t) (ap (λ zs. x ∷ zs) (filter_twice p q h xs))
      | inr f ↦ elim (cases_Bool (p x)) [
        | inl t ↦ rw (t, f) (filter_twice p q h xs)
        | inr g ↦ rw (g, f) (filter_twice p q h xs)
      ]
    ]

pub filter_all : (p : ℕ → Bool) (xs : List ℕ) → ((i : ℕ) → i < length xs → p (get_or xs i 0) ≡ true) → filter p xs ≡ xs
filter_all p [] h = refl
filter_all p (x ∷ xs) h = rw (h 0 (omega arith)) (ap (λ zs. x ∷ zs) (filter_all p xs (λ i l. h (suc i) (suc-le-suc l))))

pub filter_none : (p : ℕ → Bool) (xs : List ℕ) → ((i : ℕ) → i < length xs → p (get_or xs i 0) ≡ false) → filter p xs ≡ []
filter_none p [] h = refl
filter_none p (x ∷ xs) h = rw (h 0 (omega arith)) (filter_none p xs (λ i l. h (suc i) (suc-le-suc l)))

-- ---- the units of an array that pass a test, in another

-- those of the first j, in the first places of the other array, which has room for n
pub record AreKept (p : ℕ → Bool) (n : ℕ) (us : List ℕ) (j : ℕ) (kept : List ℕ) (number : ℕ) : Type 0 where
  pub room : n ≤ length kept
  pub few : number ≤ j
  pub all : take number kept ≡ filter p (take j us)

module _ (p : ℕ → Bool) (n : ℕ) (us : List ℕ) (j : ℕ) (here : j < n) (inside : j < length us) (kept : List ℕ) (number : ℕ) (is : AreKept p n us j kept number) where
  pub kept_in : p (get_or us j 0) ≡ true → AreKept p n us (j + 1) (set kept number (get_or us j 0)) (number + 1)
  kept_in t =
      let more : filter p (take (j + 1) us) ≡ filter p (take j us) ++ get_or us j 0 ∷ [] = rw t at (filter_more p us j 0 inside) in
      record {
        room = simp length-set is.room;
        few = omega (arith, is.few);
        all = take_more_set kept number (get_or us j 0) (omega (arith, here, is.room, is.few)) ∙ ap (λ vs. vs ++ get_or us j 0 ∷ []) is.all ∙ sym more;
      }

  pub kept_out : p (get_or us j 0) ≡ false → AreKept p n us (j + 1) kept number
  kept_out f =
      let more : filter p (take (j + 1) us) ≡ filter p (take j us) ++ [] = rw f at (filter_more p us j 0 inside) in
      record { room = is.room; few = omega (arith, is.few); all = is.all ∙ sym (more ∙ append-nil (filter p (take j us))) }
