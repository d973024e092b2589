-- Names in a list.
use Rattle.std.proofs.Common.{◌≡◌, ℕ, suc, zero, Bool, true, false, not, ◌||◌, List, [], ◌∷◌, ◌++◌, refl, sym, subst, ◌∙◌, inl, inr, arith, true≢false}
use Rattle.std.specs.{Prelude.{Contains}, List.{list_any}, Str.{bytes_eq}}
use Rattle.std.proofs.{lemmas.Bool.{cases_Bool, and_parts}, lemmas.Slice.Eq.{bytes_eq-Decides}}
use Rattle.smp_words.specs.Words.{all_distinct}

pub contains_left : (xs ys : List (List ℕ)) (name : List ℕ) → Contains xs name → Contains (xs ++ ys) name
contains_left [] ys name here = absurd (omega (arith, here.1))
contains_left (x ∷ xs) ys name (zero, within, is) = (0, omega arith, is)
contains_left (x ∷ xs) ys name (suc i, within, is) = let rest = contains_left xs ys name (i, omega (arith, within), is) in (suc rest.0, omega (arith, rest.1), rest.2)

pub contains_right : (xs ys : List (List ℕ)) (name : List ℕ) → Contains ys name → Contains (xs ++ ys) name
contains_right [] ys name here = here
contains_right (x ∷ xs) ys name here = let rest = contains_right xs ys name here in (suc rest.0, omega (arith, rest.1), rest.2)

-- a name that differs from each name of a list
abbrev pub Apart : List ℕ → List (List ℕ) → Type 0
Apart name names = (other : List ℕ) → Contains names other → bytes_eq name other ≡ false

apart_sym : (a b : List ℕ) → bytes_eq a b ≡ false → bytes_eq b a ≡ false
apart_sym a b apart =
    elim (cases_Bool (bytes_eq b a)) [
      | inl e ↦ absurd (true≢false (sym ((bytes_eq-Decides a b).1 (sym ((bytes_eq-Decides b a).0 e))) ∙ apart))
      | inr e ↦ e
    ]

or_false : (a b : Bool) → not (a || b) ≡ true → (a ≡ false) × (not b ≡ true)
or_false false b h = (refl, h)
or_false true b h = absurd (true≢false (sym h))

differs : (name : List ℕ) (others : List (List ℕ)) → not (list_any (bytes_eq name) others) ≡ true → Apart name others
differs name [] h other here = absurd (omega (arith, here.1))
differs name (first ∷ others) h other (zero, within, is) = subst (λ n. bytes_eq name n ≡ false) is (or_false (bytes_eq name first) (list_any (bytes_eq name) others) h).0
differs name (first ∷ others) h other (suc i, within, is) =
    differs name others (or_false (bytes_eq name first) (list_any (bytes_eq name) others) h).1 other (i, omega (arith, within), is)

-- in a list of different names, the later ones differ from the first ones
pub apart : (xs ys : List (List ℕ)) → all_distinct (xs ++ ys) ≡ true → (name : List ℕ) → Contains ys name → Apart name xs
apart [] ys distinct name here other none = absurd (omega (arith, none.1))
apart (x ∷ xs) ys distinct name here other (zero, within, is) =
    subst (λ n. bytes_eq name n ≡ false) is (apart_sym x name (differs x (xs ++ ys) (and_parts _ _ distinct).0 name (contains_right xs ys name here)))
apart (x ∷ xs) ys distinct name here other (suc i, within, is) = apart xs ys (and_parts _ _ distinct).1 name here other (i, omega (arith, within), is)

none_first : (p : List ℕ → Bool) (xs ys : List (List ℕ)) → not (list_any p (xs ++ ys)) ≡ true → not (list_any p xs) ≡ true
none_first p [] ys h = refl
none_first p (x ∷ xs) ys h = let parts = or_false (p x) (list_any p (xs ++ ys)) h in rw parts.0 (none_first p xs ys parts.1)

-- the first names of different ones
pub first_distinct : (xs ys : List (List ℕ)) → all_distinct (xs ++ ys) ≡ true → all_distinct xs ≡ true
first_distinct [] ys distinct = refl
first_distinct (x ∷ xs) ys distinct =
    rw (none_first (bytes_eq x) xs ys (and_parts _ _ distinct).0) (first_distinct xs ys (and_parts _ _ distinct).1)

-- where two lists together have no name, neither has one
pub no_first : (xs ys : List (List ℕ)) → xs ++ ys ≡ [] → xs ≡ []
no_first [] ys none = refl
no_first (x ∷ xs) ys none = absurd (cc)

pub no_second : (xs ys : List (List ℕ)) → xs ++ ys ≡ [] → ys ≡ []
no_second [] ys none = none
no_second (x ∷ xs) ys none = absurd (cc)
