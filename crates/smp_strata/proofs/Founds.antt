-- The first that is found: in a list, and over numbers from 0 on.
use Rattle.std.proofs.Common.{◌≡◌, ℕ, zero, suc, ◌+◌, ◌<◌, ◌≤◌, Bool, true, false, List, [], ◌∷◌, ◌++◌, drop, get_or, length, Option, Some, None, inl, inr, arith, refl, sym, ap, ◌∙◌}
use Rattle.std.specs.{Prelude.{All}, List.{range_with_len}}
use Rattle.std.proofs.{lemmas.Bool.{cases_eq}, lemmas.List.{at_drop_more}}
use Rattle.smp_design.specs.Keys.{or_else}
use Rattle.smp_strata.specs.Misfits.{first_found, when}
use Rattle.smp_strata.proofs.Ranges.{range_more}

pub neither : {B : Type 0} (a b : Option B) → or_else a b ≡ None → (a ≡ None) × (b ≡ None)
neither None b e = (refl, e)
neither (Some x) b e = absurd (some_none x e)
  where
    some_none : {C : Type 0} (x : C) → Some x ≡ None → ⊥
    some_none x e = cc

pub when_false : {B : Type 0} (b : Bool) (x : B) → when b x ≡ None → b ≡ false
when_false false x e = refl
when_false true x e = cc

pub or_else_assoc : {C : Type 0} (a b c : Option C) → or_else (or_else a b) c ≡ or_else a (or_else b c)
or_else_assoc None b c = refl
or_else_assoc (Some x) b c = refl

pub found-append : {A B : Type 0} (f : A → Option B) (xs ys : List A) → first_found f (xs ++ ys) ≡ or_else (first_found f xs) (first_found f ys)
found-append f [] ys = refl
found-append f (x ∷ xs) ys = ap (or_else (f x)) (found-append f xs ys) ∙ sym (or_else_assoc (f x) (first_found f xs) (first_found f ys))

-- what is found from a place on: what is there, or what is found behind
pub found_from_place : {A B : Type 0} (f : A → Option B) (xs : List A) (k : ℕ) (d : A) → k < length xs
    → first_found f (drop k xs) ≡ or_else (f (get_or xs k d)) (first_found f (drop (k + 1) xs))
found_from_place f xs k d l = at_drop_more (first_found f) xs k d l

-- nothing at any element, and so nothing
pub each_none : {A B : Type 0} (f : A → Option B) (xs : List A) → All (λ x. f x ≡ None) xs → first_found f xs ≡ None
each_none f [] none = refl
each_none f (x ∷ xs) none = rw (none 0 x (omega arith)) (each_none f xs (λ k d l. none (suc k) d (omega (arith, l))))

-- where nothing is found, there is nothing at any element
pub none_each : {A B : Type 0} (f : A → Option B) (xs : List A) → first_found f xs ≡ None → All (λ x. f x ≡ None) xs
none_each f [] e k d l = absurd (omega (arith, l))
none_each f (x ∷ xs) e zero d l = (neither (f x) (first_found f xs) e).0
none_each f (x ∷ xs) e (suc k) d l = none_each f xs ((neither (f x) (first_found f xs) e).1) k d (omega (arith, l))

module _ {B : Type 0} (f : ℕ → Option B) where
  pub none_more : (k : ℕ) → first_found f (range_with_len 0 k) ≡ None → f k ≡ None → first_found f (range_with_len 0 (k + 1)) ≡ None
  none_more k before here =
      ap (first_found f) (range_more k) ∙ found-append f (range_with_len 0 k) (k ∷ []) ∙ rw (before, here) refl

  none_from : (a n : ℕ) → first_found f (range_with_len a n) ≡ None → (j : ℕ) → a ≤ j → j < a + n → f j ≡ None
  none_from a zero e j l u = absurd (omega (arith, l, u))
  none_from a (suc n) e j l u =
      elim (cases_eq a j) [
        | inl same ↦ rw (← same) ((neither (f a) (first_found f (range_with_len (a + 1) n)) e).0)
        | inr d ↦ none_from (a + 1) n ((neither (f a) (first_found f (range_with_len (a + 1) n)) e).1) j (omega (arith, l, d)) (omega (arith, u))
      ]

  pub none_at : (n : ℕ) → first_found f (range_with_len 0 n) ≡ None → (j : ℕ) → j < n → f j ≡ None
  none_at n e j l = none_from 0 n e j (omega arith) (omega (arith, l))

  found_from : (a n k : ℕ) (x : B) → a ≤ k → k < a + n → ((j : ℕ) → a ≤ j → j < k → f j ≡ None) → f k ≡ Some x → first_found f (range_with_len a n) ≡ Some x
  found_from a zero k x l u before here = absurd (omega (arith, l, u))
  found_from a (suc n) k x l u before here =
      elim (cases_eq a k) [
        | inl same ↦ rw same (rw here refl)
        | inr d ↦ rw (before a (omega arith) (omega (arith, l, d)))
            (found_from (a + 1) n k x (omega (arith, l, d)) (omega (arith, u)) (λ j m v. before j (omega (arith, m)) v) here)
      ]

  pub found_at : (n k : ℕ) (x : B) → first_found f (range_with_len 0 k) ≡ None → f k ≡ Some x → k < n → first_found f (range_with_len 0 n) ≡ Some x
  found_at n k x before here l = found_from 0 n k x (omega arith) (omega (arith, l)) (λ j m v. none_at k before j v) here

  pub found_ext : (g : ℕ → Option B) (a n : ℕ) → ((k : ℕ) → a ≤ k → k < a + n → f k ≡ g k) → first_found f (range_with_len a n) ≡ first_found g (range_with_len a n)
  found_ext g a zero h = refl
  found_ext g a (suc n) h =
      rw (h a (omega arith) (omega arith)) (ap (or_else (g a)) (found_ext g (a + 1) n (λ k l u. h k (omega (arith, l)) (omega (arith, u)))))
