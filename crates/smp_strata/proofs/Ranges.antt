-- Lists by the places of their elements.
use Rattle.std.proofs.Common.{◌≡◌, ℕ, zero, suc, ◌+◌, ◌<◌, ◌≤◌, Bool, true, false, cond, nat_eq, List, [], ◌∷◌, ◌++◌, length, map, filter, get_or, inl, inr, arith, refl, sym, ap, ◌∙◌}
use Rattle.std.specs.List.{list_any, range_with_len}
use Rattle.std.proofs.{lemmas.Bool.{cases_Bool, cases_eq, eq-eqb, ne_eqb, or_parts}, lemmas.List.{get_or-map, length-map, map-id}}
use Rattle.std.proofs.lemmas.List.FromFn.{map-range_with_len_more, fill_by_all}

pub range_more : (n : ℕ) → range_with_len 0 (n + 1) ≡ range_with_len 0 n ++ n ∷ []
range_more n =
    sym (map-id (range_with_len 0 (n + 1))) ∙ map-range_with_len_more (λ (x : ℕ). x) 0 n n (omega arith) ∙ ap (λ xs. xs ++ n ∷ []) (map-id (range_with_len 0 n))

pub map_range_ext : {X : Type 0} (f g : ℕ → X) (a n : ℕ) → ((k : ℕ) → a ≤ k → k < a + n → f k ≡ g k) → map f (range_with_len a n) ≡ map g (range_with_len a n)
map_range_ext f g a zero h = refl
map_range_ext f g a (suc n) h =
    rw (h a (omega arith) (omega arith)) (ap (λ xs. g a ∷ xs) (map_range_ext f g (a + 1) n (λ k l u. h k (omega (arith, l)) (omega (arith, u)))))

pub filter_range_ext : (p q : ℕ → Bool) (a n : ℕ) → ((k : ℕ) → a ≤ k → k < a + n → p k ≡ q k) → filter p (range_with_len a n) ≡ filter q (range_with_len a n)
filter_range_ext p q a zero h = refl
filter_range_ext p q a (suc n) h =
    rw (h a (omega arith) (omega arith)) (ap (λ xs. cond (q a) (a ∷ xs) xs) (filter_range_ext p q (a + 1) n (λ k l u. h k (omega (arith, l)) (omega (arith, u)))))

-- a map goes over the places
pub map_by_places : {A B : Type 0} (f : A → B) (xs : List A) (d : A) (n : ℕ) → length xs ≡ n → map f xs ≡ map (λ k. f (get_or xs k d)) (range_with_len 0 n)
map_by_places f xs d n e =
    fill_by_all (λ k. f (get_or xs k d)) (map f xs) n (f d) (length-map xs f ∙ e) (λ k l. get_or-map f xs k d (f d) (omega (arith, l, e)))

-- a filter goes over the places
filter_from : {A : Type 0} (p : A → Bool) (all : List A) (d : A) (xs : List A) (a : ℕ) → ((k : ℕ) → k < length xs → get_or all (a + k) d ≡ get_or xs k d)
    → filter p xs ≡ map (λ k. get_or all k d) (filter (λ k. p (get_or all k d)) (range_with_len a (length xs)))
filter_from p all d [] a h = refl
filter_from p all d (x ∷ xs) a h =
    let here : get_or all a d ≡ x = ap (λ k. get_or all k d) (omega arith) ∙ h 0 (omega arith) in
    let rest = filter_from p all d xs (a + 1) (λ k l. ap (λ j. get_or all j d) (omega arith) ∙ h (suc k) (omega (arith, l))) in
    elim (cases_Bool (p x)) [
      | inl e ↦ (let t : p (get_or all a d) ≡ true = ap p here ∙ e in rw (e, t, here) (ap (λ ys. x ∷ ys) rest))
      | inr e ↦ (let t : p (get_or all a d) ≡ false = ap p here ∙ e in rw (e, t) rest)
    ]

pub filter_by_places : {A : Type 0} (p : A → Bool) (xs : List A) (d : A) → filter p xs ≡ map (λ k. get_or xs k d) (filter (λ k. p (get_or xs k d)) (range_with_len 0 (length xs)))
filter_by_places p xs d = filter_from p xs d xs 0 (λ k l. ap (λ j. get_or xs j d) (omega arith))

-- the one place with a number
none_here : (k a n : ℕ) → k < a → filter (λ p. nat_eq p k) (range_with_len a n) ≡ []
none_here k a zero l = refl
none_here k a (suc n) l = rw (ne_eqb a k (λ e. omega (arith, l, e))) (none_here k (a + 1) n (omega (arith, l)))

one_from : (k a n : ℕ) → a ≤ k → k < a + n → filter (λ p. nat_eq p k) (range_with_len a n) ≡ k ∷ []
one_from k a zero l u = absurd (omega (arith, l, u))
one_from k a (suc n) l u =
    elim (cases_eq a k) [
      | inl e ↦ rw (eq-eqb a k e) (rw (none_here k (a + 1) n (omega (arith, e))) (ap (λ x. x ∷ []) e))
      | inr d ↦ rw (ne_eqb a k d) (one_from k (a + 1) n (omega (arith, l, d)) (omega (arith, u)))
    ]

pub one_place : (k n : ℕ) → k < n → filter (λ p. nat_eq p k) (range_with_len 0 n) ≡ k ∷ []
one_place k n l = one_from k 0 n (omega arith) (omega (arith, l))

-- what no value of a map passes
pub none_passes : {A : Type 0} (q : A → Bool) (f : ℕ → A) (a n : ℕ) → list_any q (map f (range_with_len a n)) ≡ false → (k : ℕ) → a ≤ k → k < a + n → q (f k) ≡ false
none_passes q f a zero h k l u = absurd (omega (arith, l, u))
none_passes q f a (suc n) h k l u =
    elim (cases_eq a k) [
      | inl e ↦ rw (← e) ((or_parts _ _ h).0)
      | inr d ↦ none_passes q f (a + 1) n ((or_parts _ _ h).1) k (omega (arith, l, d)) (omega (arith, u))
    ]
