-- Groups of places have as many places in all as there are numbers.
use Rattle.std.proofs.Common.{◌≡◌, ℕ, zero, suc, ◌+◌, ◌<◌, ◌≤◌, cond, nat_eq, List, [], ◌∷◌, length, map, get_or, inl, inr, arith, refl, ap, ◌∙◌}
use Rattle.std.specs.{Prelude.{sum, not}, List.{range_with_len}, Str.{bytes_eq}}
use Rattle.std.proofs.{lemmas.Bool.{cases_eq, eq-eqb, ne_eqb}, lemmas.List.{length-append}, lemmas.List.FromFn.{length-map-range_with_len}}
use Rattle.std.proofs.lemmas.List.Sums.{sum_by-cons, length-filter, count_by-le-length}
use Rattle.smp_strata.specs.{Appearances.{distinct}, Kept.Groups.{places_below, places_of}, Kept.Layouts.{AreGroups}}
use Rattle.smp_strata.proofs.Grouped.{below_more}

-- a number stands once in a range
none_in : (x a n : ℕ) → x < a → sum (map (λ k. cond (nat_eq x k) 1 0) (range_with_len a n)) ≡ 0
none_in x a zero l = refl
none_in x a (suc n) l =
    rw (sum_by-cons (λ y. y) (cond (nat_eq x a) 1 0) (map (λ k. cond (nat_eq x k) 1 0) (range_with_len (a + 1) n)), ne_eqb x a (λ e. omega (arith, l, e)))
    (omega (arith, none_in x (a + 1) n (omega (arith, l))))

one_in : (x a n : ℕ) → a ≤ x → x < a + n → sum (map (λ k. cond (nat_eq x k) 1 0) (range_with_len a n)) ≡ 1
one_in x a zero l u = absurd (omega (arith, l, u))
one_in x a (suc n) l u =
    elim (cases_eq x a) [
      | inl e ↦ rw (sum_by-cons (λ y. y) (cond (nat_eq x a) 1 0) (map (λ k. cond (nat_eq x k) 1 0) (range_with_len (a + 1) n)), eq-eqb x a e)
          (omega (arith, none_in x (a + 1) n (omega (arith, e))))
      | inr d ↦ rw (sum_by-cons (λ y. y) (cond (nat_eq x a) 1 0) (map (λ k. cond (nat_eq x k) 1 0) (range_with_len (a + 1) n)), ne_eqb x a d)
          (omega (arith, one_in x (a + 1) n (omega (arith, l, d)) (omega (arith, u))))
    ]

sum_plus : (f g h : ℕ → ℕ) → ((k : ℕ) → h k ≡ f k + g k) → (ks : List ℕ) → sum (map h ks) ≡ sum (map f ks) + sum (map g ks)
sum_plus f g h e [] = refl
sum_plus f g h e (k ∷ ks) =
    rw (sum_by-cons (λ y. y) (h k) (map h ks), sum_by-cons (λ y. y) (f k) (map f ks), sum_by-cons (λ y. y) (g k) (map g ks))
    (omega (arith, e k, sum_plus f g h e ks))

zeros : (ks : List ℕ) → sum (map (λ (k : ℕ). 0) ks) ≡ 0
zeros [] = refl
zeros (k ∷ ks) = rw (sum_by-cons (λ y. y) 0 (map (λ (j : ℕ). 0) ks)) (omega (arith, zeros ks))

added_one : (numbers : List ℕ) (m k : ℕ) → length (places_below numbers (m + 1) k) ≡ length (places_below numbers m k) + cond (nat_eq (get_or numbers m 0) k) 1 0
added_one numbers m k =
    ap length (below_more numbers m k) ∙ length-append (places_below numbers m k) _
    ∙ elim (cases_eq (get_or numbers m 0) k) [
      | inl e ↦ rw (eq-eqb (get_or numbers m 0) k e) refl
      | inr d ↦ rw (ne_eqb (get_or numbers m 0) k d) refl
    ]

all_below : (numbers : List ℕ) (count m : ℕ) → ((i : ℕ) → i < m → get_or numbers i 0 < count)
    → sum (map (λ k. length (places_below numbers m k)) (range_with_len 0 count)) ≡ m
all_below numbers count zero h = zeros (range_with_len 0 count)
all_below numbers count (suc m) h =
    ap (λ j. sum (map (λ k. length (places_below numbers j k)) (range_with_len 0 count))) (suc_is m)
    ∙ sum_plus (λ k. length (places_below numbers m k)) (λ k. cond (nat_eq (get_or numbers m 0) k) 1 0) (λ k. length (places_below numbers (m + 1) k)) (added_one numbers m) (range_with_len 0 count)
    ∙ omega (arith, all_below numbers count m (λ i l. h i (omega (arith, l))), one_in (get_or numbers m 0) 0 count (omega arith) (omega (arith, h m (omega arith))))
  where
    suc_is : (n : ℕ) → suc n ≡ n + 1
    suc_is n = omega arith

pub map_twice : {A B C : Type 0} (f : B → C) (g : A → B) (xs : List A) → map f (map g xs) ≡ map (λ x. f (g x)) xs
map_twice f g [] = refl
map_twice f g (x ∷ xs) = ap (λ ys. f (g x) ∷ ys) (map_twice f g xs)

pub total : (numbers : List ℕ) (count : ℕ) (groups : List (List ℕ)) (among : List ℕ) → AreGroups numbers count groups among → sum (map length groups) ≡ length numbers
total numbers count groups among are =
    ap (λ gs. sum (map length gs)) are.each
    ∙ ap sum (map_twice length (places_of numbers) (range_with_len 0 count))
    ∙ all_below numbers count (length numbers) (λ i l. are.within i 0 l)

pub how_many : (numbers : List ℕ) (count : ℕ) (groups : List (List ℕ)) (among : List ℕ) → AreGroups numbers count groups among → length groups ≡ count
how_many numbers count groups among are = ap length are.each ∙ length-map-range_with_len (places_of numbers) 0 count

pub fewer : (ts : List (List ℕ)) → length (distinct ts) ≤ length ts
fewer [] = omega arith
fewer (t ∷ ts) =
    omega (arith, fewer ts, length-filter (λ other. not (bytes_eq t other)) (distinct ts), count_by-le-length (λ other. not (bytes_eq t other)) (distinct ts))
