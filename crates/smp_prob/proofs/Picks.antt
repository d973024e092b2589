-- The places and the sizes that a test picks.
use Rattle.std.proofs.Common.{◌≡◌, ℕ, zero, suc, ◌+◌, ◌<◌, Bool, true, false, cond, not, nat_lt, ◌&&◌, List, [], ◌∷◌, length, get_or, arith, refl, sym, ap, ◌∙◌, inl, inr}
use Rattle.std.specs.Prelude.{sum, sum_by, count_by, filter, All}
use Rattle.std.proofs.{lemmas.Bool.{cases_Bool, cases_eq, lt-ltb}, lemmas.List.Elements.{All-cons, All-nil, All-weaker}}
use Rattle.std.proofs.lemmas.List.Sums.{sum_by-cons}
use Rattle.smp_prob.specs.Requested.{places, positive_units}
use Rattle.smp_prob.proofs.Sizes.{sum_by-plus}

-- tests that agree at each size
pub places-same : (p q : ℕ → Bool) (place : ℕ) (zs : List ℕ) → ((k : ℕ) → p (get_or zs k 0) ≡ q (get_or zs k 0)) → places p place zs ≡ places q place zs
places-same p q place [] h = refl
places-same p q place (z ∷ zs) h = rw (h 0, places-same p q (place + 1) zs (λ k. h (suc k))) refl

pub filter-same : (p q : ℕ → Bool) (zs : List ℕ) → ((k : ℕ) → p (get_or zs k 0) ≡ q (get_or zs k 0)) → filter p zs ≡ filter q zs
filter-same p q [] h = refl
filter-same p q (z ∷ zs) h = rw (h 0, filter-same p q zs (λ k. h (suc k))) refl

pub length-places : (p : ℕ → Bool) (place : ℕ) (zs : List ℕ) → length (places p place zs) ≡ count_by p zs
length-places p place [] = refl
length-places p place (z ∷ zs) =
    let ih = length-places p (place + 1) zs in
    elim (cases_Bool (p z)) [
      | inl e ↦ rw (sum_by-cons (λ (x : ℕ). cond (p x) 1 0) z zs, e) (omega (arith, ih))
      | inr e ↦ rw (sum_by-cons (λ (x : ℕ). cond (p x) 1 0) z zs, e) (omega (arith, ih))
    ]

-- the i-th picked size stands at the i-th picked place, where size_at gives the size at each place
pub size_at_place : (p : ℕ → Bool) (size_at : ℕ → ℕ) (place : ℕ) (zs : List ℕ) → ((j : ℕ) → size_at (place + j) ≡ get_or zs j 0) → (i : ℕ) → i < length (places p place zs) → get_or (filter p zs) i 0 ≡ size_at (get_or (places p place zs) i 0)
size_at_place p size_at place [] h i l = absurd (omega (arith, l))
size_at_place p size_at place (z ∷ zs) h zero l =
    elim (cases_Bool (p z)) [
      | inl e ↦ rw e (sym (h 0) ∙ ap size_at (omega arith))
      | inr e ↦ rw e (size_at_place p size_at (place + 1) zs (λ j. ap size_at (omega arith) ∙ h (suc j)) zero (rw e at l))
    ]
size_at_place p size_at place (z ∷ zs) h (suc i) l =
    elim (cases_Bool (p z)) [
      | inl e ↦ rw e (size_at_place p size_at (place + 1) zs (λ j. ap size_at (omega arith) ∙ h (suc j)) i (let m = rw e at l in omega (arith, m)))
      | inr e ↦ rw e (size_at_place p size_at (place + 1) zs (λ j. ap size_at (omega arith) ∙ h (suc j)) (suc i) (rw e at l))
    ]

-- the sum of what isn't certain, without the sizes 0
pub sum-free : (p : ℕ → Bool) (zs : List ℕ) → sum (filter (λ x. nat_lt 0 x && not (p x)) zs) ≡ sum_by (λ x. cond (p x) 0 x) zs
sum-free p [] = refl
sum-free p (z ∷ zs) =
    let ih = sum-free p zs in
    elim (cases_eq z 0) [
      | inl none ↦
          (let nothing : cond (p 0) 0 0 ≡ 0 = same_arms (p 0) 0 in
          rw (none, sum_by-cons (λ (x : ℕ). cond (p x) 0 x) 0 zs) (omega (arith, ih, nothing)))
      | inr some ↦
          (let e : nat_lt 0 z ≡ true = lt-ltb 0 z (omega (arith, some)) in
          elim (cases_Bool (p z)) [
            | inl certain ↦ rw (sum_by-cons (λ (x : ℕ). cond (p x) 0 x) z zs, e, certain) (omega (arith, ih))
            | inr other ↦ rw (sum_by-cons (λ (x : ℕ). cond (p x) 0 x) z zs, e, other) (omega (arith, ih, sum_by-cons (λ (x : ℕ). x) z (filter (λ x. nat_lt 0 x && not (p x)) zs)))
          ])
    ]
  where
    same_arms : (b : Bool) (x : ℕ) → cond b x x ≡ x
    same_arms true x = refl
    same_arms false x = refl

-- the positive sizes are those that pass and those that don't
pub positive-split : (p : ℕ → Bool) (zs : List ℕ) → p 0 ≡ false → positive_units zs ≡ count_by p zs + count_by (λ x. nat_lt 0 x && not (p x)) zs
positive-split p zs none = sum_by-plus (λ x. cond (p x) 1 0) (λ x. cond (nat_lt 0 x && not (p x)) 1 0) (λ x. cond (nat_lt 0 x) 1 0) split zs
  where
    split : (x : ℕ) → cond (nat_lt 0 x) 1 0 ≡ cond (p x) 1 0 + cond (nat_lt 0 x && not (p x)) 1 0
    split x =
        elim (cases_eq x 0) [
          | inl e ↦ rw (e, none) refl
          | inr some ↦
              (let e : nat_lt 0 x ≡ true = lt-ltb 0 x (omega (arith, some)) in
              elim (cases_Bool (p x)) [
                | inl passes ↦ rw (e, passes) refl
                | inr fails ↦ rw (e, fails) refl
              ])
        ]

-- the places that are picked are among those of the entries
places_within : {A : Type 0} (test : A → Bool) (place : ℕ) (xs : List A) → All (λ unit. unit < place + length xs) (places test place xs)
places_within test place [] = All-nil (λ unit. unit < place + 0)
places_within test place (x ∷ xs) =
    let rest : All (λ unit. unit < place + length (x ∷ xs)) (places test (place + 1) xs) =
    All-weaker (λ unit. unit < place + 1 + length xs) (λ unit. unit < place + length (x ∷ xs)) (λ unit l. omega (arith, l)) (places test (place + 1) xs) (places_within test (place + 1) xs) in
    elim (cases_Bool (test x)) [
      | inl e ↦ rw e (All-cons (λ unit. unit < place + length (x ∷ xs)) place (places test (place + 1) xs) (omega arith) rest)
      | inr e ↦ rw e rest
    ]

pub places_below : {A : Type 0} (test : A → Bool) (xs : List A) → All (λ unit. unit < length xs) (places test 0 xs)
places_below test xs =
    All-weaker (λ unit. unit < 0 + length xs) (λ unit. unit < length xs) (λ unit l. omega (arith, l)) (places test 0 xs) (places_within test 0 xs)
