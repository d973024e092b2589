-- Sums over the numbers below n.
use Rattle.std.proofs.Common.{◌≡◌, ◌≢◌, ℕ, zero, suc, ◌+◌, ◌*◌, ◌<◌, ◌≤◌, Bool, true, false, cond, List, length, map, get_or, arith, refl, sym, ap, ◌∙◌, inl, inr}
use Rattle.std.specs.List.{sum_by, range_with_len}
use Rattle.std.proofs.lemmas.Bool.{cases_Bool, cases_eq}
use Rattle.smp_split.proofs.{Counts.{sum_by-indices, sum_by-map}, Sums.{sum_by-last}}

abbrev pub sums : ℕ → (ℕ → ℕ) → ℕ
sums zero f = 0
sums (suc n) f = sums n f + f n

-- how many of them pass a test
abbrev pub counts : ℕ → (ℕ → Bool) → ℕ
counts n p = sums n (λ k. cond (p k) 1 0)

pub sums_same : (n : ℕ) (f g : ℕ → ℕ) → ((k : ℕ) → k < n → f k ≡ g k) → sums n f ≡ sums n g
sums_same zero f g h = refl
sums_same (suc n) f g h = omega (arith, sums_same n f g (λ k l. h k (omega arith)), h n (omega arith))

pub sums_plus : (n : ℕ) (f g h : ℕ → ℕ) → ((k : ℕ) → k < n → f k ≡ g k + h k) → sums n f ≡ sums n g + sums n h
sums_plus zero f g h e = refl
sums_plus (suc n) f g h e = omega (arith, sums_plus n f g h (λ k l. e k (omega arith)), e n (omega arith))

-- the first one apart
pub sums_front : (n : ℕ) (f : ℕ → ℕ) → sums (suc n) f ≡ f 0 + sums n (λ k. f (suc k))
sums_front zero f = omega arith
sums_front (suc n) f = omega (arith, sums_front n f)

pub sums_most : (n : ℕ) (f g : ℕ → ℕ) → ((k : ℕ) → k < n → f k ≤ g k) → sums n f ≤ sums n g
sums_most zero f g h = omega arith
sums_most (suc n) f g h = omega (arith, sums_most n f g (λ k l. h k (omega arith)), h n (omega arith))

-- two that differ at one place alone
pub sums_but : (n k : ℕ) (f g : ℕ → ℕ) → k < n → ((i : ℕ) → i < n → i ≢ k → f i ≡ g i) → sums n f + g k ≡ sums n g + f k
sums_but zero k f g l h = absurd (omega arith)
sums_but (suc n) k f g l h =
    elim (cases_eq n k) [
      | inl e ↦ (let same : sums n f ≡ sums n g = sums_same n f g (λ i m. h i (omega arith) (omega arith)) in omega (arith, ap f e, ap g e, same))
      | inr ne ↦ omega (arith, sums_but n k f g (omega arith) (λ i m. h i (omega arith)), h n (omega arith) ne)
    ]

-- one that is nowhere larger, and smaller at one place
pub sums_less : (n k : ℕ) (f g : ℕ → ℕ) → k < n → ((i : ℕ) → i < n → f i ≤ g i) → sums n f + g k ≤ sums n g + f k
sums_less zero k f g l h = absurd (omega arith)
sums_less (suc n) k f g l h =
    elim (cases_eq n k) [
      | inl e ↦ omega (arith, ap f e, ap g e, sums_most n f g (λ i m. h i (omega arith)))
      | inr ne ↦ omega (arith, sums_less n k f g (omega arith) (λ i m. h i (omega arith)), h n (omega arith))
    ]

pub sums-none : (n : ℕ) (f : ℕ → ℕ) → ((k : ℕ) → k < n → f k ≡ 0) → sums n f ≡ 0
sums-none zero f h = refl
sums-none (suc n) f h = omega (arith, sums-none n f (λ k l. h k (omega arith)), h n (omega arith))

pub sums_scaled : (n d : ℕ) (p : ℕ → Bool) → sums n (λ k. cond (p k) d 0) ≡ counts n p * d
sums_scaled zero d p = omega arith
sums_scaled (suc n) d p =
    elim (cases_Bool (p n)) [ inl e ↦ rw e (omega (arith, sums_scaled n d p)) | inr e ↦ rw e (omega (arith, sums_scaled n d p)) ]

pub sums_constant : (n d : ℕ) → sums n (λ k. d) ≡ n * d
sums_constant zero d = omega arith
sums_constant (suc n) d = omega (arith, sums_constant n d)

pub sums_at : (n k : ℕ) (f : ℕ → ℕ) → k < n → f k ≤ sums n f
sums_at zero k f l = absurd (omega arith)
sums_at (suc n) k f l = elim (cases_eq n k) [ inl e ↦ omega (arith, ap f e) | inr ne ↦ omega (arith, sums_at n k f (omega arith)) ]

-- what a test counts for
pub weight_true : {b : Bool} → b ≡ true → ◌≡◌ {A = ℕ} (cond b 1 0) 1
weight_true h = rw h refl

pub weight_false : {b : Bool} → b ≡ false → ◌≡◌ {A = ℕ} (cond b 1 0) 0
weight_false h = rw h refl

-- a place that passes, where some do
pub counts_found : (n : ℕ) (p : ℕ → Bool) → 1 ≤ counts n p → (k : ℕ) × ((k < n) × (p k ≡ true))
counts_found zero p h = absurd (omega arith)
counts_found (suc n) p h =
    elim (cases_Bool (p n)) [
      | inl e ↦ (n, (omega arith, e))
      | inr e ↦ (let found = counts_found n p (omega (arith, weight_false e)) in (found.0, (omega (arith, found.1.0), found.1.1)))
    ]

-- where none does, each fails
pub counts_none : (n k : ℕ) (p : ℕ → Bool) → counts n p ≡ 0 → k < n → p k ≡ false
counts_none n k p h l =
    elim (cases_Bool (p k)) [ inr e ↦ e | inl e ↦ absurd (omega (arith, weight_true e, sums_at n k (λ i. cond (p i) 1 0) l)) ]

pub counts_within : (n : ℕ) (p : ℕ → Bool) → counts n p ≤ n
counts_within zero p = omega arith
counts_within (suc n) p = elim (cases_Bool (p n)) [ inl e ↦ rw e (omega (arith, counts_within n p)) | inr e ↦ rw e (omega (arith, counts_within n p)) ]

-- ---- std's words

pub sum_by-range : (n : ℕ) (f : ℕ → ℕ) → sum_by f (range_with_len 0 n) ≡ sums n f
sum_by-range zero f = refl
sum_by-range (suc n) f = let none : 0 + n ≡ n = omega arith in omega (arith, sum_by-last n 0 f, ap f none, sum_by-range n f)

pub sum_by-map-range : {X : Type 0} (n : ℕ) (f : X → ℕ) (g : ℕ → X) → sum_by f (map g (range_with_len 0 n)) ≡ sums n (λ k. f (g k))
sum_by-map-range n f g = sum_by-map f g (range_with_len 0 n) ∙ sum_by-range n (λ k. f (g k))

pub sum_by-list : {X : Type 0} (f : X → ℕ) (xs : List X) (d : X) → sum_by f xs ≡ sums (length xs) (λ k. f (get_or xs k d))
sum_by-list f xs d = sym (sum_by-indices f xs d (length xs) refl) ∙ sum_by-range (length xs) (λ k. f (get_or xs k d))
