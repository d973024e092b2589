-- Sums over the units.
use Rattle.std.proofs.Common.{◌≡◌, ℕ, zero, suc, ◌+◌, ◌*◌, ◌<◌, ◌≤◌, List, [], ◌∷◌, arith, refl}
use Rattle.std.specs.List.{sum_by, range_with_len}
use Rattle.std.proofs.lemmas.List.Sums.{sum_by-cons}

pub sum_by-plus : (f g : ℕ → ℕ) (ks : List ℕ) → sum_by (λ k. f k + g k) ks ≡ sum_by f ks + sum_by g ks
sum_by-plus f g [] = refl
sum_by-plus f g (k ∷ ks) = rw (sum_by-cons (λ j. f j + g j) k ks, sum_by-cons f k ks, sum_by-cons g k ks)
    (omega (arith, sum_by-plus f g ks))

pub sum_by-times : (a : ℕ) (f : ℕ → ℕ) (ks : List ℕ) → sum_by (λ k. a * f k) ks ≡ a * sum_by f ks
sum_by-times a f [] = omega arith
sum_by-times a f (k ∷ ks) = rw (sum_by-cons (λ j. a * f j) k ks, sum_by-cons f k ks) (omega (arith, sum_by-times a f ks))

-- functions of the units that are the same below n, and of which one is at most the other
pub sum_by-below : (f g : ℕ → ℕ) (n i : ℕ) → ((k : ℕ) → k < i + n → f k ≡ g k)
    → sum_by f (range_with_len i n) ≡ sum_by g (range_with_len i n)
sum_by-below f g zero i h = refl
sum_by-below f g (suc n) i h =
    rw (sum_by-cons f i (range_with_len (i + 1) n), sum_by-cons g i (range_with_len (i + 1) n))
    (omega (arith, h i (omega arith), sum_by-below f g n (i + 1) (λ k l. h k (omega arith))))

pub sum_by-most : (f g : ℕ → ℕ) (n i : ℕ) → ((k : ℕ) → k < i + n → f k ≤ g k)
    → sum_by f (range_with_len i n) ≤ sum_by g (range_with_len i n)
sum_by-most f g zero i h = omega arith
sum_by-most f g (suc n) i h =
    rw (sum_by-cons f i (range_with_len (i + 1) n), sum_by-cons g i (range_with_len (i + 1) n))
    (omega (arith, h i (omega arith), sum_by-most f g n (i + 1) (λ k l. h k (omega arith))))

-- three of them with factors
pub sum_by-three : (a b c : ℕ) (f g h : ℕ → ℕ) (ks : List ℕ)
    → sum_by (λ k. a * f k + (b * g k + c * h k)) ks ≡ a * sum_by f ks + (b * sum_by g ks + c * sum_by h ks)
sum_by-three a b c f g h ks =
    rw (
      sum_by-plus (λ k. a * f k) (λ k. b * g k + c * h k) ks,
      sum_by-plus (λ k. b * g k) (λ k. c * h k) ks,
      sum_by-times a f ks,
      sum_by-times b g ks,
      sum_by-times c h ks,
    ) refl
