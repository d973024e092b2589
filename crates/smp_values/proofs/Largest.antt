-- The largest of some numbers.
use Rattle.std.proofs.Common.{◌≡◌, ℕ, zero, suc, ◌*◌, ◌<◌, ◌≤◌, max, List, [], ◌∷◌, length, get_or, arith, inl, inr}
use Rattle.std.specs.List.{sum}
use Rattle.std.proofs.{lemmas.Bool.{cases_lt}, lemmas.List.Sums.{sum_by-cons}}
use Rattle.smp_values.specs.Largest.{largest_of}

-- a place with a property
pub record Found (P : ℕ → Type 0) : Type 0 where
  pub place : ℕ
  pub holds : P place

-- it bounds each of them
pub largest-at : (xs : List ℕ) (k : ℕ) → get_or xs k 0 ≤ largest_of xs
largest-at [] k = omega arith
largest-at (x ∷ xs) zero = omega arith
largest-at (x ∷ xs) (suc k) = omega (arith, largest-at xs k)

-- and it is one of them
pub largest_found : (xs : List ℕ) → 1 ≤ largest_of xs → Found (λ k. (k < length xs) × (get_or xs k 0 ≡ largest_of xs))
largest_found [] h = absurd (omega (arith, h))
largest_found (x ∷ xs) h =
    elim (cases_lt (largest_of xs) x) [
      | inl l ↦ record { place = 0; holds = (omega arith, omega arith) }
      | inr l ↦ (let found = largest_found xs (omega arith) in record { place = suc found.place; holds = (omega (arith, found.holds.0), omega (arith, found.holds.1)) })
    ]

-- a bound on all is one on the largest
pub largest-within : (xs : List ℕ) (r b : ℕ) → 0 < b → ((k : ℕ) → r * get_or xs k 0 < b) → r * largest_of xs < b
largest-within [] r b p h = omega arith
largest-within (x ∷ xs) r b p h =
    let rest : r * largest_of xs < b = largest-within xs r b p (λ k. h (suc k)) in
    elim (cases_lt x (largest_of xs)) [
      | inl l ↦ (let is : max x (largest_of xs) ≡ largest_of xs = omega arith in rw is rest)
      | inr l ↦ (let is : max x (largest_of xs) ≡ x = omega arith in rw is (h 0))
    ]

-- the largest is at most the sum
pub largest-le-sum : (xs : List ℕ) → largest_of xs ≤ sum xs
largest-le-sum [] = omega arith
largest-le-sum (x ∷ xs) = omega (arith, largest-le-sum xs, sum_by-cons (λ a. a) x xs)
