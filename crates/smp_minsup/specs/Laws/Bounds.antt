-- The least of some numbers and a bound.
use Rattle.std.proofs.Common.{◌≡◌, ℕ, zero, suc, ◌<◌, ◌≤◌, List, [], ◌∷◌, length, get_or, arith, inl, inr}
use Rattle.std.proofs.lemmas.Bool.{cases_lt}
use Rattle.smp_values.proofs.Largest.{Found}
use Rattle.smp_minsup.specs.Support.{least}

pub least-at : (bound : ℕ) (xs : List ℕ) (k : ℕ) → k < length xs → least bound xs ≤ get_or xs k 0
least-at bound [] k h = absurd (omega (arith, h))
least-at bound (x ∷ xs) zero h = omega arith
least-at bound (x ∷ xs) (suc k) h = omega (arith, least-at bound xs k (omega arith))

pub least_within : (bound : ℕ) (xs : List ℕ) → least bound xs ≤ bound
least_within bound [] = omega arith
least_within bound (x ∷ xs) = omega (arith, least_within bound xs)

pub least_found : (bound : ℕ) (xs : List ℕ) → least bound xs < bound
    → Found (λ k. (k < length xs) × (get_or xs k 0 ≡ least bound xs))
least_found bound [] h = absurd (omega (arith, h))
least_found bound (x ∷ xs) h =
    elim (cases_lt x (least bound xs)) [
      | inl l ↦ record { place = 0; holds = (omega arith, omega arith) }
      | inr l ↦ (let found = least_found bound xs (omega arith) in
          record { place = suc found.place; holds = (omega (arith, found.holds.0), omega (arith, found.holds.1)) })
    ]
