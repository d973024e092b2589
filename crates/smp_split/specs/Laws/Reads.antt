-- Reading a list in which one element is replaced.
use Rattle.std.proofs.Common.{◌≡◌, ◌≢◌, ℕ, zero, suc, ◌<◌, List, [], ◌∷◌, length, set, Some, arith, refl, sym, ap}
use Rattle.std.specs.List.{slice_get}
use Rattle.std.proofs.lemmas.Option.{same_Some}

module _ {X : Type 0} where
  pub slice_get-set_same : (xs : List X) (i : ℕ) (x : X) → i < length xs → slice_get (set xs i x) i ≡ Some x
  slice_get-set_same [] i x h = absurd (omega arith)
  slice_get-set_same (y ∷ ys) zero x h = refl
  slice_get-set_same (y ∷ ys) (suc i) x h = slice_get-set_same ys i x (omega arith)

  pub slice_get-set_other : (xs : List X) (i j : ℕ) (x : X) → j ≢ i → slice_get (set xs i x) j ≡ slice_get xs j
  slice_get-set_other [] i j x ne = refl
  slice_get-set_other (y ∷ ys) zero zero x ne = absurd (ne refl)
  slice_get-set_other (y ∷ ys) zero (suc j) x ne = refl
  slice_get-set_other (y ∷ ys) (suc i) zero x ne = refl
  slice_get-set_other (y ∷ ys) (suc i) (suc j) x ne = slice_get-set_other ys i j x (λ e. ne (ap suc e))

  pub set_self : (xs : List X) (i : ℕ) (x : X) → slice_get xs i ≡ Some x → set xs i x ≡ xs
  set_self [] i x is = refl
  set_self (y ∷ ys) zero x is = ap (λ z. z ∷ ys) (sym (same_Some y x is))
  set_self (y ∷ ys) (suc i) x is = ap (λ zs. y ∷ zs) (set_self ys i x is)

  pub some_within : (xs : List X) (i : ℕ) → i < length xs → (x : X) × (slice_get xs i ≡ Some x)
  some_within [] i h = absurd (omega arith)
  some_within (x ∷ xs) zero h = (x, refl)
  some_within (x ∷ xs) (suc i) h = some_within xs i (omega arith)
