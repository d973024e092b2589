-- Elements of lists that are put together, and the first element that passes a test.
use Rattle.std.proofs.Common.{◌≡◌, ℕ, zero, suc, ◌+◌, ◌<◌, Bool, true, List, [], ◌∷◌, ◌++◌, length, get_or, Some}
use Rattle.std.proofs.Common.{arith, ap, ◌∙◌}
use Rattle.std.specs.List.{slice_get, list_any, position_or_len}
use Rattle.std.proofs.lemmas.List.Folds.{list_any_at}
use Rattle.std.proofs.lemmas.List.Sums.{passes_at_first}
use Rattle.std.proofs.lemmas.Option.{slice_get-get_or, slice_get_within, get_or_from_slice_get}
use Rattle.smp_strata.proofs.TextPlaces.{any_within}

module _ {X : Type 0} where
  pub slice_get_left : (xs ys : List X) (i : ℕ) (x : X) → slice_get xs i ≡ Some x → slice_get (xs ++ ys) i ≡ Some x
  slice_get_left [] ys i x is = absurd (cc)
  slice_get_left (z ∷ zs) ys zero x is = is
  slice_get_left (z ∷ zs) ys (suc i) x is = slice_get_left zs ys i x is

  pub slice_get_right : (xs ys : List X) (i j : ℕ) → j ≡ length xs + i → slice_get (xs ++ ys) j ≡ slice_get ys i
  slice_get_right [] ys i j at = ap (slice_get ys) (omega (arith, at))
  slice_get_right (z ∷ zs) ys i zero at = absurd (omega (arith, at))
  slice_get_right (z ∷ zs) ys i (suc j) at = slice_get_right zs ys i j (omega (arith, at))

  -- an element that passes a test, and where it is
  pub record FirstThat (p : X → Bool) (xs : List X) : Type 0 where
    pub found : X
    pub there : slice_get xs (position_or_len p xs) ≡ Some found
    pub passes : p found ≡ true

  pub any_that : (p : X → Bool) (xs : List X) (i : ℕ) (x : X) → slice_get xs i ≡ Some x → p x ≡ true → list_any p xs ≡ true
  any_that p xs i x is passes = list_any_at p xs i x (slice_get_within xs i x is) (ap p (get_or_from_slice_get xs i x x is) ∙ passes)

  first_of : (p : X → Bool) (xs : List X) (d : X) → list_any p xs ≡ true → FirstThat p xs
  first_of p xs d some =
      let within : position_or_len p xs < length xs = any_within p xs some in
      record {
        found = get_or xs (position_or_len p xs) d;
        there = slice_get-get_or xs (position_or_len p xs) d within;
        passes = passes_at_first p xs d within;
      }

  pub first_that : (p : X → Bool) (xs : List X) → list_any p xs ≡ true → FirstThat p xs
  first_that p [] some = absurd (cc)
  first_that p (x ∷ xs) some = first_of p (x ∷ xs) x some
