-- The numerators and the common denominator of a request are those of its probabilities.
use Rattle.std.proofs.Common.{◌≡◌, ℕ, ◌*◌, ◌/◌, ◌^◌, ◌<◌, ◌≤◌, List, [], ◌∷◌, length, map, arith, refl, ◌∙◌, subst, inl, inr, ne_eqb, eq-eqb}
use Rattle.std.specs.{Prelude.{slice_index, sum}, Int.{IsGcd}}
use Rattle.std.proofs.Math.Nat.{div-mul_cancel, div-le_self, lt_of_mul-lt-mul_right, one-le-mul, eq-zero_of_zero-dvd}
use Rattle.std.proofs.{lemmas.Bool.{cases_eq}, lemmas.List.{get_or-map, length-map}, lemmas.List.Sums.{sum_by-cons}}
use Prim.Native.Nat.{◌∣◌}
use Rattle.smp_frac.specs.{Fractions.{Same, over}, Laws.Gcds.{IsGcd-greatest_common_divisor}}
use Rattle.smp_frac.proofs.Over.{over_same}
use Rattle.smp_prob.specs.{declared.requests.Request.{Request}, Requests.{IsRequest}, Inclusions.{free_fraction}}
use Rattle.smp_prob.specs.Shares.{common_divisor, common_denominator, numerators}

-- a quotient of a number that isn't 0
quotient_positive : (g factor r : ℕ) → factor * g ≡ r → 1 ≤ r → 1 ≤ factor
quotient_positive g factor r r_is h =
    elim (cases_eq factor 0) [
      | inl e ↦ (let none : 0 * g ≡ r = rw (← e) r_is in omega (arith, none, h))
      | inr n ↦ omega (arith, n)
    ]

-- r and total, each a quotient times the divisor
module _ (g factor den r total : ℕ) (r_is : factor * g ≡ r) (total_is : den * g ≡ total) where
  reduced_below : (shape : ℕ) → shape * r < total → shape * factor < den
  reduced_below shape h =
      lt_of_mul-lt-mul_right g (let product : shape * factor * g ≡ shape * r = rw (← r_is) (omega arith) in omega (arith, product, total_is, h))

  cross_product : (shape : ℕ) → shape * factor * total ≡ shape * r * den
  cross_product shape = rw (← r_is, ← total_is) (omega arith)

sum-scaled : (factor : ℕ) (shape : List ℕ) → sum (map (λ x. x * factor) shape) ≡ sum shape * factor
sum-scaled factor [] = omega arith
sum-scaled factor (x ∷ shape) =
    rw (sum_by-cons (λ (y : ℕ). y) (x * factor) (map (λ y. y * factor) shape), sum_by-cons (λ (y : ℕ). y) x shape, sum-scaled factor shape) (omega arith)

crossed : (g factor den r total : ℕ) → factor * g ≡ r → den * g ≡ total → total * factor ≡ r * den
crossed g factor den r total r_is total_is = rw (← r_is, ← total_is) (omega arith)

module _ (request : Request) (is : IsRequest request) where
  divides : IsGcd request.total request.r (common_divisor request)
  divides = IsGcd-greatest_common_divisor request.total request.r

  r_is : request.r / common_divisor request * common_divisor request ≡ request.r
  r_is = div-mul_cancel (common_divisor request) divides.1

  total_is : request.total / common_divisor request * common_divisor request ≡ request.total
  total_is = div-mul_cancel (common_divisor request) divides.0

  pub common_divisor_positive : 1 ≤ length request.free → 1 ≤ common_divisor request
  common_divisor_positive some =
      elim (cases_eq (common_divisor request) 0) [
        | inl e ↦
            (let none : request.r ≡ 0 = eq-zero_of_zero-dvd (subst (λ (d : ℕ). d ∣ request.r) e divides.1) in
            absurd (omega (arith, none, is.drawn some)))
        | inr n ↦ omega (arith, n)
      ]

  total_positive : 1 ≤ length request.free → 1 ≤ request.total
  total_positive some = omega (arith, is.below_one 0 (omega (arith, is.paired, some)))

  pub denominator_is : 1 ≤ length request.free → common_denominator request ≡ request.total / common_divisor request
  denominator_is some =
      let free : (length request.free ≡ 0) → ⊥ = λ e. omega (arith, e, some) in
      rw (ne_eqb (length request.free) 0 free) refl

  -- a denominator from 1 to below 2 ^ 49
  pub denominator_positive : 1 ≤ common_denominator request
  denominator_positive =
      elim (cases_eq (length request.free) 0) [
        | inl e ↦ rw (eq-eqb (length request.free) 0 e) (omega arith)
        | inr n ↦
            (let some : 1 ≤ length request.free = omega (arith, n) in
            rw (denominator_is some) (quotient_positive (common_divisor request) _ request.total total_is (total_positive some)))
      ]

  pub denominator_narrow : common_denominator request < 2 ^ 49
  denominator_narrow =
      elim (cases_eq (length request.free) 0) [
        | inl e ↦ rw (eq-eqb (length request.free) 0 e) (omega arith)
        | inr n ↦ rw (denominator_is (omega (arith, n))) (omega (arith, is.narrow, div-le_self request.total (common_divisor request)))
      ]

  pub length-numerators : length (numerators request) ≡ length request.free
  length-numerators = length-map request.shape (λ shape. shape * (request.r / common_divisor request)) ∙ is.paired

  -- where the shapes add up to the total, the numerators add up to r times the denominator
  pub sum-numerators : 1 ≤ length request.free → sum request.shape ≡ request.total → sum (numerators request) ≡ request.r * common_denominator request
  sum-numerators some whole =
      rw (sum-scaled (request.r / common_divisor request) request.shape, denominator_is some, whole) (crossed (common_divisor request) _ _ request.r request.total r_is total_is)

  module _ (i : ℕ) (here : i < length request.free) where
    some : 1 ≤ length request.free
    some = omega arith

    within : i < length request.shape
    within = omega (arith, is.paired)

    numerator_is : slice_index (numerators request) i ≡ slice_index request.shape i * (request.r / common_divisor request)
    numerator_is = get_or-map (λ shape. shape * (request.r / common_divisor request)) request.shape i 0 0 within

    pub numerator_positive : 1 ≤ slice_index (numerators request) i
    numerator_positive =
        rw numerator_is (one-le-mul (is.positive i within) (quotient_positive (common_divisor request) _ request.r r_is (is.drawn some)))

    pub numerator_below : slice_index (numerators request) i < common_denominator request
    numerator_below =
        rw (numerator_is, denominator_is some) (reduced_below (common_divisor request) _ _ request.r request.total r_is total_is (slice_index request.shape i) (is.below_one i within))

    -- numerator / denominator is shape * r / total
    pub numerator-cross : slice_index (numerators request) i * request.total ≡ slice_index request.shape i * request.r * common_denominator request
    numerator-cross =
        rw (numerator_is, denominator_is some) (cross_product (common_divisor request) _ _ request.r request.total r_is total_is (slice_index request.shape i))

    -- the numerator over the denominator is the probability of the free unit
    pub numerator_is_free_fraction : Same (over (slice_index (numerators request) i) (common_denominator request)) (free_fraction request i)
    numerator_is_free_fraction =
        over_same (slice_index (numerators request) i) (slice_index request.shape i * request.r) (common_denominator request) request.total denominator_positive (total_positive some) numerator-cross
