-- The answer to an offer: its parts are lawful; and the value of each unit while the offer stands, as one numerator over what the
-- largest size leaves of the total.
use Rattle.std.proofs.Common.{◌≡◌, ℕ, ◌+◌, ◌-◌, ◌*◌, ◌^◌, ◌<◌, ◌≤◌, false, nat_eq, cond, length, get_or}
use Rattle.std.proofs.Common.{set, arith, refl, ap, ◌∙◌, inl, inr, length-set}
use Rattle.std.proofs.Math.Nat.{mul-le-mul_left, one-le-mul}
use Rattle.std.proofs.lemmas.Bool.{cases_Bool, cases_eq, eq-eqb, ne_eqb}
use Rattle.std.proofs.lemmas.List.{get_or-set_same, get_or-set_other}
use Rattle.smp_frac.specs.Limits.{wide_limit}
use Rattle.smp_frac.specs.Fractions.{Fraction, Same, whole, plus, times, over}
use Rattle.smp_frac.proofs.Arithmetic.{same_refl, same_sym, same_trans, plus_same, times-one, divided_same, divided-times, times-back}
use Rattle.smp_split.specs.Parts.{moved}
use Rattle.smp_split.specs.Trees.{EachPart, IsPart, LawfulSplit, weight_sum, weighted}
use Rattle.smp_split.proofs.Over.{cancel_weight}
use Rattle.smp_split.specs.Laws.Parts.{plus-whole, weighted-part, weight_sum-part, each_part, weight_sum-moved, weighted-moved, each_moved}
use Rattle.smp_brewer.specs.declared.offers.Offers.{Offers}
use Rattle.smp_brewer.specs.Brewer.{offering, offered, total, largest, size_of, is_taken, allowed, offering_value, offered_value}
use Rattle.smp_brewer.specs.Brewer.{take_bound, take_weight, after_taken, after_refused, take_parts, brewing_tree, IsOffers}
use Rattle.smp_brewer.specs.Brewer.{IsBrewing}
use Rattle.smp_values.proofs.Largest.{largest-at, largest-within}
use Rattle.smp_brewer.specs.Laws.Sums.{sum-taken}
use Rattle.smp_brewer.specs.Laws.Identities.{InParts, in_parts, rest_is, other_keeps, same_keeps}

-- ---- numbers

-- a unit of size y taken, another of size z at most m
lighter_number : (all draws y m z : ℕ) → 1 ≤ draws → y ≤ m → z ≤ m → draws * m < all → (draws - 1) * z < all - y
lighter_number all draws y m z p h k l =
    let draws_is : draws ≡ draws - 1 + 1 = omega arith in
    let product : draws * m ≡ (draws - 1) * m + m = ap (λ x. x * m) draws_is ∙ omega arith in
    let below : (draws - 1) * z ≤ (draws - 1) * m = mul-le-mul_left (draws - 1) k in
    omega (arith, product, below)

-- another unit of size z, and the unit itself
taken_other : (all draws y m z a s e : ℕ) → 1 ≤ a → InParts all draws y m a s e
    → Same (plus (times (whole ((all - y) * (all - draws * m))) (over (z * (draws - 1)) (all - y)))
    (times (whole (all * (s * e))) (over (z * draws) all)))
    (times (whole ((all - m) * (all - draws * y))) (over (z * (draws - 1) + 0) (all - m)))
taken_other all draws y m z a s e p h =
    let y_pos : 1 ≤ all - y = omega (arith, h.without_y) in
    let m_pos : 1 ≤ all - m = omega (arith, h.without_m) in
    let t_pos : 1 ≤ all = omega (arith, h.total_is) in
    let s_is : draws - 1 ≡ s = omega (arith, h.draws_is) in
    let keeps : (all - draws * m) * (z * (draws - 1)) + s * e * (z * draws)
    ≡ (all - draws * y) * (z * (draws - 1)) =
    rw (s_is, h.spare_m, h.spare_y, h.draws_is) (other_keeps a s e z) in
    let none : z * (draws - 1) + 0 ≡ z * (draws - 1) = omega arith in
    same_trans (plus_same (cancel_weight (all - y) (all - draws * m) (z * (draws - 1)) y_pos) (cancel_weight all (s * e) (z * draws) t_pos))
    (same_trans (plus-whole ((all - draws * m) * (z * (draws - 1))) (s * e * (z * draws)))
    (rw (none, keeps) (same_sym (cancel_weight (all - m) (all - draws * y) (z * (draws - 1)) m_pos))))

taken_same : (all draws y m a s e : ℕ) → 1 ≤ a → InParts all draws y m a s e
    → Same (plus (times (whole ((all - y) * (all - draws * m))) (whole 1))
    (times (whole (all * (s * e))) (over (y * draws) all)))
    (times (whole ((all - m) * (all - draws * y))) (over (y * (draws - 1) + (all - draws * m)) (all - m)))
taken_same all draws y m a s e p h =
    let m_pos : 1 ≤ all - m = omega (arith, h.without_m) in
    let t_pos : 1 ≤ all = omega (arith, h.total_is) in
    let s_is : draws - 1 ≡ s = omega (arith, h.draws_is) in
    let keeps : (all - y) * (all - draws * m) + s * e * (y * draws)
    ≡ (all - draws * y) * (y * (draws - 1) + (all - draws * m)) =
    rw (s_is, h.spare_m, h.spare_y, h.without_y, h.draws_is) (same_keeps a s y e) in
    same_trans (plus_same (times-one (whole ((all - y) * (all - draws * m)))) (cancel_weight all (s * e) (y * draws) t_pos))
    (same_trans (plus-whole ((all - y) * (all - draws * m)) (s * e * (y * draws)))
    (rw keeps (same_sym (cancel_weight (all - m) (all - draws * y) (y * (draws - 1) + (all - draws * m)) m_pos))))

taken_taken : (a b w : ℕ) → a + b ≡ w → Same (plus (times (whole a) (whole 1)) (times (whole b) (whole 1)))
    (times (whole w) (whole 1))
taken_taken a b w h =
    same_trans (plus_same (times-one (whole a)) (times-one (whole b))) (same_trans (plus-whole a b) (rw h (same_sym (times-one (whole w)))))

square_below : (x y n : ℕ) → x ≤ n → y ≤ n → n < 2 ^ 49 → x * y < wide_limit
square_below x y n a b c =
    let one : x * y ≤ x * (2 ^ 49) = mul-le-mul_left x (omega arith) in
    omega (arith, one)

-- ---- the value of a unit

-- while unit j is offered: the numerator of an open unit over R - z_m, where z_m is the largest size; and the value of each unit
abbrev pub offered_number : Offers → ℕ → ℕ → ℕ
offered_number o j unit = size_of o unit * (o.draws - 1) + cond (nat_eq unit j) (total o - o.draws * largest o) 0

abbrev pub offered_over : Offers → ℕ → ℕ → Fraction
offered_over o j unit = cond (is_taken o unit) (whole 1) (over (offered_number o j unit) (total o - largest o))

module _ (units : ℕ) (o : Offers) (ok : IsOffers units o) (going : 1 ≤ o.draws) where
  pub some_left : 1 ≤ total o
  some_left = omega (arith, ok.light going 0)

  pub heaviest : o.draws * largest o < total o
  heaviest = largest-within o.sizes o.draws (total o) some_left (ok.light going)

  module _ (j : ℕ) (in_range : j < length o.sizes) (has_size : 1 ≤ size_of o j) where
    parts : InParts (total o) o.draws (size_of o j) (largest o) (total o - o.draws * largest o) (o.draws - 1) (largest o - size_of o j)
    parts = in_parts (total o) o.draws (size_of o j) (largest o) going (largest-at o.sizes j) heaviest

    rest_weight : take_bound o j - take_weight o j ≡ total o * ((o.draws - 1) * (largest o - size_of o j))
    rest_weight = omega (arith, rest_is (total o) o.draws (size_of o j) (largest o) _ _ _ parts)

    weights : take_weight o j + (take_bound o j - take_weight o j) ≡ take_bound o j
    weights = omega (arith, rest_is (total o) o.draws (size_of o j) (largest o) _ _ _ parts)

    weight_sum-take : weight_sum (take_parts o j) ≡ take_bound o j
    weight_sum-take = ap (λ x. take_weight o j + x) (weight_sum-part (take_bound o j - take_weight o j) (after_refused o)) ∙ weights

    left_total : total (after_taken o j) ≡ total o - size_of o j
    left_total = omega (arith, sum-taken o.sizes j in_range)

    both_even : (k : ℕ) → Same (plus (times (whole (take_weight o j)) (offering_value (after_taken o j) k))
        (times (whole (take_bound o j - take_weight o j)) (offering_value (after_refused o) k)))
        (times (whole (take_bound o j)) (offered_over o j k))
    both_even k =
        elim (cases_eq k j) [
          | inl e ↦
              (let free : nat_eq (size_of o j) 0 ≡ false = ne_eqb (size_of o j) 0 (omega arith) in
              rw (e, get_or-set_same o.sizes j 0 0 in_range, free, eq-eqb j j refl, rest_weight)
              (taken_same (total o) o.draws (size_of o j) (largest o) _ _ _ (omega (arith, heaviest)) parts))
          | inr n ↦ elim (cases_Bool (nat_eq (size_of o k) 0)) [
            | inl e ↦ rw (get_or-set_other o.sizes j k 0 0 n, e)
                (taken_taken (take_weight o j) (take_bound o j - take_weight o j) (take_bound o j) weights)
            | inr e ↦ rw (get_or-set_other o.sizes j k 0 0 n, e, ne_eqb k j n, left_total, rest_weight)
                (taken_other (total o) o.draws (size_of o j) (largest o) (size_of o k) _ _ _
                (omega (arith, heaviest)) parts)
          ]
        ]

    weighted-take : (k : ℕ) → Same (weighted (λ after. offering_value after k) (take_parts o j))
        (times (whole (take_bound o j)) (offered_over o j k))
    weighted-take k =
        same_trans (plus_same (same_refl (times (whole (take_weight o j)) (offering_value (after_taken o j) k)))
        (weighted-part (take_bound o j - take_weight o j) (after_refused o) (λ after. offering_value after k))) (both_even k)

    weight_positive : 1 ≤ take_weight o j
    weight_positive = one-le-mul (let some : 1 ≤ total o - size_of o j = omega (arith, parts.without_y, heaviest) in
        some) (let spare : 1 ≤ total o - o.draws * largest o = omega (arith, heaviest) in spare)

    some_bound : 1 ≤ take_bound o j
    some_bound = omega (arith, weights, weight_positive)

    pub offered_is : (k : ℕ) → Same (offered_value o j k) (offered_over o j k)
    offered_is k = same_trans (divided_same (take_bound o j) (weighted-take k))
        (divided-times (take_bound o j) (offered_over o j k) some_bound)

    -- no other unit passes 1 by it
    lighter : (k : ℕ) → (o.draws - 1) * get_or (set o.sizes j 0) k 0 < total (after_taken o j)
    lighter k = rw left_total (lighter_number (total o) o.draws (size_of o j) (largest o)
        (get_or (set o.sizes j 0) k 0) going (largest-at o.sizes j) (below k) heaviest)
      where
        below : (k : ℕ) → get_or (set o.sizes j 0) k 0 ≤ largest o
        below k =
            elim (cases_eq k j) [
              | inl e ↦ rw (e, get_or-set_same o.sizes j 0 0 in_range) (omega arith)
              | inr n ↦ rw (get_or-set_other o.sizes j k 0 0 n) (largest-at o.sizes k)
            ]

    taken_belongs : IsOffers units (after_taken o j)
    taken_belongs = record {
      count = simp length-set ok.count;
      light = λ _. lighter;
      narrow = omega (arith, left_total, ok.narrow);
      again = ok.again;
    }

    refused_belongs : o.refused < allowed units → IsOffers units (after_refused o)
    refused_belongs left = record { count = ok.count; light = ok.light; narrow = ok.narrow; again = omega (arith, left) }

    pub bound_is : weight_sum (moved offering (take_parts o j)) ≡ take_bound o j
    bound_is = weight_sum-moved offering (take_parts o j) ∙ weight_sum-take

    take_even : (k : ℕ) → Same (weighted (λ s. (brewing_tree units).value s k) (moved offering (take_parts o j)))
        (times (whole (weight_sum (moved offering (take_parts o j)))) (offered_value o j k))
    take_even k =
        rw (weighted-moved offering (λ s. (brewing_tree units).value s k) (take_parts o j), bound_is)
        (same_sym (times-back (take_bound o j) (weighted (λ after. offering_value after k) (take_parts o j)) some_bound))

    take_each : o.refused < allowed units
        → EachPart (λ p. IsPart (brewing_tree units) (IsBrewing units) (offered o j)
        (record { weight = p.weight; state = offering p.state })) (take_parts o j)
    take_each left = (
      record { heavy = weight_positive; falls = omega (arith, going); member = taken_belongs },
      each_part (take_bound o j - take_weight o j) (after_refused o)
          (λ p. IsPart (brewing_tree units) (IsBrewing units) (offered o j)
          (record { weight = p.weight; state = offering p.state }))
          (λ h. record { heavy = h; falls = omega (arith, left); member = refused_belongs left }),
    )

    pub take_split : o.refused < allowed units → LawfulSplit (brewing_tree units) (IsBrewing units) (offered o j)
    take_split left = record {
      some = rw bound_is some_bound;
      narrow = rw bound_is (square_below (total o - largest o) (total o - o.draws * size_of o j) (total o)
          (omega arith) (omega arith) ok.narrow);
      each =
          each_moved offering (λ p. IsPart (brewing_tree units) (IsBrewing units) (offered o j)
          (record { weight = p.weight; state = offering p.state }))
          (IsPart (brewing_tree units) (IsBrewing units) (offered o j))
          (λ p is. is) (take_parts o j) (take_each left);
      even = λ k _. take_even k;
    }
