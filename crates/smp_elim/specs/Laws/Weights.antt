-- The weights of a step: each is at least 1, and they add up to the bound.
use Rattle.std.proofs.Common.{◌≡◌, ℕ, suc, ◌+◌, ◌*◌, ◌^◌, ◌<◌, ◌≤◌, Bool, true, false, cond, not, nat_lt}
use Rattle.std.proofs.Common.{List, [], ◌∷◌, length, get_or, arith, refl, sym, ap, ◌∙◌, inl, inr, true≢false}
use Rattle.std.specs.List.{range_with_len, sum, sum_by}
use Rattle.std.proofs.Math.Nat.{mul-le-mul_right, one-le-mul}
use Rattle.std.proofs.lemmas.Bool.{cases_Bool, and_parts, lt-ltb}
use Rattle.std.proofs.lemmas.List.Sums.{sum_by-cons, sum_by-le-sum_by, count_by-le-length}
use Rattle.smp_frac.specs.Limits.{most_rows}
use Rattle.smp_prob.specs.Requested.{is_certain, certain_units, open_total, positive_units}
use Rattle.smp_prob.proofs.Certain.{certain_within, full_share, part_share, some_draw, still_certain}
use Rattle.smp_split.specs.Trees.{weight_sum}
use Rattle.smp_split.proofs.Counts.{sum_by-indices, count_by-indices}
use Rattle.smp_split.proofs.Units.{weight_sum-units}
use Rattle.smp_split.proofs.Units as units
use Rattle.smp_elim.specs.Elimination.{Remaining, size_of, is_left, left_count, fewer, is_certain_at, draws_at, total_at, factor, bound_of}
use Rattle.smp_elim.specs.Elimination.{weight_of, may_go, without, eliminate_parts, AreSizes, IsRemaining}
use Rattle.smp_elim.specs.Laws.Numbers.{sum_is, open_above, fresh_rest}
use Rattle.smp_elim.specs.Laws.Sums.{sum_by-plus, sum_by-times, sum_by-three, sum_by-below, sum_by-most}

pub all_positive : (zs : List ℕ) → ((k : ℕ) → k < length zs → 1 ≤ get_or zs k 0) → positive_units zs ≡ length zs
all_positive [] h = refl
all_positive (z ∷ zs) h =
    rw (sum_by-cons (λ (x : ℕ). cond (nat_lt 0 x) 1 0) z zs, lt-ltb 0 z (h 0 (omega arith)))
    (omega (arith, all_positive zs (λ k l. h (suc k) (omega arith))))

-- the sizes that aren't certain are some of all
pub open_within : (n : ℕ) (sizes : List ℕ) → open_total n sizes ≤ sum sizes
open_within n sizes = sum_by-le-sum_by (λ z. cond (is_certain n sizes z) 0 z) (λ z. z) sizes
    (λ z. elim (cases_Bool (is_certain n sizes z)) [ inl e ↦ rw e (omega arith) | inr e ↦ rw e (omega arith) ])

pub sizes_enough : (count : ℕ) (sizes : List ℕ) (wanted n : ℕ) → AreSizes count sizes wanted → n ≤ count
    → n ≤ positive_units sizes
sizes_enough count sizes wanted n ok h =
    let all = all_positive sizes (λ k l. ok.positive k (omega (arith, l, ok.count))) in
    omega (arith, all, ok.count)

-- how a unit stands at a step: it stays certain; it is certain no more when it may be taken out; it isn't certain, and is left; or
-- it is gone
pub data Stands (s : Remaining) (unit : ℕ) : Type 0 where
  stays : is_left s unit ≡ true → is_certain_at s (left_count s) unit ≡ true → is_certain_at s (fewer s) unit ≡ true
      → Stands s unit
  fresh : is_left s unit ≡ true → is_certain_at s (left_count s) unit ≡ true
      → is_certain_at s (fewer s) unit ≡ false → Stands s unit
  open_ : is_left s unit ≡ true → is_certain_at s (left_count s) unit ≡ false
      → is_certain_at s (fewer s) unit ≡ false → Stands s unit
  gone : is_left s unit ≡ false → is_certain_at s (left_count s) unit ≡ false
      → is_certain_at s (fewer s) unit ≡ false → Stands s unit

module _ (count : ℕ) (s : Remaining) (ok : IsRemaining count s) where
  pub within : left_count s ≤ count
  within = omega (arith, count_by-le-length (λ (b : Bool). b) s.left, ok.count)

  pub enough : left_count s ≤ positive_units s.sizes
  enough = sizes_enough count s.sizes s.wanted (left_count s) ok.sizes within

  pub enough_fewer : fewer s ≤ positive_units s.sizes
  enough_fewer = omega (arith, enough)

  -- ---- sums over the units

  abbrev ks : List ℕ
  ks = range_with_len 0 count

  abbrev one_left : ℕ → ℕ
  one_left k = cond (is_left s k) 1 0

  abbrev one_certain : ℕ → ℕ → ℕ
  one_certain n k = cond (is_certain_at s n k) 1 0

  abbrev open_size : ℕ → ℕ → ℕ
  open_size n k = cond (is_certain_at s n k) 0 (size_of s k)

  sum_left : sum_by one_left ks ≡ left_count s
  sum_left = count_by-indices (λ (b : Bool). b) s.left false count ok.count

  sum_certain_at : (n : ℕ) → sum_by (one_certain n) ks ≡ certain_units n s.sizes
  sum_certain_at n = count_by-indices (is_certain n s.sizes) s.sizes 0 count ok.sizes.count

  sum_open_at : (n : ℕ) → sum_by (open_size n) ks ≡ total_at s n
  sum_open_at n = sum_by-indices (λ z. cond (is_certain n s.sizes z) 0 z) s.sizes 0 count ok.sizes.count

  -- ---- while units are taken out

  module _ (going : s.wanted < left_count s) where
    fewer_is : fewer s + 1 ≡ left_count s
    fewer_is = omega (arith, going)

    some_wanted : 1 ≤ s.wanted
    some_wanted = ok.sizes.some (omega (arith, within, going))

    pub some_fewer : 1 ≤ fewer s
    some_fewer = omega (arith, some_wanted, going)

    by_certain : left_count s ≡ certain_units (left_count s) s.sizes + draws_at s (left_count s)
    by_certain = omega (arith, certain_within (left_count s) s.sizes enough)

    by_fewer : left_count s ≡ certain_units (fewer s) s.sizes + draws_at s (fewer s) + 1
    by_fewer = omega (arith, certain_within (fewer s) s.sizes enough_fewer, fewer_is)

    module _ (k : ℕ) (here : k < count) where
      still : is_certain_at s (fewer s) k ≡ true → is_certain_at s (left_count s) k ≡ true
      still certain = rw (← fewer_is) (still_certain (fewer s) s.sizes (size_of s k) certain)

      pub stands : Stands s k
      stands =
          elim (cases_Bool (is_certain_at s (fewer s) k)) [
            | inl p ↦ stays (ok.certain k here (still p)) (still p) p
            | inr p ↦ elim (cases_Bool (is_certain_at s (left_count s) k)) [
              | inl c ↦ fresh (ok.certain k here c) c p
              | inr c ↦ elim (cases_Bool (is_left s k)) [ inl l ↦ open_ l c p | inr l ↦ gone l c p ]
            ]
          ]

      pub part_fewer : is_certain_at s (fewer s) k ≡ false → draws_at s (fewer s) * size_of s k < total_at s (fewer s)
      part_fewer p = part_share (fewer s) s.sizes enough_fewer k (ok.sizes.positive k here) p

      pub draws_fewer : is_certain_at s (fewer s) k ≡ false → 1 ≤ draws_at s (fewer s)
      draws_fewer p = some_draw (fewer s) s.sizes enough_fewer k some_fewer (ok.sizes.positive k here) p

      pub part_now : is_certain_at s (left_count s) k ≡ false → draws_at s (left_count s) * size_of s k < total_at s (left_count s)
      part_now c = part_share (left_count s) s.sizes enough k (ok.sizes.positive k here) c

      pub draws_now : is_certain_at s (left_count s) k ≡ false → 1 ≤ draws_at s (left_count s)
      draws_now c = some_draw (left_count s) s.sizes enough k (omega (arith, going)) (ok.sizes.positive k here) c

      full_now : is_certain_at s (left_count s) k ≡ true → total_at s (left_count s) ≤ draws_at s (left_count s) * size_of s k
      full_now c = full_share (left_count s) s.sizes enough k c

    -- no size is left where no draw is
    none_open : draws_at s (left_count s) ≡ 0 → total_at s (left_count s) ≡ 0
    none_open none =
        let each : (k : ℕ) → k < 0 + count → open_size (left_count s) k ≤ 0 * one_left k =
        (λ k l. elim (cases_Bool (is_certain_at s (left_count s) k)) [
          | inl c ↦ rw c (omega arith)
          | inr c ↦ absurd (omega (arith, draws_now k (omega arith) c, none))
        ]) in
        omega (
          arith,
          sum_by-most (open_size (left_count s)) (λ k. 0 * one_left k) count 0 each,
          sum_by-times 0 one_left ks,
          sum_open_at (left_count s),
        )

    -- some size is open when one fewer is left
    pub some_open : 1 ≤ total_at s (fewer s)
    some_open =
        let each : (k : ℕ) → k < 0 + count → one_left k ≤ one_certain (fewer s) k + open_size (fewer s) k =
        (λ k l. elim (cases_Bool (is_certain_at s (fewer s) k)) [
          | inl p ↦ rw p (one_most (is_left s k))
          | inr p ↦ rw p (one_within (is_left s k) (size_of s k) (ok.sizes.positive k (omega arith)))
        ]) in
        omega (
          arith,
          sum_by-most one_left (λ k. one_certain (fewer s) k + open_size (fewer s) k) count 0 each,
          sum_by-plus (one_certain (fewer s)) (open_size (fewer s)) ks,
          sum_left,
          sum_certain_at (fewer s),
          sum_open_at (fewer s),
          by_fewer,
        )
      where
        one_most : (b : Bool) → cond b 1 0 ≤ 1 + 0
        one_most true = omega arith
        one_most false = omega arith

        one_within : (b : Bool) (z : ℕ) → 1 ≤ z → cond b 1 0 ≤ 0 + z
        one_within true z h = omega arith
        one_within false z h = omega arith

    -- what a unit that isn't certain loses by the step is less than all that it has
    pub open_keeps : draws_at s (fewer s) * total_at s (left_count s) + total_at s (left_count s)
        ≤ total_at s (fewer s) * draws_at s (left_count s)
    open_keeps =
        let g : ℕ = draws_at s (left_count s) in
        let r : ℕ = total_at s (left_count s) in
        let now : ℕ → ℕ = λ k. g * open_size (left_count s) k + r * one_certain (left_count s) k in
        let then_ : ℕ → ℕ = λ k. g * open_size (fewer s) k + r * one_certain (fewer s) k in
        let each : (k : ℕ) → k < 0 + count → now k ≤ then_ k = (λ k l. elim (stands k (omega arith)) [
          | stays f c p ↦ rw (c, p) (omega arith)
          | fresh f c p ↦ rw (c, p) (omega (arith, full_now k (omega arith) c))
          | open_ f c p ↦ rw (c, p) (omega arith)
          | gone f c p ↦ rw (c, p) (omega arith)
        ]) in
        let most = sum_by-most now then_ count 0 each in
        let sum_now = sum_by-plus (λ k. g * open_size (left_count s) k) (λ k. r * one_certain (left_count s) k) ks in
        let sum_then = sum_by-plus (λ k. g * open_size (fewer s) k) (λ k. r * one_certain (fewer s) k) ks in
        open_above (left_count s) (certain_units (left_count s) s.sizes) g (certain_units (fewer s) s.sizes)
        (draws_at s (fewer s)) r (total_at s (fewer s)) by_certain by_fewer
        (omega (
          arith,
          most,
          sum_now,
          sum_then,
          sum_by-times g (open_size (left_count s)) ks,
          sum_by-times r (one_certain (left_count s)) ks,
          sum_by-times g (open_size (fewer s)) ks,
          sum_by-times r (one_certain (fewer s)) ks,
          ap (λ x. g * x) (sum_open_at (left_count s)),
          ap (λ x. r * x) (sum_certain_at (left_count s)),
          ap (λ x. g * x) (sum_open_at (fewer s)),
          ap (λ x. r * x) (sum_certain_at (fewer s)),
        ))

    pub factor_now : (k : ℕ) → k < count → is_certain_at s (left_count s) k ≡ false → factor s ≡ draws_at s (left_count s)
    factor_now k here c = omega (arith, draws_now k here c)

    -- what a unit that may be taken out is, and what its weight leaves of the bound
    pub some_weight : (k : ℕ) → k < count → may_go s k ≡ true → 1 ≤ weight_of s k
    some_weight k here may =
        let parts = and_parts (is_left s k) (not (is_certain_at s (fewer s) k)) may in
        elim (stands k here) [
          | stays f c p ↦ (let none = rw p at parts.1 in absurd (true≢false (sym none)))
          | fresh f c p ↦ rw c (one-le-mul (let some : 1 ≤ factor s = omega arith in some)
              (let less = part_fewer k here p in omega (arith, less)))
          | open_ f c p ↦ rw c (let q = factor_now k here c in rw q (omega (arith, open_keeps, part_now k here c)))
          | gone f c p ↦ absurd (true≢false (sym parts.0 ∙ f))
        ]

    -- the weight of each unit, 0 where it may not be taken out
    abbrev pub weight_at : ℕ → ℕ
    weight_at = units.counted (may_go s) (weight_of s) (without s)

    balance : (k : ℕ) → k < count → weight_at k +
        (bound_of s * one_certain (fewer s) k +
        (factor s * draws_at s (fewer s) * open_size (fewer s) k + draws_at s (fewer s) * total_at s (left_count s)
        * one_left k)) ≡ bound_of s * one_left k +
        (factor s * draws_at s (fewer s) * open_size (left_count s) k + draws_at s (fewer s) * total_at s
        (left_count s) * one_certain (left_count s) k)
    balance k here =
        elim (stands k here) [
          | stays f c p ↦ rw (f, c, p) (omega arith)
          | fresh f c p ↦ rw (f, c, p) (omega (
            arith,
            fresh_rest (factor s) (draws_at s (fewer s)) (total_at s (fewer s)) (size_of s k)
                (let less = part_fewer k here p in omega (arith, less)),
          ))
          | open_ f c p ↦ rw (f, c, p) (omega (arith, open_keeps, ap (λ x. total_at s (fewer s) * x) (factor_now k here c)))
          | gone f c p ↦ rw (f, c, p) (omega arith)
        ]

    pub sum_weights : sum_by weight_at ks ≡ bound_of s
    sum_weights =
        let a : ℕ = bound_of s in
        let b : ℕ = factor s * draws_at s (fewer s) in
        let c : ℕ = draws_at s (fewer s) * total_at s (left_count s) in
        let low : ℕ → ℕ = λ k. a * one_certain (fewer s) k + (b * open_size (fewer s) k + c * one_left k) in
        let high : ℕ → ℕ = λ k. a * one_left k + (b * open_size (left_count s) k + c * one_certain (left_count s) k) in
        let same = sum_by-below (λ k. weight_at k + low k) high count 0 (λ k l. balance k (omega arith)) in
        sum_is (sum_by weight_at ks) (left_count s) (certain_units (left_count s) s.sizes)
        (draws_at s (left_count s)) (certain_units (fewer s) s.sizes) (draws_at s (fewer s))
        (total_at s (left_count s)) (total_at s (fewer s)) by_certain by_fewer none_open
        (omega (
          arith,
          same,
          sum_by-plus weight_at low ks,
          sum_by-three a b c (one_certain (fewer s)) (open_size (fewer s)) one_left ks,
          sum_by-three a b c one_left (open_size (left_count s)) (one_certain (left_count s)) ks,
          ap (λ x. a * x) (sum_certain_at (fewer s)),
          ap (λ x. b * x) (sum_open_at (fewer s)),
          ap (λ x. c * x) sum_left,
          ap (λ x. a * x) sum_left,
          ap (λ x. b * x) (sum_open_at (left_count s)),
          ap (λ x. c * x) (sum_certain_at (left_count s)),
        ))

    pub bound_is : weight_sum (eliminate_parts s) ≡ bound_of s
    bound_is =
        weight_sum-units (may_go s) (weight_of s) (without s) (length s.sizes)
        ∙ ap (λ n. sum_by weight_at (range_with_len 0 n)) ok.sizes.count ∙ sum_weights

    -- the bound, which is at least 1, is below 2^67
    pub some_bound : 1 ≤ bound_of s
    some_bound = one-le-mul some_open (let some : 1 ≤ factor s = omega arith in some)

    pub bound_narrow : bound_of s < 2 ^ 67
    bound_narrow =
        let most : total_at s (fewer s) ≤ sum s.sizes = open_within (fewer s) s.sizes in
        let few : factor s ≤ most_rows = omega (arith, within, ok.sizes.few, going) in
        let wide : total_at s (fewer s) * factor s ≤ 2 ^ 49 * factor s =
        mul-le-mul_right (factor s) (omega (arith, most, ok.sizes.narrow)) in
        omega (arith, wide, few)
