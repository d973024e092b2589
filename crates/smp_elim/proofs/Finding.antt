-- The unit that a draw leads to, by the amounts that are kept.
use Rattle.std.proofs.Common.{◌≡◌, ℕ, zero, suc, ◌+◌, ◌-◌, ◌*◌, ◌^◌, ◌<◌, ◌≤◌, true, Bool, List, length, get_or, arith, refl, sym, ap, ◌∙◌, inl, inr}
use Rattle.std.specs.List.{range_with_len, sum, sum_by}
use Rattle.std.proofs.{Math.Nat.{mul-le-mul_left}, lemmas.Bool.{cases_Bool, cases_lt}}
use Rattle.smp_places.specs.Amounts.{weighted_before}
use Rattle.smp_places.proofs.Summing.{weighted_all, weighted_more, weighted_none}
use Rattle.smp_split.specs.Trees.{picked}
use Rattle.smp_split.proofs.{Sums.{sum_by-last}, Units.{picked-units}}
use Rattle.smp_prob.specs.Requested.{certain_units, open_total}
use Rattle.smp_prob.proofs.Certain.{certain_within}
use Rattle.smp_elim.specs.{declared.cuts.Cut.{Cut}, Kept.States.{IsKept, remaining}, Kept.Weights.{IsReady, common_amount, fresh_amount}}
use Rattle.smp_elim.specs.Elimination.{Remaining, left_count, fewer, draws_at, total_at, factor, bound_of, weight_of, may_go, without, eliminate_parts, IsRemaining}
use Rattle.smp_elim.specs.Laws.Sums.{sum_by-most, sum_by-times}
use Rattle.smp_elim.specs.Laws.Weights.{stays, fresh, open_, gone, stands, weight_at, sum_weights, bound_narrow, enough_fewer, open_keeps}

-- the weight of a unit that isn't certain
abbrev pub common_weight : Remaining → ℕ
common_weight s = total_at s (fewer s) * factor s - draws_at s (fewer s) * total_at s (left_count s)

module _ (s : Remaining) (ok : IsRemaining (length s.sizes) s) (going : s.wanted < left_count s) where
  abbrev units : ℕ
  units = length s.sizes

  weight_by : (k : ℕ) → k < units → weight_at units s ok going k ≡ common_weight s * common_amount s.sizes s.left (left_count s) k + factor s * fresh_amount s.sizes (left_count s) k
  weight_by k here =
      elim (stands units s ok going k here) [
        | stays f c p ↦ rw (f, c, p) (omega arith)
        | fresh f c p ↦ rw (f, c, p) (omega arith)
        | open_ f c p ↦ rw (f, c, p) (omega arith)
        | gone f c p ↦ rw (f, c) (omega arith)
      ]

  -- the amounts of units that are certain now alone
  pub fresh_within : sum_by (fresh_amount s.sizes (left_count s)) (range_with_len 0 units) ≤ total_at s (fewer s)
  fresh_within =
      let sum : ℕ = sum_by (fresh_amount s.sizes (left_count s)) (range_with_len 0 units) in
      let most = sum_by-most (λ k. factor s * fresh_amount s.sizes (left_count s) k) (weight_at units s ok going) units 0 (λ k l. omega (arith, weight_by k (omega arith))) in
      let all = sum_by-times (factor s) (fresh_amount s.sizes (left_count s)) (range_with_len 0 units) in
      let weights = sum_weights units s ok going in
      elim (cases_lt (total_at s (fewer s)) sum) [
        | inr within ↦ within
        | inl above ↦ (let more : factor s * (total_at s (fewer s) + 1) ≤ factor s * sum = mul-le-mul_left (factor s) (omega arith) in
            let some : 1 ≤ factor s = omega arith in absurd (omega (arith, most, all, weights, more, some)))
      ]

module _ (s : Remaining) (ok : IsRemaining (length s.sizes) s) (going : s.wanted < left_count s) (commons freshes : List ℕ) (common_is : (k : ℕ) → k < length s.sizes → get_or commons k 0 ≡ common_amount s.sizes s.left (left_count s) k) (fresh_is : (k : ℕ) → k < length s.sizes → get_or freshes k 0 ≡ fresh_amount s.sizes (left_count s) k) where
  abbrev count : ℕ
  count = length s.sizes

  abbrev w : ℕ
  w = common_weight s

  -- the weights before a unit
  pub before_unit : (unit : ℕ) → unit ≤ count → weighted_before w commons (factor s) freshes unit ≡ sum_by (weight_at count s ok going) (range_with_len 0 unit)
  before_unit zero h = weighted_none w commons (factor s) freshes
  before_unit (suc unit) h =
      let next : suc unit ≡ unit + 1 = omega arith in
      let none : 0 + unit ≡ unit = omega arith in
      let last = sum_by-last unit 0 (weight_at count s ok going) in
      let own = weight_by s ok going unit (omega arith) in
      let more = weighted_more w commons (factor s) freshes unit in
      let kept : w * get_or commons unit 0 + factor s * get_or freshes unit 0 ≡ w * common_amount s.sizes s.left (left_count s) unit + factor s * fresh_amount s.sizes (left_count s) unit = rw (common_is unit (omega arith), fresh_is unit (omega arith)) refl in
      ap (weighted_before w commons (factor s) freshes) next ∙ more
      ∙ omega (arith, last, own, kept, before_unit unit (omega arith), ap (weight_at count s ok going) none)

  pub all_units : length commons ≡ count → length freshes ≡ count → w * sum commons + factor s * sum freshes ≡ bound_of s
  all_units p q =
      sym (weighted_all w commons (factor s) freshes count (omega arith) (omega arith)) ∙ before_unit count (omega arith) ∙ sum_weights count s ok going

  module _ (unit draw : ℕ) (here : unit < count) (from : weighted_before w commons (factor s) freshes unit ≤ draw) (passes : draw < weighted_before w commons (factor s) freshes (unit + 1)) where
    past : sum_by (weight_at count s ok going) (range_with_len 0 unit) ≤ draw
    past = omega (arith, from, before_unit unit (omega arith))

    in_own : draw < sum_by (weight_at count s ok going) (range_with_len 0 unit) + weight_at count s ok going unit
    in_own =
        let next : unit + 1 ≡ suc unit = omega arith in
        let none : 0 + unit ≡ unit = omega arith in
        omega (arith, passes, ap (weighted_before w commons (factor s) freshes) next, before_unit (suc unit) (omega arith), sum_by-last unit 0 (weight_at count s ok going), ap (weight_at count s ok going) none)

    pub found_may : may_go s unit ≡ true
    found_may =
        elim (cases_Bool (may_go s unit)) [
          | inl e ↦ e
          | inr e ↦ (let none : weight_at count s ok going unit ≡ zero = rw e refl in absurd (omega (arith, past, in_own, none)))
        ]

    pub found_is : without s unit ≡ picked s (eliminate_parts s) draw
    found_is = sym (picked-units (may_go s) (weight_of s) (without s) s count unit draw here past in_own)

-- ---- what the code keeps, in the words of the state

-- the amounts and the numbers of a step, with the factor f of all weights
pub record IsWeighed (s : Remaining) (count : ℕ) (now next : Cut) (common fresh : List ℕ) (f : ℕ) : Type 0 where
  pub ready : IsReady s.sizes count now next fresh
  pub common_is : (unit : ℕ) → unit < length s.sizes → get_or common unit 0 ≡ common_amount s.sizes s.left (left_count s) unit
  pub fresh_is : (unit : ℕ) → unit < length s.sizes → get_or fresh unit 0 ≡ fresh_amount s.sizes (left_count s) unit
  pub factor_is : f ≡ factor s
  pub bound : next.rest * f ≡ bound_of s
  pub narrow : bound_of s < 2 ^ 67
  pub some : 1 ≤ count
  pub draws : next.count ≤ count - 1
  pub within : (count - 1 - next.count) * now.rest ≤ next.rest * f
  pub weight_is : next.rest * f - (count - 1 - next.count) * now.rest ≡ common_weight s
  pub all : common_weight s * sum common + factor s * sum fresh ≡ bound_of s

pub is_weighed : {sizes order : List ℕ} {wanted : ℕ} {left : List Bool} {count : ℕ} {now next : Cut} {common fresh : List ℕ} → IsKept sizes order wanted left count now next common fresh → wanted < left_count (remaining sizes wanted left) → (f : ℕ) → f ≡ factor (remaining sizes wanted left)
    → IsWeighed (remaining sizes wanted left) count now next common fresh f
is_weighed {sizes} {order} {wanted} {left} {count} {now} {next} {common} {fresh} k going f factor_is =
    let s : Remaining = remaining sizes wanted left in
    let ready = k.ready (omega (arith, going, k.count_is)) in
    let total_is : next.rest ≡ total_at s (fewer s) = ready.next_cut.rest_is ∙ ap (λ (n : ℕ). open_total (n - 1) sizes) k.count_is in
    let product : next.rest * f ≡ bound_of s = ap (λ (x : ℕ). x * f) total_is ∙ ap (λ (x : ℕ). total_at s (fewer s) * x) factor_is in
    let rest_is : now.rest ≡ total_at s (left_count s) = k.now_cut.rest_is ∙ ap (λ (n : ℕ). open_total n sizes) k.count_is in
    let next_is = ready.next_cut.count_is ∙ ap (λ (n : ℕ). certain_units (n - 1) sizes) k.count_is in
    let later = certain_within (fewer s) sizes (enough_fewer (length sizes) s k.state) in
    let draws_is : count - 1 - next.count ≡ draws_at s (fewer s) = omega (arith, k.count_is, next_is) in
    let other : (count - 1 - next.count) * now.rest ≡ draws_at s (fewer s) * total_at s (left_count s) = ap (λ (x : ℕ). x * now.rest) draws_is ∙ ap (λ (x : ℕ). draws_at s (fewer s) * x) rest_is in
    let keeps = open_keeps (length sizes) s k.state going in
    let wider : total_at s (fewer s) * draws_at s (left_count s) ≤ total_at s (fewer s) * factor s = mul-le-mul_left (total_at s (fewer s)) (omega arith) in
    let common_is : (unit : ℕ) → unit < length sizes → get_or common unit 0 ≡ common_amount sizes left (left_count s) unit = (λ unit here. k.common_is unit here ∙ ap (λ (n : ℕ). common_amount sizes left n unit) k.count_is) in
    let fresh_is : (unit : ℕ) → unit < length sizes → get_or fresh unit 0 ≡ fresh_amount sizes (left_count s) unit = (λ unit here. ready.amounts unit here ∙ ap (λ (n : ℕ). fresh_amount sizes n unit) k.count_is) in
    record {
      ready = ready;
      common_is = common_is;
      fresh_is = fresh_is;
      factor_is = factor_is;
      bound = product;
      narrow = bound_narrow (length sizes) s k.state going;
      some = omega (arith, k.count_is, going);
      draws = omega (arith, k.count_is, next_is, later);
      within = omega (arith, product, other, keeps, wider);
      weight_is = omega (arith, product, other);
      all = all_units s k.state going common fresh common_is fresh_is k.common_length k.fresh_length;
    }
