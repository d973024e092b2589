-- What is kept when a unit is taken out.
use Rattle.std.proofs.Common.{◌≡◌, ◌≢◌, ℕ, ◌-◌, ◌^◌, ◌<◌, ◌≤◌, true, false, Bool, List, length, length-set, get_or, set, arith, refl, sym, ap, ◌∙◌, inl, inr, true≢false}
use Rattle.std.specs.List.{range_with_len, sum_by}
use Rattle.std.proofs.{lemmas.Bool.{cases_eq, cases_lt}, lemmas.List.{get_or_past, get_or-set_same, get_or-set_other}}
use Rattle.smp_prob.specs.Requested.{certain_units}
use Rattle.smp_prob.proofs.Certain.{certain_within}
use Rattle.smp_elim.specs.{declared.cuts.Cut.{Cut}, Kept.Cuts.{InFallingOrder}, Kept.States.{IsKept, remaining}}
use Rattle.smp_elim.specs.Elimination.{Remaining, factor, left_count, fewer, is_certain_at, may_go, without, IsRemaining}
use Rattle.smp_elim.specs.{Kept.Weights.{IsReady, common_amount, fresh_amount}, Laws.Splits.{may_parts, one_fewer, after_belongs}}
use Rattle.smp_elim.specs.Laws.Weights.{stays, fresh, open_, gone, stands, enough, open_within, within}
use Rattle.smp_elim.proofs.{Finding.{IsWeighed, fresh_within, is_weighed}, Orders.{in_range, long, now_certain, not_later, stands_between}}

module _ (s : Remaining) (ok : IsRemaining (length s.sizes) s) (going : s.wanted < left_count s) (order : List ℕ) (falling : InFallingOrder s.sizes order) where
  abbrev count : ℕ
  count = length s.sizes

  -- after the units between the cuts are settled
  module _ (commons freshes commons' freshes' : List ℕ) (common_is : (k : ℕ) → k < count → get_or commons k 0 ≡ common_amount s.sizes s.left (left_count s) k) (fresh_is : (k : ℕ) → k < count → get_or freshes k 0 ≡ fresh_amount s.sizes (left_count s) k)
      (counted : (place : ℕ) → certain_units (fewer s) s.sizes ≤ place → place < certain_units (left_count s) s.sizes → get_or commons' (get_or order place 0) 0 ≡ 1)
      (taken : (place : ℕ) → certain_units (fewer s) s.sizes ≤ place → place < certain_units (left_count s) s.sizes → get_or freshes' (get_or order place 0) 0 ≡ 0)
      (others : (k : ℕ) → ((place : ℕ) → certain_units (fewer s) s.sizes ≤ place → place < certain_units (left_count s) s.sizes → get_or order place 0 ≢ k) → (get_or commons' k 0 ≡ get_or commons k 0) × (get_or freshes' k 0 ≡ get_or freshes k 0))
      (last : certain_units (left_count s) s.sizes ≤ count) where
    -- of a unit that isn't between them
    apart : (k : ℕ) → k < count → (is_certain_at s (left_count s) k ≡ true → is_certain_at s (fewer s) k ≡ false → ⊥) → (get_or commons' k 0 ≡ get_or commons k 0) × (get_or freshes' k 0 ≡ get_or freshes k 0)
    apart k here not_between =
        others k (λ place from to at. not_between (sym (ap (is_certain_at s (left_count s)) at) ∙ now_certain s.sizes order falling (left_count s) (enough count s ok) place to (omega arith)) (sym (ap (is_certain_at s (fewer s)) at) ∙ not_later s.sizes order falling (left_count s) (enough count s ok) place from (omega arith)))

    settled : (k : ℕ) → k < count → (get_or commons' k 0 ≡ common_amount s.sizes s.left (fewer s) k) × (get_or freshes' k 0 ≡ 0)
    settled k here =
        elim (stands count s ok going k here) [
          | stays f c p ↦
              (let same = apart k here (λ now later. true≢false (sym p ∙ later)) in
              let a = common_is k here in let b = fresh_is k here in
              (same.0 ∙ a ∙ rw (f, c, p) refl, same.1 ∙ b ∙ rw (c, p) refl))
          | fresh f c p ↦
              (let is = stands_between s.sizes order falling (left_count s) (enough count s ok) k here c p in
              let a = rw is.at at (counted is.place is.from is.to) in
              let b = rw is.at at (taken is.place is.from is.to) in
              (a ∙ rw (f, p) refl, b))
          | open_ f c p ↦
              (let same = apart k here (λ now later. true≢false (sym now ∙ c)) in
              let a = common_is k here in let b = fresh_is k here in
              (same.0 ∙ a ∙ rw (f, c, p) refl, same.1 ∙ b ∙ rw c refl))
          | gone f c p ↦
              (let same = apart k here (λ now later. true≢false (sym now ∙ c)) in
              let a = common_is k here in let b = fresh_is k here in
              (same.0 ∙ a ∙ rw f refl, same.1 ∙ b ∙ rw c refl))
        ]

    pub nothing_fresh : length freshes' ≡ count → (k : ℕ) → get_or freshes' k 0 ≡ 0
    nothing_fresh long k =
        elim (cases_lt k count) [
          | inl here ↦ (settled k here).1
          | inr past ↦ get_or_past freshes' k 0 (omega arith)
        ]

    -- and a unit is taken out
    pub common_after : (unit : ℕ) → unit < count → length commons' ≡ count → length s.left ≡ count → (k : ℕ) → k < count → get_or (set commons' unit 0) k 0 ≡ common_amount s.sizes (set s.left unit false) (fewer s) k
    common_after unit in_range long long_left k here =
        elim (cases_eq k unit) [
          | inl e ↦ rw (e, get_or-set_same commons' unit 0 0 (omega arith), get_or-set_same s.left unit false false (omega arith)) refl
          | inr other ↦ rw (get_or-set_other commons' unit k 0 0 other, get_or-set_other s.left unit k false false other) (settled k here).0
        ]

-- the amounts for the next step
pub after_narrow : (s : Remaining) (ok : IsRemaining (length s.sizes) s) (going : s.wanted < left_count s) (unit : ℕ) → unit < length s.sizes → may_go s unit ≡ true → s.wanted < fewer s → sum_by (fresh_amount s.sizes (fewer s)) (range_with_len 0 (length s.sizes)) < 2 ^ 63
after_narrow s ok going unit here may more =
    let one = one_fewer s unit (omega (arith, here, ok.count)) (may_parts s unit may).0 in
    let going_on : s.wanted < left_count (without s unit) = omega (arith, one, more) in
    let most = fresh_within (without s unit) (after_belongs s ok going unit here may) going_on in
    omega (arith, most, ap (λ (n : ℕ). sum_by (fresh_amount s.sizes n) (range_with_len 0 (length s.sizes))) one, open_within (fewer (without s unit)) s.sizes, ok.sizes.narrow)

-- ---- what the code keeps, in the words of the state

-- the units between the cuts are settled: what was written at their places, and nothing elsewhere
pub record IsSettled (order : List ℕ) (from to : ℕ) (common fresh common' fresh' : List ℕ) : Type 0 where
  pub common_length : length common' ≡ length common
  pub fresh_length : length fresh' ≡ length common
  pub counted : (place : ℕ) → from ≤ place → place < to → get_or common' (get_or order place 0) 0 ≡ 1
  pub taken : (place : ℕ) → from ≤ place → place < to → get_or fresh' (get_or order place 0) 0 ≡ 0
  pub others : (unit : ℕ) → ((place : ℕ) → from ≤ place → place < to → get_or order place 0 ≢ unit) → (get_or common' unit 0 ≡ get_or common unit 0) × (get_or fresh' unit 0 ≡ get_or fresh unit 0)

module _ {sizes order : List ℕ} {wanted : ℕ} {left : List Bool} {count : ℕ} {now next : Cut} {common fresh : List ℕ} (k : IsKept sizes order wanted left count now next common fresh) (going : wanted < left_count (remaining sizes wanted left)) where
  abbrev s : Remaining
  s = remaining sizes wanted left

  kept : IsWeighed s count now next common fresh (factor s)
  kept = is_weighed k going (factor s) refl

  pub is_ready : IsReady sizes count now next fresh
  is_ready = kept.ready

  now_is : now.count ≡ certain_units (left_count s) sizes
  now_is = k.now_cut.count_is ∙ ap (λ (n : ℕ). certain_units n sizes) k.count_is

  next_is : next.count ≡ certain_units (fewer s) sizes
  next_is = is_ready.next_cut.count_is ∙ ap (λ (n : ℕ). certain_units (n - 1) sizes) k.count_is

  last : certain_units (left_count s) sizes ≤ length sizes
  last = omega (arith, certain_within (left_count s) sizes (enough (length sizes) s k.state), within (length sizes) s k.state)

  -- the cut lies within the order, which has the units alone
  pub cut_within : now.count ≤ length order
  cut_within = omega (arith, now_is, last, long sizes order k.falling)

  pub units_within : (place : ℕ) → place < length order → get_or order place 0 < length common
  units_within place here = (let at = in_range sizes order k.falling place (omega (arith, here, long sizes order k.falling)) in omega (arith, at, k.common_length))

  module _ {common' fresh' : List ℕ} (settle : IsSettled order next.count now.count common fresh common' fresh') where
    counted : (place : ℕ) → certain_units (fewer s) sizes ≤ place → place < certain_units (left_count s) sizes → get_or common' (get_or order place 0) 0 ≡ 1
    counted place from to = settle.counted place (omega (arith, next_is, from)) (omega (arith, now_is, to))

    taken : (place : ℕ) → certain_units (fewer s) sizes ≤ place → place < certain_units (left_count s) sizes → get_or fresh' (get_or order place 0) 0 ≡ 0
    taken place from to = settle.taken place (omega (arith, next_is, from)) (omega (arith, now_is, to))

    others : (unit : ℕ) → ((place : ℕ) → certain_units (fewer s) sizes ≤ place → place < certain_units (left_count s) sizes → get_or order place 0 ≢ unit) → (get_or common' unit 0 ≡ get_or common unit 0) × (get_or fresh' unit 0 ≡ get_or fresh unit 0)
    others unit apart = settle.others unit (λ place from to. apart place (omega (arith, next_is, from)) (omega (arith, now_is, to)))

    pub none_fresh : (unit : ℕ) → get_or fresh' unit 0 ≡ 0
    none_fresh = nothing_fresh s k.state going order k.falling common fresh common' fresh' kept.common_is kept.fresh_is counted taken others last (settle.fresh_length ∙ k.common_length)

    pub common_long : length common' ≡ length sizes
    common_long = settle.common_length ∙ k.common_length

    module _ (unit : ℕ) (here : unit < length sizes) (may : may_go s unit ≡ true) where
      one_less : left_count (without s unit) ≡ count - 1
      one_less = (let one = one_fewer s unit (omega (arith, here, k.state.count)) (may_parts s unit may).0 in omega (arith, k.count_is, one))

      pub kept_after : {after : Cut} {fresh'' : List ℕ} → length fresh'' ≡ length sizes → (wanted < count - 1 → IsReady sizes (count - 1) next after fresh'') → IsKept sizes order wanted (set left unit false) (count - 1) next after (set common' unit 0) fresh''
      kept_after long_after ready_after = record {
        state = after_belongs s k.state going unit here may;
        falling = k.falling;
        count_is = sym one_less;
        now_cut = is_ready.next_cut;
        common_length = length-set common' unit 0 ∙ common_long;
        fresh_length = long_after;
        common_is = λ j j_here.
            common_after s k.state going order k.falling common fresh common' fresh' kept.common_is kept.fresh_is counted taken others last unit here common_long k.state.count j j_here ∙ ap (λ (n : ℕ). common_amount sizes (set left unit false) (n - 1) j) (sym k.count_is);
        ready = ready_after;
      }
