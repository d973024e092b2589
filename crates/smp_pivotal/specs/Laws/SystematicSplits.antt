-- The law of systematic selection: its split is lawful, and leaves a sum of the values that is one of the whole numbers around theirs.
use Rattle.std.proofs.Common.{◌≡◌, ℕ, zero, suc, ◌+◌, ◌-◌, ◌*◌, ◌<◌, ◌≤◌, Bool, true, false, cond}
use Rattle.std.proofs.Common.{nat_eq, List, length, get_or, arith, refl, sym, ap, ◌∙◌, inl, inr}
use Rattle.std.specs.List.{sum}
use Rattle.std.proofs.Math.Seq.{take-length}
use Rattle.std.proofs.lemmas.Bool.{cases_lt, eq-eqb}
use Rattle.std.proofs.lemmas.List.{get_or_past}
use Rattle.std.proofs.lemmas.List.FromFn.{get_or-map-range_with_len, length-map-range_with_len}
use Rattle.std.proofs.lemmas.List.Sums.{sum_by_more}
use Rattle.smp_frac.specs.Limits.{wide_limit}
use Rattle.smp_frac.specs.Fractions.{Same, whole, times, over}
use Rattle.smp_prob.specs.Shares.{Shares}
use Rattle.smp_split.specs.Counts.{LeavesSelectAround}
use Rattle.smp_split.specs.Orders.{Ordered}
use Rattle.smp_split.specs.Parts.{equal_parts}
use Rattle.smp_split.specs.Trees.{EachPart, IsPart, LawfulSplit, Lawful, weight_sum, weighted, weighted_number}
use Rattle.smp_split.specs.declared.kind.Kind.TheVariants.{System}
use Rattle.smp_split.proofs.NumberSums.{counts, sums_same, sums-none, sums_scaled, weight_false, sum_by-range, sum_by-map-range}
use Rattle.smp_split.proofs.Over.{even_over}
use Rattle.smp_split.specs.Laws.Parts.{weight_sum-equal, weighted_number-equal, each_equal}
use Rattle.smp_values.specs.Values.{IsValues, fractional, fractional_count, is_settled}
use Rattle.smp_values.proofs.Designs.{in_order_lawful, in_order_around}
use Rattle.smp_values.proofs.Fractional.{fractional_den}
use Rattle.smp_values.proofs.Near.{IsNear, near_settled}
use Rattle.smp_values.specs.InOrder.{LawfulRule, places_tree}
use Rattle.smp_pivotal.specs.Systematic.{IsSystematic, cumulated, takes, sampled, systematic_rule, systematic_tree}
use Rattle.smp_pivotal.specs.Laws.Points.{points, meets_count, points_next, points_zero, gap_of}

-- ---- what a draw leads to

-- the piece of a place ends where the next one starts
pub cumulated_next : (numer : List ℕ) (k : ℕ) → k < length numer → cumulated numer (k + 1) ≡ cumulated numer k + get_or numer k 0
cumulated_next numer k h = sum_by_more (λ a. a) numer k 0 h

pub sampled_at : (s : Shares) (draw k : ℕ) → k < length s.numer → get_or (sampled s draw).numer k 0 ≡ cond (takes s draw k) s.den 0
sampled_at s draw k h = get_or-map-range_with_len (λ place. cond (takes s draw place) s.den 0) 0 (length s.numer) k k 0 h (omega arith)

settled_either : (den : ℕ) (b : Bool) → fractional den (cond b den 0) ≡ false
settled_either den true = fractional_den den
settled_either den false = refl

either_within : (den : ℕ) (b : Bool) → cond b den 0 ≤ den
either_within den true = omega arith
either_within den false = omega arith

-- it leaves no value fractional
sampled_done : (s : Shares) (draw : ℕ) → is_settled (sampled s draw) ≡ true
sampled_done s draw =
    let none : fractional_count (sampled s draw) ≡ 0 =
    sum_by-map-range (length s.numer) (λ a. cond (fractional s.den a) 1 0) (λ place. cond (takes s draw place) s.den 0)
    ∙ sums-none (length s.numer) _ (λ k _. weight_false (settled_either s.den (takes s draw k))) in
    eq-eqb (fractional_count (sampled s draw)) 0 none

module _ (units : ℕ) (s : Shares) (ok : IsValues units (wide_limit - 1) s) where
  -- ---- the split

  -- so many of the draws take what stands at a place
  pub draws_taking : (place : ℕ) → place < units → counts s.den (λ draw. takes s draw place) ≡ get_or s.numer place 0
  draws_taking place h =
      let here : place < length s.numer = omega (arith, ok.count) in
      meets_count s.den (cumulated s.numer place) (get_or s.numer place 0) (cumulated s.numer (place + 1))
      ok.positive (ok.each place) (cumulated_next s.numer place here)

  sampled_within : (draw k : ℕ) → get_or (sampled s draw).numer k 0 ≤ s.den
  sampled_within draw k =
      elim (cases_lt k (length s.numer)) [
        | inl here ↦ rw (sampled_at s draw k here) (either_within s.den (takes s draw k))
        | inr past ↦
            (let none : get_or (sampled s draw).numer k 0 ≡ 0 =
            get_or_past (sampled s draw).numer k 0
            (rw (length-map-range_with_len (λ place. cond (takes s draw place) s.den 0) 0 (length s.numer))
            past) in
            rw none (omega arith))
      ]

  sampled_part : is_settled s ≡ false → (draw : ℕ)
      → IsPart (places_tree systematic_rule units) (IsValues units (wide_limit - 1)) s
      (record { weight = 1; state = sampled s draw })
  sampled_part going draw = record {
    heavy = omega arith;
    falls = rw (sampled_done s draw, going) (omega arith);
    member = record {
      count = length-map-range_with_len (λ place. cond (takes s draw place) s.den 0) 0 (length s.numer) ∙ ok.count;
      positive = ok.positive;
      narrow = ok.narrow;
      each = sampled_within draw;
    };
  }

  sampled_even : (place : ℕ) → place < units
      → Same (weighted (λ t. over (get_or t.numer place 0) t.den) (equal_parts s.den (sampled s)))
      (times (whole (weight_sum (equal_parts s.den (sampled s)))) (over (get_or s.numer place 0) s.den))
  sampled_even place h =
      let here : place < length s.numer = omega (arith, ok.count) in
      let at : Shares → ℕ = λ t. get_or t.numer place 0 in
      let den_of : Shares → ℕ = λ t. t.den in
      let total : weighted_number at (equal_parts s.den (sampled s)) ≡ get_or s.numer place 0 * s.den =
      weighted_number-equal (sampled s) at s.den
      ∙ sum_by-range s.den (λ draw. at (sampled s draw))
      ∙ sums_same s.den _ _ (λ draw _. sampled_at s draw place here)
      ∙ sums_scaled s.den s.den (λ draw. takes s draw place)
      ∙ ap (λ n. n * s.den) (draws_taking place h) in
      let weights : weight_sum (equal_parts s.den (sampled s)) ≡ s.den = weight_sum-equal (sampled s) s.den in
      even_over at den_of s.den (get_or s.numer place 0) (equal_parts s.den (sampled s))
      (each_equal (sampled s) (λ p. p.state.den ≡ s.den) s.den (λ _ _. refl))
      (rw weights (omega (arith, total)))

  pub places_split : is_settled s ≡ false → LawfulSplit (places_tree systematic_rule units) (IsValues units (wide_limit - 1)) s
  places_split going = record {
    some = rw (weight_sum-equal (sampled s) s.den) ok.positive;
    narrow = rw (weight_sum-equal (sampled s) s.den) (omega (arith, ok.narrow));
    each = each_equal (sampled s) (IsPart (places_tree systematic_rule units) (IsValues units (wide_limit - 1)) s)
        s.den (λ draw _. sampled_part going draw);
    even = sampled_even;
  }

  -- ---- how many a draw takes

  module _ (draw : ℕ) (within : draw < s.den) where
    -- of the first places, as many as it has points before their end
    taken_points : (m : ℕ) → m ≤ length s.numer → counts m (takes s draw) ≡ points s.den (cumulated s.numer m) draw
    taken_points zero h = sym (points_zero s.den draw within)
    taken_points (suc m) h =
        let one_more : m + 1 ≡ suc m = omega arith in
        let next : points s.den (cumulated s.numer (m + 1)) draw ≡ cond (takes s draw m) 1 0 + points s.den (cumulated s.numer m) draw =
        points_next s.den (cumulated s.numer m) (get_or s.numer m 0) (cumulated s.numer (m + 1)) draw within
        (ok.each m) (cumulated_next s.numer m (omega arith)) in
        omega (arith, taken_points m (omega arith), ap (λ k. points s.den (cumulated s.numer k) draw) one_more)

    sampled_sum : sum (sampled s draw).numer ≡ points s.den (sum s.numer) draw * s.den
    sampled_sum =
        sum_by-map-range (length s.numer) (λ a. a) (λ place. cond (takes s draw place) s.den 0)
        ∙ sums_scaled (length s.numer) s.den (takes s draw)
        ∙ ap (λ k. k * s.den) (taken_points (length s.numer) (omega arith)
        ∙ ap (λ xs. points s.den (sum xs) draw) (take-length s.numer))

    sampled_near : (total den : ℕ) → s.den ≡ den → sum s.numer ≡ total → IsNear total den (sampled s draw)
    sampled_near total den is same =
        let gap = gap_of s.den (sum s.numer) draw within in
        near_settled total den (sampled s draw) is (sampled_done s draw)
        (omega (arith, sampled_sum, gap.at, gap.short)) (omega (arith, sampled_sum, gap.at, gap.short))

  pub places_near : is_settled s ≡ false → (total den : ℕ) → IsNear total den s
      → EachPart (λ p. IsNear total den p.state) (equal_parts s.den (sampled s))
  places_near going total den near =
      each_equal (sampled s) (λ p. IsNear total den p.state) s.den
      (λ draw within. sampled_near draw within total den near.den_is (near.going going))

-- ---- in either order

abbrev one_step : ℕ → ℕ
one_step fractional = cond (nat_eq fractional 0) 0 1

pub systematic_lawful : (units : ℕ) → Lawful (systematic_tree units) (IsSystematic units)
systematic_lawful units = in_order_lawful units (wide_limit - 1) (λ _. System) (λ s. equal_parts s.den (sampled s))
    one_step (places_split units)

-- each leaf selects one of the whole numbers of units around the sum of the values
pub leaf_around : (units : ℕ) (s : Ordered Shares) → IsSystematic units s → LeavesSelectAround (systematic_tree units) s
leaf_around units = in_order_around units (wide_limit - 1) (λ _. System) (λ t. equal_parts t.den (sampled t)) one_step
    (places_split units) (λ total den t here going. places_near units t here going total den)

pub systematic_law : LawfulRule systematic_rule
systematic_law = record { wide = omega arith; lawful = systematic_lawful; around = leaf_around }
