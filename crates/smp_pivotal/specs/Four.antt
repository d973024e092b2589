-- Two of the four units a, b, c and d, of the sizes 1, 2, 3 and 4, by pivotal steps in frame order, and by the numbers 0, 3 and 4.
-- Each field has the value of the definition that its comment begins with, as that definition's own comment gives it.
use Rattle.std.specs.Prelude.{◌≡◌, ◌<◌, ℕ, ◌+◌, ◌-◌, ◌*◌, pos, true, false, List, [], ◌∷◌, codes}
use Rattle.smp_frac.specs.Divisors.{greatest_common_divisor}
use Rattle.smp_frac.specs.Exact.{fraction_text, lowest_text}
use Rattle.smp_frac.specs.Bounds.{IsAround}
use Rattle.smp_frac.specs.Fractions.{Same, over, plus, times, divided, inverse, whole}
use Rattle.smp_prob.specs.declared.orders.Order.TheVariants.{Frame}
use Rattle.smp_prob.specs.declared.requests.Request.{Request}
use Rattle.smp_prob.specs.Requested.{certain_units, is_certain, larger, open_total, requested_fraction, requested_of, rest}
use Rattle.smp_prob.specs.Shares.{Shares, common_divisor, common_denominator, numerators, shares_of}
use Rattle.smp_split.specs.Counts.{selected_units}
use Rattle.smp_split.specs.Means.{mean_of_within, inclusion_probability, only, selected_sum, sum_over_draws}
use Rattle.smp_split.specs.Orders.{Ordered, frame_order, in_order}
use Rattle.smp_split.specs.Paths.{Entry, IsReached, Leads, entry_at, values_of}
use Rattle.smp_split.specs.Trees.{Part, Tree, LawfulEnd, picked, weight_sum, weighted}
use Rattle.smp_split.specs.declared.kind.Kind.TheVariants.{Pivot}
use Rattle.smp_values.specs.InOrder.{started}
use Rattle.smp_values.specs.Pairs.{left, pair_bound, pair_first, pair_second, pair_weights, taken}
use Rattle.smp_values.specs.Steps.{pair_parts}
use Rattle.smp_values.specs.Values.{fractional_count, fractional_units, value_at}
use Rattle.smp_pivotal.specs.Pivotal.{pivotal_tree}

-- these numerators over 5
abbrev pub fifths : List ℕ → Shares
fifths numer = record { numer = numer; den = 5 }

-- the state with these values, in frame order
abbrev pub state : List ℕ → Ordered Shares
state numer = in_order (frame_order 4) (fifths numer)

-- the tree of this draw
abbrev pub tree : Tree (Ordered Shares)
tree = pivotal_tree 4

-- the state before the first number, and the leaf
abbrev pub start : Ordered Shares
start = state (1 ∷ 2 ∷ 3 ∷ 4 ∷ [])

abbrev pub leaf : Ordered Shares
leaf = state (0 ∷ 0 ∷ 5 ∷ 5 ∷ [])

-- the path of the numbers 0, 3 and 4
abbrev pub path : List Entry
path = (Pivot, 3, 0) ∷ (Pivot, 4, 3) ∷ (Pivot, 5, 4) ∷ []

-- its first two steps
abbrev pub first_two : List Entry
first_two = (Pivot, 3, 0) ∷ (Pivot, 4, 3) ∷ []

-- a part of this weight
abbrev pub part : ℕ → Ordered Shares → Part (Ordered Shares)
part weight state = record { weight = weight; state = state }

-- the values of the definitions of a tree, of its probabilities and of its paths
pub record IsFourTree : Type 0 where
  -- pivotal_tree: of 4 units it is the tree of section 2 of draw.md
  pub steps : (tree.parts start
      ≡ part 1 (state (3 ∷ 0 ∷ 3 ∷ 4 ∷ [])) ∷ part 2 (state (0 ∷ 3 ∷ 3 ∷ 4 ∷ [])) ∷ [])
      × (tree.parts (state (3 ∷ 0 ∷ 3 ∷ 4 ∷ []))
      ≡ part 2 (state (5 ∷ 0 ∷ 1 ∷ 4 ∷ [])) ∷ part 2 (state (1 ∷ 0 ∷ 5 ∷ 4 ∷ [])) ∷ [])
      × (tree.parts (state (0 ∷ 3 ∷ 3 ∷ 4 ∷ []))
      ≡ part 2 (state (0 ∷ 5 ∷ 1 ∷ 4 ∷ [])) ∷ part 2 (state (0 ∷ 1 ∷ 5 ∷ 4 ∷ [])) ∷ [])
      × (tree.parts (state (5 ∷ 0 ∷ 1 ∷ 4 ∷ []))
      ≡ part 1 (state (5 ∷ 0 ∷ 5 ∷ 0 ∷ [])) ∷ part 4 (state (5 ∷ 0 ∷ 0 ∷ 5 ∷ [])) ∷ [])
      × (tree.parts (state (1 ∷ 0 ∷ 5 ∷ 4 ∷ []))
      ≡ part 1 (state (5 ∷ 0 ∷ 5 ∷ 0 ∷ [])) ∷ part 4 (state (0 ∷ 0 ∷ 5 ∷ 5 ∷ [])) ∷ [])
      × (tree.parts (state (0 ∷ 5 ∷ 1 ∷ 4 ∷ []))
      ≡ part 1 (state (0 ∷ 5 ∷ 5 ∷ 0 ∷ [])) ∷ part 4 (state (0 ∷ 5 ∷ 0 ∷ 5 ∷ [])) ∷ [])
      × (tree.parts (state (0 ∷ 1 ∷ 5 ∷ 4 ∷ []))
      ≡ part 1 (state (0 ∷ 5 ∷ 5 ∷ 0 ∷ [])) ∷ part 4 (state (0 ∷ 0 ∷ 5 ∷ 5 ∷ [])) ∷ [])
  -- Part: (1, (3,0,3,4)/5)
  pub first_part : tree.parts start
      ≡ record { weight = 1; state = state (3 ∷ 0 ∷ 3 ∷ 4 ∷ []) }
      ∷ part 2 (state (0 ∷ 3 ∷ 3 ∷ 4 ∷ [])) ∷ []
  -- weight_sum: 1 + 2 = 3 at the start
  pub bound : (weight_sum (tree.parts start) ≡ 1 + 2) × (1 + 2 ≡ 3)
  -- picked: 0 leads to (3,0,3,4)/5, 1 and 2 to (0,3,3,4)/5
  pub next : (picked start (tree.parts start) 0 ≡ state (3 ∷ 0 ∷ 3 ∷ 4 ∷ []))
      × (picked start (tree.parts start) 1 ≡ state (0 ∷ 3 ∷ 3 ∷ 4 ∷ []))
      × (picked start (tree.parts start) 2 ≡ state (0 ∷ 3 ∷ 3 ∷ 4 ∷ []))
  -- weighted: of P(c) at the start 1·(3/5) + 2·(3/5) = 9/5
  pub weighted_sum : Same
      (weighted (λ s. inclusion_probability tree s 2) (tree.parts start))
      (plus (times (whole 1) (over 3 5)) (times (whole 2) (over 3 5)))
      × Same (weighted (λ s. inclusion_probability tree s 2) (tree.parts start)) (over 9 5)
  -- sum_over_draws: of P(c) at the start 3/5 + 3/5 + 3/5 = 9/5
  pub draw_sum : Same
      (sum_over_draws (λ s. inclusion_probability tree s 2) start (tree.parts start))
      (plus (over 3 5) (plus (over 3 5) (over 3 5)))
      × Same (sum_over_draws (λ s. inclusion_probability tree s 2) start (tree.parts start))
      (over 9 5)
  -- mean_of_within: of c at (0,3,3,4)/5: (1/5 + 1/5 + 1 + 1)/4 = 3/5
  pub mean : Same
      (mean_of_within 3 tree (selected_sum tree (only 2)) (state (0 ∷ 3 ∷ 3 ∷ 4 ∷ [])))
      (divided (plus (over 1 5) (plus (over 1 5) (plus (whole 1) (whole 1)))) 4)
      × Same
      (mean_of_within 3 tree (selected_sum tree (only 2)) (state (0 ∷ 3 ∷ 3 ∷ 4 ∷ [])))
      (over 3 5)
  -- inclusion_probability: P(c) = (3/5 + 3/5 + 3/5)/3 = 3/5 at the start
  pub probability : Same (inclusion_probability tree start 2)
      (divided (plus (over 3 5) (plus (over 3 5) (over 3 5))) 3)
      × Same (inclusion_probability tree start 2) (over 3 5)
  -- the same of the others: a has 1/5, b 2/5 and d 4/5
  pub others : Same (inclusion_probability tree start 0) (over 1 5)
      × Same (inclusion_probability tree start 1) (over 2 5)
      × Same (inclusion_probability tree start 3) (over 4 5)
  -- Entry: (pivot, 3, 0)
  pub entry : entry_at tree start 0 ≡ (Pivot, 3, 0)
  -- Leads: by 0, 3, 4 to (0,0,5,5)/5
  pub leads : Leads tree start path leaf
  -- IsReached: (1,0,5,4)/5, by 0 and 3
  pub reached : IsReached tree start (state (1 ∷ 0 ∷ 5 ∷ 4 ∷ []))
      × Leads tree start first_two (state (1 ∷ 0 ∷ 5 ∷ 4 ∷ []))
  -- values_of: 0 3 4
  pub values : values_of path ≡ 0 ∷ 3 ∷ 4 ∷ []
  -- LawfulParts: of a at the start 1·(3/5) + 2·0 = 3·(1/5)
  pub even : Same (weighted (λ s. tree.value s 0) (tree.parts start))
      (plus (times (whole 1) (over 3 5)) (times (whole 2) (whole 0)))
      × Same (weighted (λ s. tree.value s 0) (tree.parts start))
      (times (whole 3) (tree.value start 0))
      × Same (tree.value start 0) (over 1 5)
  -- LawfulEnd: (0,0,5,5)/5: c and d
  pub end : (tree.done leaf ≡ true) × LawfulEnd tree leaf
  -- selected_units: 2, 3
  pub selected : selected_units tree leaf ≡ 2 ∷ 3 ∷ []

-- what is requested of the four sizes
abbrev pub sizes : List ℕ
sizes = 1 ∷ 2 ∷ 3 ∷ 4 ∷ []

abbrev pub request : Request
request = requested_of sizes 2

-- the values of the definitions of what is requested, and of a step on values
pub record AreFourValues : Type 0 where
  -- larger: of 3 it is 1
  pub larger_is : larger sizes 3 ≡ 1
  -- rest: of 4 it is 10, of 3 it is 6
  pub rest_is : (rest sizes 4 ≡ 10) × (rest sizes 3 ≡ 6)
  -- is_certain: of 4 not: 2·4 < 10
  pub certain_is : (is_certain 2 sizes 4 ≡ false) × ((2 - larger sizes 4) * 4 ≡ 2 * 4) × (2 * 4 < 10)
  -- certain_units: 0
  pub certain_units_is : certain_units 2 sizes ≡ 0
  -- open_total: 10
  pub open_total_is : open_total 2 sizes ≡ 10
  -- requested_fraction: of c: 2·3/10 = 6/10 = 3/5
  pub requested_is : (requested_fraction 2 sizes 3 ≡ over (2 * 3) 10) × (over (2 * 3) 10 ≡ over 6 10)
      × Same (requested_fraction 2 sizes 3) (over 3 5)
  -- common_divisor: of total 10 and r 2: 2
  pub common_divisor_is : (request.total ≡ 10) × (request.r ≡ 2) × (common_divisor request ≡ 2)
  -- common_denominator: 5
  pub common_denominator_is : common_denominator request ≡ 5
  -- numerators: 1 2 3 4
  pub numerators_is : numerators request ≡ 1 ∷ 2 ∷ 3 ∷ 4 ∷ []
  -- Shares: (1,2,3,4)/5
  pub shares_is : shares_of request ≡ record { numer = 1 ∷ 2 ∷ 3 ∷ 4 ∷ []; den = 5 }
  -- shares_of: (1,2,3,4)/5
  pub shares_of_is : shares_of request ≡ fifths (1 ∷ 2 ∷ 3 ∷ 4 ∷ [])
  -- started: (1,2,3,4)/5, in frame order
  pub started_is : started request Frame ≡ start
  -- value_at: of a in (1,2,3,4)/5: 1/5
  pub value_at_is : value_at (fifths (1 ∷ 2 ∷ 3 ∷ 4 ∷ [])) 0 ≡ over 1 5
  -- fractional_units: of (1,0,5,4)/5: 0 and 3
  pub fractional_units_is : fractional_units (fifths (1 ∷ 0 ∷ 5 ∷ 4 ∷ [])) ≡ 0 ∷ 3 ∷ []
  -- fractional_count: of (1,0,5,4)/5: 2
  pub fractional_count_is : fractional_count (fifths (1 ∷ 0 ∷ 5 ∷ 4 ∷ [])) ≡ 2
  -- pair_weights: of 1 and 2 over 5: 1 and 2; of 3 and 3: 2 and 2
  pub pair_weights_is : (pair_weights 1 2 5 ≡ record { first = 1; second = 2 })
      × (pair_weights 3 3 5 ≡ record { first = 2; second = 2 })
  -- pair_bound: of 1 and 2: 3; of 3 and 3: 4
  pub pair_bound_is : (pair_bound 1 2 5 ≡ 3) × (pair_bound 3 3 5 ≡ 4)
  -- taken: of 1 and 2: 3; of 3 and 3: 5
  pub taken_is : (taken 1 2 5 ≡ 3) × (taken 3 3 5 ≡ 5)
  -- left: of 1 and 2: 0; of 3 and 3: 1
  pub left_is : (left 1 2 5 ≡ 0) × (left 3 3 5 ≡ 1)
  -- pair_first: of 1 and 2: (3, 0)
  pub pair_first_is : pair_first 1 2 5 ≡ (3, 0)
  -- pair_second: of 1 and 2: (0, 3)
  pub pair_second_is : pair_second 1 2 5 ≡ (0, 3)
  -- pair_parts: of a and b in (1,2,3,4)/5: (3,0,3,4)/5 with 1, (0,3,3,4)/5 with 2
  pub pair_parts_is : pair_parts (fifths (1 ∷ 2 ∷ 3 ∷ 4 ∷ [])) 0 1
      ≡ record { weight = 1; state = fifths (3 ∷ 0 ∷ 3 ∷ 4 ∷ []) }
      ∷ record { weight = 2; state = fifths (0 ∷ 3 ∷ 3 ∷ 4 ∷ []) } ∷ []

-- the values of the definitions of fractions
pub record AreFourFractions : Type 0 where
  -- Fraction: 3/5
  pub three_fifths : ((over 3 5).num ≡ pos 3) × ((over 3 5).den ≡ 5)
  -- Same: Same (9/15) (3/5)
  pub same : Same (over 9 15) (over 3 5)
  -- over: over 6 10 is 6/10
  pub over_ten : ((over 6 10).num ≡ pos 6) × ((over 6 10).den ≡ 10)
  -- plus: 1/5 + 2/5 is 15/25
  pub plus_is : ((plus (over 1 5) (over 2 5)).num ≡ pos 15) × ((plus (over 1 5) (over 2 5)).den ≡ 25)
  -- times: 2·(3/5) is 6/5
  pub times_is : ((times (whole 2) (over 3 5)).num ≡ pos 6) × ((times (whole 2) (over 3 5)).den ≡ 5)
  -- divided: (9/5)/3 is 9/15
  pub divided_is : ((divided (over 9 5) 3).num ≡ pos 9) × ((divided (over 9 5) 3).den ≡ 15)
  -- inverse: of 6/10 it is 10/6
  pub inverse_is : ((inverse (over 6 10)).num ≡ pos 10) × ((inverse (over 6 10)).den ≡ 6)
  -- IsAround: 2, 3 are around 5/2
  pub around : IsAround 2 (over 5 2) × IsAround 3 (over 5 2)
  -- greatest_common_divisor: of 6 and 10: 2
  pub divisor : greatest_common_divisor 6 10 ≡ 2
  -- lowest_text: of 10 and 6: `5/3`
  pub lowest : lowest_text 10 6 ≡ codes "5/3"
  -- fraction_text: of 10/6: `5/3`
  pub text : fraction_text (over 10 6) ≡ codes "5/3"
