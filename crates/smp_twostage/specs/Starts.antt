-- What the whole selection by a plan starts with.
use Rattle.std.specs.Prelude.{◌≡◌, ℕ, zero, suc, ◌+◌, ◌<◌, Bool, true, false, cond, ℤ, pos, negsuc, List}
use Rattle.std.specs.Prelude.{length, Option, Some}
use Rattle.std.specs.List.{count_by, range_with_len, slice_get}
use Rattle.smp_frac.specs.Bounds.{IsAround}
use Rattle.smp_frac.specs.Fractions.{Fraction, Same, integer, inverse, times, sum_below}
use Rattle.smp_split.specs.Means.{mean, inclusion_probability}
use Rattle.smp_split.specs.Paths.{AtEachLeaf, Entry}
use Rattle.smp_design.specs.Words.{balances, draws_together}
use Rattle.smp_prob.specs.declared.requests.Request.{Request}
use Rattle.smp_methods.specs.declared.any.AnyState.{AnyState}
use Rattle.smp_strata.specs.Draws.{IsFor, expected_firsts}
use Rattle.smp_strata.specs.Plans.{Plan}
use Rattle.smp_strata.specs.Seats.{seat_fraction}
use Rattle.smp_strata.specs.declared.strata.FirstUnit as unit
use Rattle.smp_strata.specs.declared.strata.Stratum as stratum
use Rattle.smp_methods.specs.Designs.{left_at}
use Rattle.smp_split.specs.declared.places.Stage.{Stage}
use Rattle.smp_split.specs.Stages.{Progress, selected_in}
use Rattle.smp_split.specs.StagePaths.{GoesByStages}
use Rattle.smp_twostage.specs.Totals.{IsBalancedFrame}
use Rattle.smp_twostage.specs.Cubes.{IsDrawnByCube, IsDrawnTogether, frame_of}
use Rattle.smp_twostage.specs.Selections.{Coverage, Selecting, BelongsToWhole, covered_stages, first_number}
use Rattle.smp_twostage.specs.Selections.{first_place, place_of, tree_of, whole_place, whole_stages, whole_states, whole_tree}

-- the probability that a plan gives a row
abbrev pub row_fraction : Plan → ℕ → Fraction
row_fraction plan row = seat_fraction plan.strata (place_of plan.strata row)

-- ---- weighted totals

-- whether a whole number is 1 or more
-- = z > 0
abbrev pub is_positive : ℤ → Bool
is_positive (pos zero) = false
is_positive (pos (suc n)) = true
is_positive (negsuc n) = false

-- the value x of a row that can be selected, and 0 of one whose probability is 0
-- = x where π > 0, else 0
abbrev pub known : Fraction → ℤ → ℤ
known asked x = cond (is_positive asked.num) x (pos 0)

-- what a row counts for: its value over its probability, and 0 where its probability is 0 (Horvitz and Thompson 1952)
-- = x/π, 0 where π = 0
-- e.g. for x = 1 of c: 5/3
abbrev pub weighted : Fraction → ℤ → Fraction
weighted asked x = times (integer (known asked x)) (inverse asked)

-- ---- units that are selected

-- whether unit k of stratum h is selected in the first stage, where the stages are in these states
abbrev pub first_selected : Plan → List AnyState → ℕ → ℕ → Bool
first_selected plan states h k = selected_in tree_of (whole_stages plan) states (whole_place plan h k)

-- the same where the covered stages are in these states
abbrev pub covered_first : Coverage → List AnyState → ℕ → ℕ → Bool
covered_first c states h k = selected_in tree_of (covered_stages c) states (first_place c h k)

-- whether a row within it is selected in the second stage, by its place among the rows of the unit
abbrev pub second_selected : Plan → List AnyState → ℕ → ℕ → ℕ → Bool
second_selected plan states h k row = selected_in tree_of (whole_stages plan) states
    (record { stage = suc ((whole_place plan h k).stage + k); unit = row })

-- how many units were undecided where the landing of a stage's cube began, and 0 by any other method
abbrev pub left_by : Option (Stage Selecting) → Option AnyState → ℕ
left_by (Some stage) (Some state) = left_at stage.design.design state
left_by stage state = 0

-- at each leaf n of the first stage units of stratum h are selected
abbrev pub FirstSelects : Plan → Progress AnyState → ℕ → stratum.Stratum → ℕ → Type 0
FirstSelects plan start h s n =
    AtEachLeaf (whole_tree plan) start (λ path leaf.
    count_by (first_selected plan leaf.states h) (range_with_len 0 (length s.units)) ≡ n)

-- at each leaf as many of them are selected as are expected of the stratum, or one of the two whole numbers around that where it
-- isn't whole
abbrev pub FirstSelectsAround : Plan → Progress AnyState → ℕ → stratum.Stratum → Type 0
FirstSelectsAround plan start h s =
    AtEachLeaf (whole_tree plan) start (λ path leaf.
    IsAround (count_by (first_selected plan leaf.states h) (range_with_len 0 (length s.units)))
    (expected_firsts s))

-- at each leaf at which unit k of stratum h is selected, n of its rows are
abbrev pub SecondSelects : Plan → Progress AnyState → ℕ → ℕ → unit.FirstUnit → ℕ → Type 0
SecondSelects plan start h k u n =
    AtEachLeaf (whole_tree plan) start (λ path leaf. first_selected plan leaf.states h k ≡ true
    → count_by (second_selected plan leaf.states h k) (range_with_len 0 (length u.rows)) ≡ n)

-- ---- the start

pub record StartsWhole (plan : Plan) (start : Progress AnyState) : Type 0 where
  pub member : BelongsToWhole plan start
  -- Each row's value is the probability that the plan gives it.
  pub values : (row : ℕ) → row < plan.rows
      → Same ((whole_tree plan).value start row) (row_fraction plan row)
  -- Each row's probability of selection, over draws that are uniform below each bound and independent of those before, is exactly the one
  -- that the plan gives it.
  pub probability : (row : ℕ) → row < plan.rows
      → Same (inclusion_probability (whole_tree plan) start row) (row_fraction plan row)
  -- The estimator of Horvitz and Thompson has no bias: over those draws the mean of the weighted total of any values, one for each row, is
  -- their sum over the rows that can be selected.
  pub unbiased : (asked : ℕ → Fraction)
      → ((row : ℕ) → row < plan.rows → Same (asked row) (row_fraction plan row))
      → (x : ℕ → ℤ) → Same (mean (whole_tree plan) (λ row. weighted (asked row) (x row)) start)
      (sum_below plan.rows (λ row. integer (known (asked row) (x row))))
  -- Each stratum's request fixes how many of its first stage units are selected, where that is whole, and a unit's request how many rows
  -- within it.
  pub firsts : (h n : ℕ) (s : stratum.Stratum) → slice_get plan.strata h ≡ Some s
      → IsFor s.request (length s.units) n → FirstSelects plan start h s n
  pub seconds : (h k n : ℕ) (s : stratum.Stratum) (u : unit.FirstUnit) (request : Request)
      → slice_get plan.strata h ≡ Some s → slice_get s.units k ≡ Some u → u.second ≡ Some request
      → IsFor request (length u.rows) n → SecondSelects plan start h k u n
  -- By every method that doesn't balance, as many of a stratum's first stage units are selected as their probabilities add up to,
  -- and where these have no whole sum, one of the two whole numbers around it.
  pub around : balances plan.procedure.method ≡ false → (h : ℕ) (s : stratum.Stratum) → slice_get plan.strata h ≡ Some s
      → FirstSelectsAround plan start h s
  -- A path to a leaf is made of the stages' own paths, one after another.
  pub paths : AtEachLeaf (whole_tree plan) start
      (λ path leaf. GoesByStages tree_of (whole_stages plan) (whole_states plan) path leaf.states)
  -- Where the method balances, each stratum's part of it is one of the method's own paths.
  pub cubes : balances plan.procedure.method ≡ true → draws_together plan.procedure.method ≡ false
      → (path : List Entry) (ends : List AnyState)
      (goes : GoesByStages tree_of (whole_stages plan) (whole_states plan) path ends)
      → (h : ℕ) (s : stratum.Stratum) → slice_get plan.strata h ≡ Some s
      → IsDrawnByCube plan h s (goes.part (first_number plan h)) ends
  -- Where it draws all strata together, the whole path is one of its own, and it is balanced over all strata.
  pub together : draws_together plan.procedure.method ≡ true
      → (path : List Entry) (ends : List AnyState)
      (goes : GoesByStages tree_of (whole_stages plan) (whole_states plan) path ends)
      → IsDrawnTogether plan (goes.part 0) ends
  pub balanced : draws_together plan.procedure.method ≡ true
      → IsBalancedFrame (frame_of plan)
