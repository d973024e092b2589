-- What a selection of all strata starts with, where it is known whether they are drawn together.
use Rattle.std.proofs.Common.{◌≡◌, ℕ, suc, ◌+◌, ◌<◌, Bool, true, false, ℤ, List, length, map, Some}
use Rattle.std.specs.List.{count_by, range_with_len, slice_get}
use Rattle.smp_frac.specs.{Bounds.{IsAround}, Fractions.{Fraction, Same, integer, sum_below}}
use Rattle.smp_split.specs.{Means.{mean, inclusion_probability}, Paths.{AtEachLeaf, Entry}, Trees.{Tree}, declared.places.Stage.{Stage}}
use Rattle.smp_design.specs.Words.{balances, draws_together}
use Rattle.smp_prob.specs.declared.requests.Request.{Request}
use Rattle.smp_twostage.specs.{Totals.{IsBalancedFrame}, Cubes.{IsDrawnByCube, IsDrawnTogether, frame_of}, Plans.{CanBeDrawn}}
use Rattle.smp_methods.specs.{declared.any.AnyState.{AnyState}, Designs.{first_state}}
use Rattle.smp_split.specs.{StagePaths.{GoesByStages}, Stages.{IsUnderWay, Progress, selected_in, staged_tree}}
use Rattle.smp_strata.specs.{Draws.{IsFor, expected_firsts}, Plans.{Plan}, declared.strata.FirstUnit.{FirstUnit}}
use Rattle.smp_strata.specs.declared.strata.Stratum.{Stratum}
use Rattle.smp_twostage.specs.Selections.{Selecting, all_of, belongs_to, first_number, is_together, tree_of}
use Rattle.smp_twostage.specs.{Kept.Sides.{first_place_by, seats_in, stages_by}, Starts.{StartsWhole, known, row_fraction, weighted}}

module _ (together : Bool) (plan : Plan) where
  abbrev pub stages_so : List (Stage Selecting)
  stages_so = stages_by together (all_of plan)

  abbrev pub states_so : List AnyState
  states_so = map (λ stage. first_state stage.design.design) stages_so

  abbrev pub tree_so : Tree (Progress AnyState)
  tree_so = staged_tree tree_of stages_so (seats_in together (all_of plan))

  abbrev pub first_so : List AnyState → ℕ → ℕ → Bool
  first_so states h k = selected_in tree_of stages_so states (first_place_by together (all_of plan) h k)

  abbrev pub second_so : List AnyState → ℕ → ℕ → ℕ → Bool
  second_so states h k row =
      selected_in tree_of stages_so states (record { stage = suc ((first_place_by together (all_of plan) h k).stage + k); unit = row })

  abbrev pub FirstSelectsSo : Progress AnyState → ℕ → Stratum → ℕ → Type 0
  FirstSelectsSo start h s n =
      AtEachLeaf tree_so start (λ path leaf. count_by (first_so leaf.states h) (range_with_len 0 (length s.units)) ≡ n)

  abbrev pub FirstSelectsAroundSo : Progress AnyState → ℕ → Stratum → Type 0
  FirstSelectsAroundSo start h s =
      AtEachLeaf tree_so start (λ path leaf. IsAround (count_by (first_so leaf.states h) (range_with_len 0 (length s.units))) (expected_firsts s))

  abbrev pub SecondSelectsSo : Progress AnyState → ℕ → ℕ → FirstUnit → ℕ → Type 0
  SecondSelectsSo start h k u n =
      AtEachLeaf tree_so start (λ path leaf. first_so leaf.states h k ≡ true
      → count_by (second_so leaf.states h k) (range_with_len 0 (length u.rows)) ≡ n)

  -- the fields of `StartsWhole`
  pub record StartsBy (start : Progress AnyState) : Type 0 where
    pub member : IsUnderWay tree_of belongs_to stages_so start
    pub values : (row : ℕ) → row < plan.rows → Same (tree_so.value start row) (row_fraction plan row)
    pub probability : (row : ℕ) → row < plan.rows → Same (inclusion_probability tree_so start row) (row_fraction plan row)
    pub unbiased : (asked : ℕ → Fraction) → ((row : ℕ) → row < plan.rows → Same (asked row) (row_fraction plan row)) → (x : ℕ → ℤ)
        → Same (mean tree_so (λ row. weighted (asked row) (x row)) start) (sum_below plan.rows (λ row. integer (known (asked row) (x row))))
    pub firsts : (h n : ℕ) (s : Stratum) → slice_get plan.strata h ≡ Some s → IsFor s.request (length s.units) n → FirstSelectsSo start h s n
    pub seconds : (h k n : ℕ) (s : Stratum) (u : FirstUnit) (request : Request) → slice_get plan.strata h ≡ Some s → slice_get s.units k ≡ Some u → u.second ≡ Some request
        → IsFor request (length u.rows) n → SecondSelectsSo start h k u n
    pub around : balances plan.procedure.method ≡ false → (h : ℕ) (s : Stratum) → slice_get plan.strata h ≡ Some s → FirstSelectsAroundSo start h s
    pub paths : AtEachLeaf tree_so start (λ path leaf. GoesByStages tree_of stages_so states_so path leaf.states)
    pub cubes : balances plan.procedure.method ≡ true → draws_together plan.procedure.method ≡ false → (path : List Entry) (ends : List AnyState) (goes : GoesByStages tree_of stages_so states_so path ends)
        → (h : ℕ) (s : Stratum) → slice_get plan.strata h ≡ Some s → IsDrawnByCube plan h s (goes.part (first_number plan h)) ends
    pub drawn : draws_together plan.procedure.method ≡ true → (path : List Entry) (ends : List AnyState) (goes : GoesByStages tree_of stages_so states_so path ends)
        → IsDrawnTogether plan (goes.part 0) ends
    pub balanced : draws_together plan.procedure.method ≡ true → IsBalancedFrame (frame_of plan)

-- as it is by the plan's method
pub starts_whole_by : (plan : Plan) → CanBeDrawn plan → (start : Progress AnyState) → StartsBy (is_together (all_of plan)) plan start → StartsWhole plan start
starts_whole_by plan drawable start starts = record {
  member = record { drawable = drawable; member = starts.member };
  values = starts.values;
  probability = starts.probability;
  unbiased = starts.unbiased;
  firsts = starts.firsts;
  seconds = starts.seconds;
  around = starts.around;
  paths = starts.paths;
  cubes = starts.cubes;
  together = starts.drawn;
  balanced = starts.balanced;
}
