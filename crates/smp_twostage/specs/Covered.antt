-- The strata that a selection covers: what is read of each, and what the selection of one stratum alone starts with.
use Rattle.std.specs.Prelude.{◌≡◌, ℕ, ◌<◌, false, if◌then◌else◌, List}
use Rattle.std.specs.List.{slice_get}
use Rattle.smp_frac.specs.Fractions.{Fraction, Same, whole}
use Rattle.smp_split.specs.Means.{inclusion_probability}
use Rattle.smp_split.specs.Paths.{IsReached}
use Rattle.smp_split.specs.Sectioning.{IsPartOf}
use Rattle.smp_methods.specs.declared.any.AnyState.{AnyState}
use Rattle.smp_split.specs.OwnStages.{own_progress}
use Rattle.smp_split.specs.Stages.{Progress}
use Rattle.smp_strata.specs.Plans.{Plan}
use Rattle.smp_twostage.specs.Selections.{Coverage, BelongsToCovered, all_of, covered_stages, covered_tree, first_place}
use Rattle.smp_twostage.specs.Selections.{is_of_section, one_of, stages_before, start_of, strata_sections, tree_of, whole_tree}
use Rattle.smp_twostage.specs.Starts.{left_by, row_fraction}

-- ---- what is read of a stratum

-- how many first stage units of a stratum were undecided where the landing of its cube began; where all strata are drawn together, how many
-- of all strata
abbrev pub covered_left : Coverage → List AnyState → ℕ → ℕ
covered_left c states h =
    left_by (slice_get (covered_stages c) (first_place c h 0).stage)
    (slice_get states (first_place c h 0).stage)

-- ---- one section alone: a stratum, or all strata that are drawn together

-- the probability that a plan gives a row of section h, and 0 for each other row
abbrev pub alone_fraction : Plan → ℕ → ℕ → Fraction
alone_fraction plan h row = if is_of_section plan h row then row_fraction plan row else whole 0

-- the state of section h in a state of the whole selection
abbrev pub state_alone : Plan → ℕ → Progress AnyState → Progress AnyState
state_alone plan h s = own_progress tree_of (stages_before (all_of plan) h) (covered_stages (one_of plan h)) s

-- What holds of the start of a selection of section h alone.
pub record StartsAlone (plan : Plan) (h : ℕ) (start : Progress AnyState) : Type 0 where
  pub member : BelongsToCovered (one_of plan h) start
  -- Each row of the section has the value that the plan gives it, and exactly that probability of selection. Each other row has 0.
  pub values : (row : ℕ) → row < plan.rows
      → Same ((covered_tree (one_of plan h)).value start row) (alone_fraction plan h row)
  pub probability : (row : ℕ) → row < plan.rows
      → Same (inclusion_probability (covered_tree (one_of plan h)) start row)
      (alone_fraction plan h row)
  -- No row of another section is selected.
  pub others : (row : ℕ) → row < plan.rows → is_of_section plan h row ≡ false
      → (s : Progress AnyState) → (covered_tree (one_of plan h)).selected s row ≡ false
  -- It is a part of the whole selection: in each state to which a path leads from the whole start, both make the same step in the section,
  -- from the state that the start has of it.
  pub part : IsPartOf (whole_tree plan) (IsReached (whole_tree plan) (start_of plan))
      (strata_sections (all_of plan)) h
      (covered_tree (one_of plan h)) (state_alone plan h) (is_of_section plan h)
  pub state : start ≡ state_alone plan h (start_of plan)
