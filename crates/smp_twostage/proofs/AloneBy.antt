-- What a selection of one section starts with, where it is known whether all strata are drawn together.
use Rattle.std.proofs.Common.{◌≡◌, ℕ, ◌<◌, Bool, false}
use Rattle.std.specs.Prelude.{if◌then◌else◌}
use Rattle.smp_frac.specs.Fractions.{Fraction, Same, whole}
use Rattle.smp_split.specs.{Means.{inclusion_probability}, Sectioning.{IsPartOf}, Paths.{IsReached}, Trees.{Tree}}
use Rattle.smp_split.proofs.Sectioned.{part_within}
use Rattle.smp_split.specs.{Laws.Steps.{leads_belong}, OwnStages.{own_progress, sections_by}}
use Rattle.smp_methods.specs.declared.any.AnyState.{AnyState}
use Rattle.smp_split.specs.Stages.{IsUnderWay, Progress, progress, staged_tree}
use Rattle.smp_strata.specs.Plans.{Plan}
use Rattle.smp_twostage.specs.{Covered.{StartsAlone, state_alone}, Laws.Wholes.{whole_lawful}, Selections.{tree_of}, Starts.{row_fraction}}
use Rattle.smp_twostage.specs.Selections.{BelongsToWhole, all_of, belongs_to, covered_tree, is_of_section, is_together, one_of, start_of, strata_sections, whole_tree}
use Rattle.smp_twostage.specs.Kept.Sides.{is_in_section, seats_in, section_count_by, stages_before_by, stages_by}
use Rattle.smp_twostage.proofs.StartsBy.{states_so, stages_so, tree_so}

module _ (together : Bool) (plan : Plan) (h : ℕ) where
  abbrev pub tree_alone : Tree (Progress AnyState)
  tree_alone = staged_tree tree_of (stages_by together (one_of plan h)) (seats_in together (one_of plan h))

  abbrev pub own_state : Progress AnyState → Progress AnyState
  own_state s = own_progress tree_of (stages_before_by together (all_of plan) h) (stages_by together (one_of plan h)) s

  abbrev pub own_fraction : ℕ → Fraction
  own_fraction row = if is_in_section together plan h row then row_fraction plan row else whole 0

  -- the fields of `StartsAlone`
  pub record AloneBy (start : Progress AnyState) : Type 0 where
    pub member : IsUnderWay tree_of belongs_to (stages_by together (one_of plan h)) start
    pub values : (row : ℕ) → row < plan.rows → Same (tree_alone.value start row) (own_fraction row)
    pub probability : (row : ℕ) → row < plan.rows → Same (inclusion_probability tree_alone start row) (own_fraction row)
    pub others : (row : ℕ) → row < plan.rows → is_in_section together plan h row ≡ false → (s : Progress AnyState) → tree_alone.selected s row ≡ false
    pub part : IsPartOf (tree_so together plan) (BelongsToWhole plan) (sections_by (stages_before_by together (all_of plan)) (section_count_by together (all_of plan))) h tree_alone own_state (is_in_section together plan h)
    pub state : start ≡ own_state (progress tree_of (stages_so together plan) (states_so together plan))

-- a state to which a path leads from the whole start is one of the whole selection
pub reached_own : (plan : Plan) → BelongsToWhole plan (start_of plan) → (s : Progress AnyState) → IsReached (whole_tree plan) (start_of plan) s → BelongsToWhole plan s
reached_own plan own s reached = leads_belong (whole_tree plan) (BelongsToWhole plan) (whole_lawful plan) reached.path (start_of plan) s reached.leads own

pub reached_part : (plan : Plan) → BelongsToWhole plan (start_of plan) → (h : ℕ)
    → IsPartOf (whole_tree plan) (BelongsToWhole plan) (strata_sections (all_of plan)) h (covered_tree (one_of plan h)) (state_alone plan h) (is_of_section plan h)
    → IsPartOf (whole_tree plan) (IsReached (whole_tree plan) (start_of plan)) (strata_sections (all_of plan)) h (covered_tree (one_of plan h)) (state_alone plan h) (is_of_section plan h)
reached_part plan own h is =
    part_within (whole_tree plan) (BelongsToWhole plan) (IsReached (whole_tree plan) (start_of plan)) (reached_own plan own) (strata_sections (all_of plan)) h (covered_tree (one_of plan h)) (state_alone plan h) (is_of_section plan h) is

-- as it is by the plan's method
pub starts_alone_by : (plan : Plan) → BelongsToWhole plan (start_of plan) → (h : ℕ) (start : Progress AnyState) → AloneBy (is_together (all_of plan)) plan h start → StartsAlone plan h start
starts_alone_by plan own h start starts = record {
  member = record { drawable = own.drawable; member = starts.member };
  values = starts.values;
  probability = starts.probability;
  others = starts.others;
  part = reached_part plan own h starts.part;
  state = starts.state;
}
