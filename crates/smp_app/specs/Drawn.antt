-- The draw that follows from a plan.
use Rattle.std.specs.Prelude.{ℕ, List, length, Option, Some, None}
use Rattle.std.specs.List.{count_by, range_with_len}
use Rattle.smp_split.specs.Trees.{Tree}
use Rattle.smp_split.specs.Paths.{Entry}
use Rattle.smp_split.specs.Counts.{selected_units}
use Rattle.smp_split.specs.Sectioning.{Sectioning}
use Rattle.smp_methods.specs.declared.any.AnyState.{AnyState}
use Rattle.smp_split.specs.Stages.{Progress}
use Rattle.smp_twostage.specs.Selections.{Coverage, covered_tree, is_of_section, start_of as whole_start, whole_sections, whole_tree}
use Rattle.smp_plan.specs.Plans.{Survey, survey_plan}

-- the draw tree, of the plan alone, whose units are the rows of the frame
abbrev pub tree_of : Survey → Tree (Progress AnyState)
tree_of plan = whole_tree (survey_plan plan)

-- the state from which a draw starts, of the plan alone
-- e.g. (1,2,3,4)/5, in the only stage
abbrev pub start_of : Survey → Progress AnyState
start_of plan = whole_start (survey_plan plan)

-- the sections of a plan's draw: the strata, or all of them where they are drawn together
abbrev pub sections_of : Survey → Sectioning (Progress AnyState)
sections_of plan = whole_sections (survey_plan plan)

-- what is drawn by a plan, of all strata or of one section alone: a leaf of the draw tree of these strata, and the path that leads there
pub record Drawn : Type 0 where
  pub plan : Survey
  pub only : Option ℕ
  pub leaf : Progress AnyState
  pub path : List Entry

-- the strata that it is drawn from
abbrev pub covered : Drawn → Coverage
covered drawn = record { plan = survey_plan drawn.plan; only = drawn.only }

-- how many rows stand in the strata that are drawn: in all, or in section h alone
abbrev pub rows_by : Survey → Option ℕ → ℕ
rows_by plan None = length plan.units
rows_by plan (Some h) =
    count_by (is_of_section (survey_plan plan) h) (range_with_len 0 (length plan.units))

-- the rows that are drawn of all strata, in frame order
-- e.g. 2, 3
abbrev pub selected_rows : Drawn → List ℕ
selected_rows drawn = selected_units (tree_of drawn.plan) drawn.leaf

-- the rows that are drawn of all strata, or of one section alone
abbrev pub drawn_rows : Drawn → List ℕ
drawn_rows drawn = selected_units (covered_tree (covered drawn)) drawn.leaf
