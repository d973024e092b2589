-- What holds of what a job draws.
use Rattle.std.specs.Prelude.{◌≡◌, IfSome, ℕ, ◌+◌, ◌<◌, true, false, ℤ}
use Rattle.std.specs.Prelude.{List, length, Some, None}
use Rattle.std.specs.List.{count_by, range_with_len, slice_get}
use Rattle.smp_io.specs.Store.{Files}
use Rattle.smp_frac.specs.Bounds.{IsAround}
use Rattle.smp_frac.specs.Fractions.{Same, integer, sum_below}
use Rattle.smp_prob.specs.Given.{expected_size}
use Rattle.smp_split.specs.Means.{mean, inclusion_probability}
use Rattle.smp_twostage.specs.Totals.{AreBalanced, IsBalancedFrame}
use Rattle.smp_design.specs.declared.design.Second as second
use Rattle.smp_design.specs.Words.{balances, draws_together}
use Rattle.smp_log.specs.Genuine.{DiffersAt, IsFullPath, IsGenuine}
use Rattle.smp_log.specs.LoneSections.{SectionDiffers}
use Rattle.smp_log.specs.SectionLogs.{IsAnyGenuine}
use Rattle.smp_split.specs.Paths.{IsReached}
use Rattle.smp_split.specs.Trees.{Lawful}
use Rattle.smp_strata.specs.Draws.{AreAsked}
use Rattle.smp_strata.specs.Plans.{first_probs}
use Rattle.smp_strata.specs.declared.strata.FirstUnit as first
use Rattle.smp_strata.specs.declared.strata.Stratum.{Stratum}
use Rattle.smp_split.specs.StagePaths.{GoesByStages}
use Rattle.smp_twostage.specs.Cubes.{IsDrawnByCube, IsDrawnTogether, balancing, frame_of}
use Rattle.smp_twostage.specs.Covered.{StartsAlone}
use Rattle.smp_twostage.specs.Selections.{all_of, covered_start, covered_tree}
use Rattle.smp_twostage.specs.Selections.{first_number, section_count, tree_of as stage_tree, whole_stages, whole_states}
use Rattle.smp_twostage.specs.Starts.{first_selected, known, second_selected, weighted}
use Rattle.smp_plan.specs.Plans.{Survey, survey_plan, row_probability}
use Rattle.smp_app.specs.Drawn.{tree_of, start_of, sections_of, Drawn}
use Rattle.smp_app.specs.Verdict.{alone}

-- how many of the first stage units of stratum h are drawn
-- e.g. 2
abbrev pub firsts_drawn : Drawn → ℕ → Stratum → ℕ
firsts_drawn drawn h s =
    let selected = first_selected (survey_plan drawn.plan) drawn.leaf.states h in
    count_by selected (range_with_len 0 (length s.units))

-- ---- balance

-- The path is made of the stages' own paths, one after another.
abbrev pub Goes : Drawn → Type 0
Goes drawn =
    let plan = survey_plan drawn.plan in
    GoesByStages stage_tree (whole_stages plan) (whole_states plan) drawn.path drawn.leaf.states

-- What is drawn of a stratum by the cube, or by the local cube. The part of the path that is drawn in it leads through the method's tree,
-- from the requested probabilities to a leaf. On this part, as on every path of the method from there, each flight step keeps every
-- balancing total in force exactly, and the landing begins only where no direction is left or the next step doesn't fit; `AreBalanced`
-- says what else holds.
pub record IsCubeDraw (drawn : Drawn) (goes : Goes drawn) (h : ℕ) (s : Stratum) : Type 0 where
  pub drawn_so : IsDrawnByCube (survey_plan drawn.plan) h s (goes.part (first_number (survey_plan drawn.plan) h)) drawn.leaf.states
  pub balanced : AreBalanced (balancing s)

-- What is drawn of all strata together. The path leads through the method's tree, from the requested probabilities to a leaf. On it, as on
-- every path of the method from there, each flight step keeps every balancing total in force exactly, over all strata, and the landing
-- begins only where no direction is left or the next step doesn't fit; `IsBalancedFrame` says what else holds.
pub record IsTogetherDraw (drawn : Drawn) (goes : Goes drawn) : Type 0 where
  pub drawn_so : IsDrawnTogether (survey_plan drawn.plan) (goes.part 0) drawn.leaf.states
  pub balanced : IsBalancedFrame (frame_of (survey_plan drawn.plan))

-- The path is made of the stages' own paths; and where the method balances, each stratum is drawn so, or all strata together.
pub record KeepsBalance (drawn : Drawn) : Type 0 where
  pub goes : Goes drawn
  pub cubes : balances drawn.plan.design.procedure.method ≡ true
      → draws_together drawn.plan.design.procedure.method ≡ false → (h : ℕ) (s : Stratum)
      → slice_get (survey_plan drawn.plan).strata h ≡ Some s → IsCubeDraw drawn goes h s
  pub together : draws_together drawn.plan.design.procedure.method ≡ true → IsTogetherDraw drawn goes

-- ---- what is drawn by a plan

-- In the draw tree each row's probability of selection, over draws that are uniform below each bound and independent of those before, is
-- exactly the one that is asked for it; and the mean of the weighted total of any values is their sum over the rows that can be selected.
-- = P(k) = π(k), and E Σ xₖ/πₖ = Σ xₖ
-- e.g. P(c) = 3/5; for xₖ = 1 the mean is 4
pub record HasProbabilities (plan : Survey) : Type 0 where
  pub probability : (row : ℕ) → row < length plan.units
      → Same (inclusion_probability (tree_of plan) (start_of plan) row) (row_probability plan row)
  -- In the mean each selected row counts for its value over its probability, in the sum each row for its value; one of probability 0
  -- counts for 0 in both.
  pub unbiased : (x : ℕ → ℤ)
      → Same (mean (tree_of plan) (λ row. weighted (row_probability plan row) (x row)) (start_of plan))
      (sum_below (length plan.units) (λ row. integer (known (row_probability plan row) (x row))))

-- What holds of what is drawn of all strata by its plan.
pub record IsDrawnBy (drawn : Drawn) : Type 0 where
  pub all : drawn.only ≡ None
  -- The draw tree splits lawfully in each state to which a path leads from the start: where it isn't done the weights are at least 1,
  -- each part's rank is lower, and each row's value is the weighted mean of its values in the parts; where it is done, that is 1 for
  -- the rows that are selected, and 0 for the others.
  pub lawful : Lawful (tree_of drawn.plan) (IsReached (tree_of drawn.plan) (start_of drawn.plan))
  -- The path of the draw leads from the start to a leaf, which is done.
  pub full : IsFullPath (tree_of drawn.plan) (start_of drawn.plan) drawn.path drawn.leaf
  -- Each row is selected with exactly the probability that is asked for it, and the weighted total has no bias.
  pub probabilities : HasProbabilities drawn.plan
  -- As many first stage units of each stratum are drawn as the design asks for: its sample size, or with given probabilities what they
  -- add up to, where that is a whole number.
  pub firsts : (h n : ℕ) (s : Stratum) → slice_get (survey_plan drawn.plan).strata h ≡ Some s
      → AreAsked drawn.plan.design.columns.prob drawn.plan.design drawn.plan.units h n
      → firsts_drawn drawn h s ≡ n
  -- Where the design gives the probabilities, as many are drawn by every method that doesn't balance as these add up to, or, where that
  -- isn't a whole number, one of the two whole numbers around it.
  pub around : balances drawn.plan.design.procedure.method ≡ false → (h : ℕ) (s : Stratum)
      → slice_get (survey_plan drawn.plan).strata h ≡ Some s
      → IfSome drawn.plan.design.columns.prob (λ column. IsAround (firsts_drawn drawn h s)
      (expected_size (first_probs drawn.plan.design drawn.plan.units h)))
  -- With a second stage, as many rows of each of these as it asks for.
  pub seconds : (h k : ℕ) (s : Stratum) (u : first.FirstUnit) (asked : second.Second)
      → slice_get (survey_plan drawn.plan).strata h ≡ Some s → slice_get s.units k ≡ Some u
      → drawn.plan.design.second ≡ Some asked
      → first_selected (survey_plan drawn.plan) drawn.leaf.states h k ≡ true
      → count_by (second_selected (survey_plan drawn.plan) drawn.leaf.states h k)
      (range_with_len 0 (length u.rows)) ≡ asked.n
  -- What the methods that balance keep; of a plan by any other method only that the path is made of the stages' own paths.
  pub balance : KeepsBalance drawn

-- What is drawn of section h alone, of a stratum or of all that are drawn together, by a tree that splits lawfully too. The draw starts
-- from the section's state in the start of the whole draw, and makes the steps that the whole makes in it; each row of it is selected with
-- exactly the probability that is asked for it, and no other row is. Its path leads from there to a leaf.
pub record IsDrawnAlone (plan : Survey) (h : ℕ) (drawn : Drawn) : Type 0 where
  pub plan_is : drawn.plan ≡ plan
  pub only : drawn.only ≡ Some h
  pub there : h < section_count (all_of (survey_plan plan))
  pub lawful : Lawful (covered_tree (alone plan h))
      (IsReached (covered_tree (alone plan h)) (covered_start (alone plan h)))
  pub starts : StartsAlone (survey_plan plan) h (covered_start (alone plan h))
  pub full : IsFullPath (covered_tree (alone plan h)) (covered_start (alone plan h)) drawn.path
      drawn.leaf

-- ---- a log that is refused

-- the line of a log behind the most whole lines with which some genuine log of the plan begins, of either version
abbrev pub WholeDiffers : Survey → List ℕ → ℕ → Type 0
WholeDiffers plan log line =
    DiffersAt (IsAnyGenuine (tree_of plan) (sections_of plan) (start_of plan) plan.head) log line

-- the line of a log behind the most whole lines with which some genuine log of version 1 begins
abbrev pub OldDiffers : Survey → List ℕ → ℕ → Type 0
OldDiffers plan log line = DiffersAt (IsGenuine (tree_of plan) (start_of plan) plan.head) log line

-- the line of a log with which no genuine section h goes on
abbrev pub StratumDiffers : ℕ → Survey → List ℕ → ℕ → Type 0
StratumDiffers h plan log line =
    SectionDiffers (covered_tree (alone plan h)) (covered_start (alone plan h)) plan.head (h + 1)
    log line

-- what differs is said of the bytes of the log in its file
pub record RefusesLog (Differs : List ℕ → Type 0) (log : List ℕ) (fs : Files) : Type 0 where
  pub bytes : List ℕ
  pub held : fs log ≡ Some bytes
  pub differs : Differs bytes
