-- What the functions of the crate owe each other: they read, and hand on a result that is a stage of the verdict.
use Rattle.std.specs.Prelude.{◌≡◌, ◌+◌, ◌<◌, ◌≤◌, ◌^◌, ℕ, List, map, Option, Some, None, IfSome, true}
use Rattle.std.specs.Prelude.{Result, Ok, Err}
use Rattle.smp_log.specs.declared.fault.ReplayFault.{ReplayFault}
use Rattle.smp_log.specs.declared.fault.ReplayFault.TheVariants as replays
use Rattle.smp_tape.specs.declared.draws.DrawFault.{DrawFault}
use Rattle.smp_split.specs.Paths.{Entry}
use Rattle.smp_split.specs.Runs.{Outcome, leaf, stopped}
use Rattle.smp_split.specs.Trees.{weight_sum}
use Rattle.smp_methods.specs.declared.any.AnyState.{AnyState}
use Rattle.smp_split.specs.Stages.{Progress}
use Rattle.smp_strata.specs.Plans.{Plan}
use Rattle.smp_twostage.specs.declared.whole.StartedWhole.{StartedWhole}
use Rattle.smp_twostage.specs.Covered.{StartsAlone}
use Rattle.smp_twostage.specs.Selections.{BelongsToCovered, Coverage, all_of, covered_start, covered_tree, section_count, strata_sections}
use Rattle.smp_log.specs.Answers.{log_reading}
use Rattle.smp_log.specs.LoneSections.{section_reading, section_told}
use Rattle.smp_log.specs.SectionLogs.{placed, steps_of}
use Rattle.smp_log.specs.SectionReading.{any_reading}
use Rattle.smp_log.specs.Told.{path_told}
use Rattle.smp_twostage.specs.Starts.{StartsWhole}
use Rattle.smp_words.specs.Words.{all_distinct}
use Rattle.smp_status.specs.declared.status.Status.{Status}
use Rattle.smp_status.specs.declared.status.Status.TheVariants as status
use Rattle.smp_app.specs.declared.selection.Stopped.{Stopped}
use Rattle.smp_app.specs.declared.selection.Stopped.TheVariants as stops
use Rattle.smp_app.specs.declared.selection.Taken.{Taken}
use Rattle.smp_app.specs.declared.selection.Taken.TheVariants as takes
use Rattle.smp_app.specs.declared.selection.Walked.{Walked}
use Rattle.smp_app.specs.declared.selection.Selection.{Selection}
use Rattle.smp_app.specs.declared.job.DrawSource.{DrawSource}
use Rattle.smp_app.specs.declared.job.DrawSource.TheVariants as draw_sources
use Rattle.smp_app.specs.declared.job.PlanText.{PlanText}
use Rattle.smp_app.specs.declared.job.PlanText.TheVariants as plan_texts
use Rattle.smp_app.specs.declared.job.DrawnText.{DrawnText}
use Rattle.smp_app.specs.declared.job.DrawnText.TheVariants as drawn_texts
use Rattle.smp_app.specs.declared.job.DrawnFile as code_file
use Rattle.smp_app.specs.declared.job.Work as code_work
use Rattle.smp_app.specs.declared.job.Work.TheVariants as works
use Rattle.smp_app.specs.declared.job.Job as code_job
use Rattle.smp_status.specs.Codes.{Class, IsUsage, IsRefusal}
use Rattle.smp_plan.specs.Plans.{Survey}
use Rattle.smp_app.specs.Drawn.{tree_of, Drawn, covered, drawn_rows}
use Rattle.smp_app.specs.Texts.{ids_text, steps_text, log_text, sample_text, report_text, migrated_text, demo_text, probabilities_text}
use Rattle.smp_app.specs.Texts.{accepted_text, joints_text}
use Rattle.smp_app.specs.Commands.{Source, ByTape, BySeed, ByLog, ByOldLog, BySection, DrawnFile, Work, Lists, Draws, Job, inputs_of}
use Rattle.smp_plan.specs.Stops.{Stop, Refused}
use Rattle.smp_app.specs.Verdict.{draw_status, drawn_at, drawn_by_log, drawn_by_old_log, drawn_by_section}
use Rattle.smp_app.specs.Draws.{OldDiffers, StratumDiffers, WholeDiffers}
use Rattle.smp_app.specs.Kept.Exact.{IsDrawnOf}
use Rattle.smp_app.specs.Answers.{Outside, Untouched, RefusesBy, Says}
use Rattle.smp_status.specs.Reports.{HasLine}
use Rattle.smp_plan.specs.Reads.{Follows}
use Rattle.smp_plan.specs.Planned.{source_view, frame_view, IsInRanges, IsFrameInRanges}

-- ---- values of the code as the definitions see them

-- the lines of a walk, each with its section
abbrev pub Lines : Type 0
Lines = List (ℕ × Entry)

abbrev pub selection_view : Survey → Selection → Drawn
selection_view plan selection =
    record { plan = plan; only = selection.only; leaf = selection.state; path = steps_of selection.lines }

abbrev pub walked_view : Survey → Walked → Lines → Drawn
walked_view plan walked lines =
    record { plan = plan; only = walked.only; leaf = walked.state; path = steps_of lines }

abbrev pub plan_text : PlanText → Survey → List ℕ
plan_text plan_texts.Probabilities = probabilities_text
plan_text plan_texts.Accepted = accepted_text
plan_text plan_texts.Joints = joints_text

abbrev pub drawn_text : DrawnText → Drawn → List ℕ
drawn_text drawn_texts.Ids = ids_text
drawn_text drawn_texts.Steps = steps_text
drawn_text drawn_texts.Log = log_text
drawn_text drawn_texts.Sample = sample_text
drawn_text drawn_texts.Report = report_text
drawn_text drawn_texts.Summary = demo_text
drawn_text drawn_texts.Migrated = migrated_text

abbrev pub file_view : code_file.DrawnFile → DrawnFile
file_view file = record { name = file.name.now; text = drawn_text file.text }

abbrev pub draw_view : DrawSource → Source
draw_view (draw_sources.Tape name) = ByTape name.now
draw_view (draw_sources.Seed seed) = BySeed seed
draw_view (draw_sources.Log name) = ByLog name.now
draw_view (draw_sources.OldLog name) = ByOldLog name.now
draw_view (draw_sources.Section name number) = BySection name.now number

abbrev pub work_view : code_work.Work → Work
work_view (works.Lists text) = Lists (plan_text text)
work_view (works.Draws from files put) =
    Draws (draw_view from) (map file_view files.items) (drawn_text put)

abbrev pub job_view : code_job.Job → Job
job_view job =
    record { design = source_view job.design; frame = frame_view job.frame; work = work_view job.work }

-- ---- selections

-- where one section alone is drawn, the plan has it
abbrev pub HasStratum : Plan → Option ℕ → Type 0
HasStratum plan only = IfSome only (λ h. (h < section_count (all_of plan)) × (h < 2 ^ 32))

-- where a walk of all strata starts, or of the one with this number
abbrev pub StartsOf : Plan → Option ℕ → Progress AnyState → Type 0
StartsOf plan None state = StartsWhole plan state
StartsOf plan (Some h) state = StartsAlone plan h state

pub record IsStart (plan : Plan) (only : Option ℕ) (started : StartedWhole) : Type 0 where
  pub whole : started.whole ≡ record { plan = plan; only = only }
  pub state : started.state ≡ covered_start (record { plan = plan; only = only })
  pub starts : StartsOf plan only started.state

-- the number of the stratum for which a log is taken, where it is one alone
abbrev pub only_of : Taken → Option ℕ
only_of takes.Either = None
only_of takes.Old = None
only_of (takes.Stratum h) = Some h

-- the path that a log tells of a selection from a state, and its reading there
abbrev pub path_by : Taken → Coverage → Progress AnyState → List ℕ → List Entry
path_by (takes.Stratum h) c from log = section_told (covered_tree c) from (h + 1) log
path_by other c from log = path_told (covered_tree c) from log

abbrev pub reading_by : Taken → Coverage → Progress AnyState → (head log : List ℕ)
    → Result (Progress AnyState) ℕ
reading_by takes.Either c from head log = any_reading (covered_tree c) (strata_sections c) from head log
reading_by takes.Old c from head log = log_reading (covered_tree c) from head log
reading_by (takes.Stratum h) c from head log = section_reading (covered_tree c) from head (h + 1) log

-- what it tells by a plan, and the line where it differs
abbrev pub drawn_by_taken : Taken → Survey → List ℕ → Result Drawn Stop
drawn_by_taken takes.Either plan log = drawn_by_log plan log
drawn_by_taken takes.Old plan log = drawn_by_old_log plan log
drawn_by_taken (takes.Stratum h) plan log = drawn_by_section plan h log

abbrev pub DiffersTaken : Taken → Survey → List ℕ → ℕ → Type 0
DiffersTaken takes.Either plan log line = WholeDiffers plan log line
DiffersTaken takes.Old plan log line = OldDiffers plan log line
DiffersTaken (takes.Stratum h) plan log line = StratumDiffers h plan log line

-- where a run stopped: at a state whose draw was refused
pub record RefusedAt {Rest : Type 0} (plan : Survey) (outcome : Outcome (Progress AnyState) Rest)
    (state : Progress AnyState) (fault : DrawFault) (bound : ℕ) (left : Rest) : Type 0 where
  pub path : List Entry
  pub ran : outcome ≡ stopped state path fault left
  pub bound_is : bound ≡ weight_sum ((tree_of plan).parts state)

-- a walk ended as the run over its draws, unless memory ran out
abbrev pub EndsAs : {Rest : Type 0} → Survey → Outcome (Progress AnyState) Rest → Rest
    → Progress AnyState → Result Lines Stopped → Type 0
EndsAs plan outcome left state (Ok lines) = outcome ≡ leaf state (steps_of lines) left
EndsAs plan outcome left state (Err (stops.Draw fault bound)) = RefusedAt plan outcome state fault bound left
EndsAs plan outcome left state (Err (stops.Log line)) = ⊥
EndsAs plan outcome left state (Err stops.NoMemory) = Unit {0}

-- a replay of all strata or of one alone ended as the log tells, unless memory ran out
abbrev pub EndsAsTold : Survey → Option ℕ → Result Drawn Stop → Progress AnyState
    → Result Lines Stopped → Type 0
EndsAsTold plan only stage state (Ok lines) =
    stage ≡ Ok (record { plan = plan; only = only; leaf = state; path = steps_of lines })
EndsAsTold plan only stage state (Err (stops.Log line)) =
    stage ≡ Err (Refused (status.LogDiffers line))
EndsAsTold plan only stage state (Err (stops.Draw fault bound)) = ⊥
EndsAsTold plan only stage state (Err stops.NoMemory) = Unit {0}

-- the end of a replay, by its answer and the lines that it told
abbrev pub end_told : Result (Unit {0}) ReplayFault → Lines → Result Lines Stopped
end_told (Ok done) lines = Ok lines
end_told (Err (replays.Differs line)) lines = Err (stops.Log line)
end_told (Err replays.NoMemory) lines = Err stops.NoMemory

-- the refusal for which a walk stopped, where so many values are taken
abbrev pub stopped_status : Stopped → ℕ → Status
stopped_status (stops.Draw fault bound) taken = draw_status fault bound taken
stopped_status (stops.Log line) taken = status.LogDiffers line
stopped_status stops.NoMemory taken = status.NoMemory

-- What is answered follows from the end of a walk, where so many values are taken and so many left.
abbrev pub FollowsEnd : Survey → Option ℕ → Result Drawn Status → Progress AnyState
    → Result Lines Stopped → (taken left : ℕ) → Type 0
FollowsEnd plan only answer state (Ok lines) taken left =
    Follows answer (drawn_at (record { plan = plan; only = only; leaf = state; path = steps_of lines }) left)
FollowsEnd plan only answer state (Err stop) taken left = answer ≡ Err (stopped_status stop taken)

-- the lines of what is drawn: the steps of its path, each with the section of the state at which it is asked
abbrev pub lines_of : Drawn → Lines
lines_of drawn =
    let own = covered drawn in
    placed (covered_tree own) (strata_sections own) (covered_start own) drawn.path

-- where a walk came to a leaf: a done state of the selection by the plan, the path to it, and its lines
pub record IsWalked (plan : Survey) (design : Coverage) (lines : Lines) (drawn : Drawn) : Type 0 where
  pub whole : design ≡ covered drawn
  pub belongs : BelongsToCovered design drawn.leaf
  pub done : (covered_tree (covered drawn)).done drawn.leaf ≡ true
  pub lines_are : lines ≡ lines_of drawn
  pub by_plan : IsDrawnOf drawn.only plan drawn

-- what is drawn by a plan: the rows of such a state
pub record IsSelection (plan : Survey) (selection : Selection) : Type 0 where
  pub whole : selection.whole ≡ covered (selection_view plan selection)
  pub belongs : BelongsToCovered selection.whole selection.state
  pub done : (covered_tree (covered (selection_view plan selection))).done selection.state ≡ true
  pub rows : selection.rows.items ≡ drawn_rows (selection_view plan selection)
  pub lines_are : selection.lines ≡ lines_of (selection_view plan selection)
  pub drawn : IsDrawnOf selection.only plan (selection_view plan selection)

-- ---- jobs

-- strata are counted from 1
abbrev pub IsSourceInRanges : DrawSource → Type 0
IsSourceInRanges (draw_sources.Section name number) = 1 ≤ number
IsSourceInRanges other = Unit {0}

abbrev pub IsWorkInRanges : code_work.Work → Type 0
IsWorkInRanges (works.Lists text) = Unit {0}
IsWorkInRanges (works.Draws from files put) = IsSourceInRanges from

-- what the words of a command are sure to have: the inputs have different names
pub record IsJob (job : code_job.Job) : Type 0 where
  pub distinct : all_distinct (inputs_of (job_view job)) ≡ true
  pub design : IsInRanges job.design
  pub frame : IsFrameInRanges job.frame
  pub work : IsWorkInRanges job.work

-- ---- the work before the line of a refusal

-- a refusal, before its line is put: it has one, and nothing was touched
pub record Refusing (class : Class) (refusal : Status) (words : List (List ℕ))
    (before now : Outside) : Type 0 where
  pub refused : RefusesBy class refusal words before.files
  pub lined : HasLine refusal
  pub same : Untouched before now

-- what a status of each class says before the line of a refusal is put
abbrev pub WorkSays : Class → Status → List (List ℕ) → Outside → Outside → Type 0
WorkSays IsUsage answer words before now = Refusing IsUsage answer words before now
WorkSays IsRefusal answer words before now = Refusing IsRefusal answer words before now
WorkSays class answer words before now = Says class answer words before now
