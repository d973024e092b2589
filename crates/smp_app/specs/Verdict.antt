-- What a call is to answer, by its words and the files: the first refusal in the order of work, or what it is to write and put.
use Rattle.std.specs.Prelude.{ℕ, ◌+◌, ◌-◌, List, [], length, ◌==◌, nat_le, Option, Some, None, Result, Ok, Err}
use Rattle.std.specs.Prelude.{if◌then◌else◌}
use Rattle.smp_io.specs.Store.{Files}
use Rattle.smp_tape.specs.Sources as sources
use Rattle.smp_tape.specs.TapeText.{tape_of}
use Rattle.smp_tape.specs.Tapes.{Values, tape_of_values}
use Rattle.smp_tape.specs.TapeSources.{tape_source}
use Rattle.smp_tape.specs.declared.draws.DrawFault.{DrawFault}
use Rattle.smp_tape.specs.declared.draws.DrawFault.TheVariants.{Short, TooBig, Rejected}
use Rattle.smp_tape.specs.Keys.{Place, words_of_seed}
use Rattle.smp_tape.specs.SieveSources.{key_stream}
use Rattle.smp_tape.specs.SieveSources.{sieve_source}
use Rattle.smp_log.specs.Answers.{log_reading}
use Rattle.smp_log.specs.LoneSections.{section_reading, section_told}
use Rattle.smp_log.specs.SectionReading.{any_reading}
use Rattle.smp_log.specs.Told.{path_told}
use Rattle.smp_split.specs.Trees.{weight_sum}
use Rattle.smp_split.specs.Paths.{Entry}
use Rattle.smp_split.specs.Runs.{Outcome, run, leaf, stopped}
use Rattle.smp_methods.specs.declared.any.AnyState.{AnyState}
use Rattle.smp_words.specs.Words.{command_of}
use Rattle.smp_split.specs.Stages.{Progress}
use Rattle.smp_status.specs.declared.status.Status.{Status}
use Rattle.smp_status.specs.declared.status.Status.TheVariants.{Usage, TapeShort, TapeValue, TapeLong, LogDiffers, NoStratum}
use Rattle.smp_status.specs.declared.status.Status.TheVariants as status
use Rattle.smp_status.specs.Codes.{tape_status}
use Rattle.smp_app.specs.Deliveries.{Outputs}
use Rattle.smp_twostage.specs.Selections.{Coverage, all_of, covered_start, covered_tree, one_of, section_count}
use Rattle.smp_plan.specs.Plans.{Survey, survey_plan}
use Rattle.smp_app.specs.Drawn.{Drawn, tree_of, start_of, sections_of}
use Rattle.smp_plan.specs.Inputs.{plan_stage}
use Rattle.smp_app.specs.Commands.{Source, ByTape, BySeed, ByLog, ByOldLog, BySection, Work, Lists, Draws, Job, job_of, outputs_by}
use Rattle.smp_frac.specs.Faults.{◌>>=◌}
use Rattle.smp_plan.specs.Stops.{Stop, or_refused, or_fault, content_of, Refused}

-- ---- what is drawn

-- at a leaf, where so many values are left: what is drawn, unless there are some
abbrev pub drawn_at : Drawn → ℕ → Result Drawn Stop
drawn_at drawn left = if left == 0 then Ok drawn else Err (Refused (TapeLong left))

-- the refusal of a draw below a bound, where so many values were taken
abbrev pub draw_status : DrawFault → ℕ → ℕ → Status
draw_status Short bound taken = TapeShort taken
draw_status (TooBig place value) bound taken = TapeValue place value bound
draw_status (Rejected rejected) bound taken = status.Rejected rejected

-- what a run comes to, by how many values are taken then and how many are left
abbrev pub drawn_of : {Rest : Type 0} → Survey → (taken left : Rest → ℕ)
    → Outcome (Progress AnyState) Rest → Result Drawn Stop
drawn_of plan taken left (leaf state path rest) =
    drawn_at (record { plan = plan; only = None; leaf = state; path = path }) (left rest)
drawn_of plan taken left (stopped state path fault rest) =
    Err (Refused (draw_status fault (weight_sum ((tree_of plan).parts state)) (taken rest)))

-- what the draws of a source come to by a plan: they lead through its draw tree
abbrev pub drawn_from : {Rest : Type 0} → sources.Source Rest → (taken left : Rest → ℕ) → Survey → Rest
    → Result Drawn Stop
drawn_from source taken left plan rest =
    drawn_of plan taken left (run source (tree_of plan) (start_of plan) rest)

-- what the values of a tape draw
abbrev pub values_taken : Values → ℕ
values_taken tape = length tape.taken

abbrev pub values_left : Values → ℕ
values_left tape = length tape.left

abbrev pub drawn_by_tape : Survey → List ℕ → Result Drawn Stop
drawn_by_tape plan values =
    drawn_from tape_source values_taken values_left plan (tape_of_values [] values)

-- what the words of a seed draw, which have no end
abbrev pub no_words : Place → ℕ
no_words words = 0

abbrev pub drawn_by_seed : Survey → List ℕ → Result Drawn Stop
drawn_by_seed plan seed =
    drawn_from (sieve_source key_stream) no_words no_words plan (words_of_seed seed)

-- what a log tells of all strata or of one alone, where this is the path that it tells and its reading
abbrev pub told_by : Survey → Option ℕ → List Entry → Result (Progress AnyState) ℕ → Result Drawn Stop
told_by plan only path (Ok state) =
    Ok (record { plan = plan; only = only; leaf = state; path = path })
told_by plan only path (Err line) = Err (Refused (LogDiffers line))

-- a log of either version: the leaf and the path of the draw of which it is the log
abbrev pub drawn_by_log : Survey → List ℕ → Result Drawn Stop
drawn_by_log plan log =
    told_by plan None (path_told (tree_of plan) (start_of plan) log)
    (any_reading (tree_of plan) (sections_of plan) (start_of plan) plan.head log)

-- a log of version 1 alone
abbrev pub drawn_by_old_log : Survey → List ℕ → Result Drawn Stop
drawn_by_old_log plan log =
    told_by plan None (path_told (tree_of plan) (start_of plan) log)
    (log_reading (tree_of plan) (start_of plan) plan.head log)

-- the section of a number, counted from 0, where the plan has one: a stratum, or all where they are drawn together
abbrev pub stratum_at : Survey → ℕ → Result ℕ Stop
stratum_at plan number =
    let strata = section_count (all_of (survey_plan plan)) in
    if nat_le number strata then Ok (number - 1) else Err (Refused (NoStratum number strata))

-- section h of a plan alone
abbrev pub alone : Survey → ℕ → Coverage
alone plan h = one_of (survey_plan plan) h

-- section h in a log of version 2
abbrev pub drawn_by_section : Survey → ℕ → List ℕ → Result Drawn Stop
drawn_by_section plan h log =
    let tree = covered_tree (alone plan h) in
    let start = covered_start (alone plan h) in
    told_by plan (Some h) (section_told tree start (h + 1) log)
    (section_reading tree start plan.head (h + 1) log)

-- ---- the order of work

-- the tape or the log where there is one, and the draw
unfoldable pub drawn_stage : Survey → Source → Files → Result Drawn Stop
drawn_stage plan (BySeed seed) fs = drawn_by_seed plan seed
drawn_stage plan (ByLog log) fs = content_of log fs >>= drawn_by_log plan
drawn_stage plan (ByOldLog log) fs = content_of log fs >>= drawn_by_old_log plan
drawn_stage plan (BySection log number) fs = do
  h ← stratum_at plan number
  bytes ← content_of log fs
  drawn_by_section plan h bytes
drawn_stage plan (ByTape tape) fs = do
  bytes ← content_of tape fs
  values ← or_fault tape_status (tape_of bytes)
  drawn_by_tape plan values

-- what is to be written and put, from the plan on
abbrev pub work_stage : Work → Survey → Files → Result Outputs Stop
work_stage (Lists text) plan fs = Ok (record { files = []; put = text plan })
work_stage (Draws source files put) plan fs =
    drawn_stage plan source fs >>= λ drawn. Ok (outputs_by files put drawn)

abbrev pub outputs_stage : Job → Files → Result Outputs Stop
outputs_stage job fs =
    plan_stage job.design job.frame fs >>= λ plan. work_stage job.work plan fs

-- the first refusal in the order of work, or what is to be written and put
unfoldable pub verdict : List (List ℕ) → Files → Result Outputs Stop
verdict words fs = do
  command ← or_refused Usage (command_of words)
  outputs_stage (job_of command) fs
