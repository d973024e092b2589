-- The main statement: what a call that ended well has done, and where the log differs that a call has refused.
use Rattle.std.specs.Prelude.{◌≡◌, ℕ, ◌+◌, ◌<◌, ◌≤◌, ◌^◌, List, [], ◌∷◌, length, Option, Some, None}
use Rattle.std.specs.Prelude.{option_map, Ok, is_ok, true}
use Rattle.std.specs.List.{filter}
use Rattle.smp_io.specs.Sink.{with_bytes}
use Rattle.smp_io.specs.Store.{Files}
use Rattle.smp_tape.specs.TapeText.{tape_of}
use Rattle.smp_tape.specs.Keys.{Place, words_of_seed}
use Rattle.smp_tape.specs.SieveSources.{key_stream, sieve_source}
use Rattle.smp_split.specs.Counts.{selected_units}
use Rattle.smp_split.specs.Paths.{values_of}
use Rattle.smp_split.specs.Runs.{Gives}
use Rattle.smp_methods.specs.declared.any.AnyState.{AnyState}
use Rattle.smp_split.specs.Stages.{Progress}
use Rattle.smp_frame.specs.Frames.{frame_of}
use Rattle.smp_strata.specs.Misfits.{misfit_of}
use Rattle.smp_design.specs.Designs.{design_of}
use Rattle.smp_words.specs.declared.command.Command.{Command}
use Rattle.smp_words.specs.declared.command.DemoArguments.{DemoArguments}
use Rattle.smp_words.specs.declared.command.DesignArguments.{DesignArguments}
use Rattle.smp_words.specs.declared.command.DrawArguments.{DrawArguments}
use Rattle.smp_words.specs.declared.command.MigrateArguments.{MigrateArguments}
use Rattle.smp_words.specs.declared.command.QuickArguments.{QuickArguments}
use Rattle.smp_words.specs.declared.command.ReplayArguments.{ReplayArguments}
use Rattle.smp_words.specs.declared.command.Command.TheVariants as commands
use Rattle.smp_words.specs.declared.command.Chance.{Chance}
use Rattle.smp_words.specs.declared.command.Chance.TheVariants.{Tape, Seed}
use Rattle.smp_words.specs.Words.{command_of}
use Rattle.smp_cases.specs.Demo.{demo_design_text, demo_frame_text, demo_key}
use Rattle.smp_log.specs.Genuine.{IsGenuine}
use Rattle.smp_log.specs.Heads.{head_of}
use Rattle.smp_log.specs.LoneSections.{HasSection}
use Rattle.smp_log.specs.SectionLogs.{IsAnyGenuine, IsSectionedGenuine}
use Rattle.smp_twostage.specs.Selections.{BelongsToWhole, all_of, covered_start, covered_tree, is_of_section, section_count}
use Rattle.smp_joint.specs.JointRows.{HasJoints, IsSystematicPlan}
use Rattle.smp_status.specs.declared.status.Status.{Status}
use Rattle.smp_status.specs.declared.status.Status.TheVariants as status
use Rattle.smp_plan.specs.Inputs.{most_joint_rows}
use Rattle.smp_plan.specs.Plans.{Survey, survey_plan, quick_design}
use Rattle.smp_app.specs.Drawn.{Drawn, tree_of, start_of, sections_of, drawn_rows}
use Rattle.smp_app.specs.Draws.{HasProbabilities, IsDrawnAlone, IsDrawnBy, OldDiffers, RefusesLog, StratumDiffers, WholeDiffers}
use Rattle.smp_app.specs.Texts.{accepted_text, demo_text, ids_text, joints_text, draw_log, draw_sample, migrated_text, probabilities_text}
use Rattle.smp_app.specs.Texts.{report_text, sample_text, steps_text}
use Rattle.smp_app.specs.Verdict.{alone, drawn_by_log, drawn_by_section}
use Rattle.smp_app.specs.Deliveries.{with_files}
use Rattle.smp_app.specs.Answers.{Outside}
use Rattle.smp_app.specs.Reports.{IsReported, TellsBalance}

-- ---- where the draws come from

-- The numbers on the tape in its file are the values that the path takes, all of them and no more.
pub record IsDrawnByTape (tape : List ℕ) (fs : Files) (drawn : Drawn) : Type 0 where
  pub values : List ℕ
  pub tape_read : option_map tape_of (fs tape) ≡ Some (Ok values)
  pub all : values ≡ values_of drawn.path

-- The words of the seed give the values of the path.
pub record IsDrawnBySeed (seed : List ℕ) (drawn : Drawn) : Type 0 where
  pub left : Place
  pub gives : Gives (sieve_source key_stream) (words_of_seed seed) drawn.path left

-- The draws come from the values of a tape, or from the words of a seed.
abbrev pub IsDrawnByChance : Chance → Files → Drawn → Type 0
IsDrawnByChance (Tape tape) fs drawn = IsDrawnByTape tape fs drawn
IsDrawnByChance (Seed seed) fs drawn = IsDrawnBySeed seed drawn

-- ---- what was read

-- The bytes in the file of a frame are what the plan says: its rows, by the columns of the design. The head names these very bytes, and
-- those of the design, by their digests.
pub record IsReadFrame (frame design_bytes : List ℕ) (fs : Files) (plan : Survey) : Type 0 where
  pub frame_bytes : List ℕ
  pub frame_held : fs frame ≡ Some frame_bytes
  pub frame_read : frame_of plan.design.columns frame_bytes ≡ Ok plan.units
  pub head : plan.head ≡ head_of design_bytes frame_bytes

-- A plan is what the bytes in the files of a design and of a frame say.
pub record IsReadPlan (design frame : List ℕ) (fs : Files) (plan : Survey) : Type 0 where
  pub design_bytes : List ℕ
  pub design_held : fs design ≡ Some design_bytes
  pub design_read : design_of design_bytes ≡ Ok plan.design
  pub frame_is : IsReadFrame frame design_bytes fs plan

-- The design and the frame go together: none of the misfits of the two is there.
abbrev pub IsAccepted : Survey → Type 0
IsAccepted plan = misfit_of plan.design plan.units ≡ None

-- ---- a draw

-- What a `draw` that ended well has done, by the arguments `a` that its words say: `fs` are the files before it, and `now` those after it,
-- where they are told. `Headline` has beside it that design and frame were accepted, the report, and that `replay` takes the log.
pub record IsExactDraw (a : DrawArguments) (fs : Files) (now : Option Files) : Type 0 where
  -- What is drawn, of all strata, with the values of the tape or the words of the seed; that these lead to its leaf is `full` of `by_plan`.
  pub drawn : Drawn
  pub is_drawn : IsDrawnByChance a.chance fs drawn
  -- Over draws that are uniform below each bound and independent of those before, the probability that a row is selected is exactly the one
  -- that is requested of it; as many are drawn as the design asks for; and in each stratum that is drawn by the cube or the local cube, or
  -- in all strata together, each flight step keeps every balancing total in force exactly, and landing starts only where no direction is
  -- left or the next step doesn't fit.
  pub by_plan : IsDrawnBy drawn
  -- The log and the sample of that leaf are written, and no other file has changed. The log has the plan's head and, a stratum after the
  -- other, every step that leads to the leaf.
  pub written : now ≡ Some (with_files
      (record { name = a.log; bytes = draw_log drawn }
      ∷ record { name = a.sample; bytes = draw_sample drawn } ∷ []) fs)
  -- The plan is what was read.
  pub read : IsReadPlan a.design a.frame fs drawn.plan

-- What `draw` wrote, `replay` accepts: by the log that was written it draws the very same, leaf and path; and it accepts each section of
-- that log alone, of which `IsExactSection` says what is drawn. A file has less than 2^64 bytes.
pub record IsReplayed (drawn : Drawn) : Type 0 where
  -- the draw starts from a state of the selection by the plan
  pub start : BelongsToWhole (survey_plan drawn.plan) (start_of drawn.plan)
  pub same : drawn_by_log drawn.plan (draw_log drawn) ≡ Ok drawn
  pub sections : (h : ℕ) → h < section_count (all_of (survey_plan drawn.plan))
      → length (draw_log drawn) < 2 ^ 64
      → is_ok (drawn_by_section drawn.plan h (draw_log drawn)) ≡ true

-- ---- a quick draw

-- What a `quick` that ended well has done: a draw of n units by sequential pivotal steps, of which the ids are written, and the
-- lines of the steps put.
pub record IsExactQuick (a : QuickArguments) (fs : Files) (before now : Outside) : Type 0 where
  -- What is drawn is the leaf to which the values of the tape lead in the draw tree of the plan.
  pub drawn : Drawn
  pub is_drawn : IsDrawnByTape a.tape fs drawn
  pub by_plan : IsDrawnBy drawn
  -- The ids of that leaf are written, no other file has changed, and the lines of the steps were put.
  pub written : now.files
      ≡ Some (with_files (record { name = a.out; bytes = ids_text drawn } ∷ []) fs)
  pub put : now.put ≡ with_bytes (steps_text drawn) before.put
  -- The plan is of the design of `quick`, of which there are no bytes, and of the frame that was read.
  pub design : drawn.plan.design ≡ quick_design a.n
  pub read : IsReadFrame a.frame [] fs drawn.plan
  pub accepted : IsAccepted drawn.plan

-- ---- a replay

-- What a `replay` of all strata that ended well has done.
pub record IsExactReplay (a : ReplayArguments) (fs : Files) (before now : Outside) : Type 0 where
  pub drawn : Drawn
  -- The bytes of the log are those of version 1 or of version 2 of a draw whose path comes to this leaf, as by the tape of its values.
  pub log : List ℕ
  pub log_held : fs a.log ≡ Some log
  pub genuine : IsAnyGenuine (tree_of drawn.plan) (sections_of drawn.plan) (start_of drawn.plan)
      drawn.plan.head log drawn.leaf
  pub path_is : drawn.path ≡ genuine.path
  -- Probabilities, numbers and balance are those of a draw.
  pub by_plan : IsDrawnBy drawn
  -- The sample of that leaf is written, no other file has changed, and the report of it was put.
  pub written : now.files
      ≡ Some (with_files (record { name = a.sample; bytes = draw_sample drawn } ∷ []) fs)
  pub reported : IsReported drawn by_plan.balance before now
  pub read : IsReadPlan a.design a.frame fs drawn.plan
  pub accepted : IsAccepted drawn.plan

-- Where the log is genuine as a whole, the rows that are drawn of section h alone are those of the section at its leaf. A file has less
-- than 2^64 bytes.
abbrev pub IsAsInWhole : Drawn → ℕ → List ℕ → Type 0
IsAsInWhole drawn h log =
    (leaf : Progress AnyState)
    → IsSectionedGenuine (tree_of drawn.plan) (sections_of drawn.plan) (start_of drawn.plan)
    drawn.plan.head log leaf → length log < 2 ^ 64
    → drawn_rows drawn ≡ filter (is_of_section (survey_plan drawn.plan) h)
    (selected_units (tree_of drawn.plan) leaf)

-- What a `replay` of section h, counted from 0, that ended well has done: of a stratum, or of all that are drawn together.
pub record IsExactSection (a : ReplayArguments) (h : ℕ) (fs : Files) (before now : Outside)
    : Type 0 where
  pub drawn : Drawn
  -- The genuine section stands in the log, as a draw writes it whose path in the section comes to this leaf.
  pub log : List ℕ
  pub log_held : fs a.log ≡ Some log
  pub section : HasSection (covered_tree (alone drawn.plan h)) (covered_start (alone drawn.plan h))
      drawn.plan.head (h + 1) log drawn.leaf
  pub path_is : drawn.path ≡ section.genuine.path
  -- The plan has the section, each row of it has its probability, and the steps are those of the whole draw in it.
  pub by_plan : IsDrawnAlone drawn.plan h drawn
  -- Where the log is that of a whole draw, the rows are those of the section in it.
  pub rows : IsAsInWhole drawn h log
  -- The sample of that leaf is written, no other file has changed, and the report of it was put.
  pub written : now.files
      ≡ Some (with_files (record { name = a.sample; bytes = sample_text drawn } ∷ []) fs)
  pub put : now.put ≡ with_bytes (report_text drawn) before.put
  pub read : IsReadPlan a.design a.frame fs drawn.plan
  pub accepted : IsAccepted drawn.plan

-- ---- a migration

-- What a `migrate` that ended well has done.
pub record IsExactMigration (a : MigrateArguments) (fs : Files) (before now : Outside)
    : Type 0 where
  pub drawn : Drawn
  -- The bytes of the log are those of version 1 of a draw whose path comes to this leaf.
  pub log : List ℕ
  pub log_held : fs a.log ≡ Some log
  pub old : IsGenuine (tree_of drawn.plan) (start_of drawn.plan) drawn.plan.head log drawn.leaf
  pub path_is : drawn.path ≡ old.path
  -- Probabilities, numbers and balance are those of a draw.
  pub by_plan : IsDrawnBy drawn
  -- The log of version 2 of this path, as a draw writes it, is written, and no other file has changed.
  pub written : now.files
      ≡ Some (with_files (record { name = a.to; bytes = draw_log drawn } ∷ []) fs)
  -- That log is genuine, of version 2, with the same path and leaf.
  pub genuine : IsSectionedGenuine (tree_of drawn.plan) (sections_of drawn.plan)
      (start_of drawn.plan) drawn.plan.head (draw_log drawn) drawn.leaf
  pub same_path : genuine.path ≡ old.path
  pub put : now.put ≡ with_bytes (migrated_text drawn) before.put
  -- What the report of the draw tells, which `replay` puts by that log.
  pub tells : TellsBalance drawn by_plan.balance
  pub read : IsReadPlan a.design a.frame fs drawn.plan
  pub accepted : IsAccepted drawn.plan

-- ---- a demonstration

-- What a `demo` that ended well has done, over any store: a draw by a design and a frame that it makes of N and SEED.
pub record IsExactDemo (a : DemoArguments) (before now : Outside) : Type 0 where
  -- What is drawn is the leaf to which the words of a seed made of SEED lead.
  pub drawn : Drawn
  pub is_drawn : IsDrawnBySeed (demo_key a.seed) drawn
  pub by_plan : IsDrawnBy drawn
  -- The plan is what these bytes of a design and of a frame say.
  pub design_read : design_of (demo_design_text a.n) ≡ Ok drawn.plan.design
  pub frame_read : frame_of drawn.plan.design.columns (demo_frame_text a.n a.seed)
      ≡ Ok drawn.plan.units
  pub head : drawn.plan.head ≡ head_of (demo_design_text a.n) (demo_frame_text a.n a.seed)
  pub accepted : IsAccepted drawn.plan
  -- Its log is accepted, as the summary says, which was put; and no file has changed.
  pub replayed : IsReplayed drawn
  pub tells : TellsBalance drawn by_plan.balance
  pub put : now.put ≡ with_bytes (demo_text drawn) before.put
  pub same : now.files ≡ before.files

-- ---- probabilities

-- What a `probs` or a `check` that ended well has done: it put this text of the plan.
pub record IsExactList (text : Survey → List ℕ) (a : DesignArguments) (fs : Files)
    (before now : Outside) : Type 0 where
  pub plan : Survey
  pub read : IsReadPlan a.design a.frame fs plan
  pub accepted : IsAccepted plan
  -- A draw by the plan selects each row with exactly the probability that is listed for it.
  pub probabilities : HasProbabilities plan
  pub put : now.put ≡ with_bytes (text plan) before.put
  pub same : now.files ≡ Some fs

-- ---- joint probabilities

-- What a `joint` that ended well has done.
pub record IsExactJoint (a : DesignArguments) (fs : Files) (before now : Outside) : Type 0 where
  -- The plan is what was read. It draws systematically, in the order of the frame and in one stage, from 2,000 rows at most.
  pub plan : Survey
  pub read : IsReadPlan a.design a.frame fs plan
  pub accepted : IsAccepted plan
  pub systematic : IsSystematicPlan (survey_plan plan)
  pub few : length plan.units ≤ most_joint_rows
  -- Over draws that are uniform below each bound and independent of those before, each two rows are both selected with exactly the joint
  -- probability that is listed for them; and where the probabilities of a stratum's units add up to a whole number, those of a unit with
  -- all others of the stratum add up to one less than it times the unit's own.
  pub joints : HasJoints (survey_plan plan)
  pub put : now.put ≡ with_bytes (joints_text plan) before.put
  pub same : now.files ≡ Some fs

-- ---- a log that is refused

-- A log was refused at a line: the plan is what was read, and the log in its file differs there.
pub record IsRefusedLog (design frame log : List ℕ) (fs : Files)
    (Differs : Survey → List ℕ → Type 0) : Type 0 where
  pub plan : Survey
  pub read : IsReadPlan design frame fs plan
  pub accepted : IsAccepted plan
  pub refused : RefusesLog (Differs plan) log fs

-- ---- the statement

-- A call of this command, where the files are told, has this answer.
pub record Ends (answer : Status) (words : List (List ℕ)) (before : Outside) (end : Status)
    (command : Command) (fs : Files) : Type 0 where
  pub answered : answer ≡ end
  pub asked : command_of words ≡ Some command
  pub told : before.files ≡ Some fs

-- A call that answers Done has done what its command asks for: such a draw, from a design and a frame that are accepted, whose
-- report was put, and whose log `replay` accepts; such a quick draw; such a replay, of all strata or of the section whose number the
-- words have, counted from 1; such a migration; such a demonstration; such a list of probabilities, or of joint ones. Where it
-- answers that a log differs at a line, the lines before this one are the most whole lines with which some genuine log begins, of
-- either version for `replay`, of version 1 for `migrate`; with a section's number the line is the first with which no such section
-- goes on.
pub record Headline (answer : Status) (words : List (List ℕ)) (before now : Outside) : Type 0 where
  pub draw : (a : DrawArguments) (fs : Files)
      → Ends answer words before status.Done (commands.Draw a) fs → IsExactDraw a fs now.files
  pub accepted : (a : DrawArguments) (fs : Files)
      → Ends answer words before status.Done (commands.Draw a) fs
      → (exact : IsExactDraw a fs now.files) → IsAccepted exact.drawn.plan
  pub reported : (a : DrawArguments) (fs : Files)
      → Ends answer words before status.Done (commands.Draw a) fs
      → (exact : IsExactDraw a fs now.files)
      → IsReported exact.drawn exact.by_plan.balance before now
  pub replayed : (a : DrawArguments) (fs : Files)
      → Ends answer words before status.Done (commands.Draw a) fs
      → (exact : IsExactDraw a fs now.files) → IsReplayed exact.drawn
  pub quick : (a : QuickArguments) (fs : Files)
      → Ends answer words before status.Done (commands.Quick a) fs → IsExactQuick a fs before now
  pub replay : (a : ReplayArguments) (fs : Files)
      → Ends answer words before status.Done (commands.Replay a) fs → a.stratum ≡ None
      → IsExactReplay a fs before now
  pub section : (a : ReplayArguments) (h : ℕ) (fs : Files)
      → Ends answer words before status.Done (commands.Replay a) fs → a.stratum ≡ Some (h + 1)
      → IsExactSection a h fs before now
  pub migrate : (a : MigrateArguments) (fs : Files)
      → Ends answer words before status.Done (commands.Migrate a) fs
      → IsExactMigration a fs before now
  pub demo : (a : DemoArguments) → answer ≡ status.Done → command_of words ≡ Some (commands.Demo a)
      → IsExactDemo a before now
  pub probs : (a : DesignArguments) (fs : Files)
      → Ends answer words before status.Done (commands.Probs a) fs
      → IsExactList probabilities_text a fs before now
  pub check : (a : DesignArguments) (fs : Files)
      → Ends answer words before status.Done (commands.Check a) fs
      → IsExactList accepted_text a fs before now
  pub joint : (a : DesignArguments) (fs : Files)
      → Ends answer words before status.Done (commands.Joint a) fs → IsExactJoint a fs before now
  pub replay_differs : (a : ReplayArguments) (fs : Files) (line : ℕ)
      → Ends answer words before (status.LogDiffers line) (commands.Replay a) fs
      → a.stratum ≡ None
      → IsRefusedLog a.design a.frame a.log fs (λ plan log. WholeDiffers plan log line)
  pub section_differs : (a : ReplayArguments) (h : ℕ) (fs : Files) (line : ℕ)
      → Ends answer words before (status.LogDiffers line) (commands.Replay a) fs
      → a.stratum ≡ Some (h + 1)
      → IsRefusedLog a.design a.frame a.log fs (λ plan log. StratumDiffers h plan log line)
  pub migrate_differs : (a : MigrateArguments) (fs : Files) (line : ℕ)
      → Ends answer words before (status.LogDiffers line) (commands.Migrate a) fs
      → IsRefusedLog a.design a.frame a.log fs (λ plan log. OldDiffers plan log line)
