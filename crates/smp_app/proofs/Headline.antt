-- A call that ended well has drawn by the design, the frame and the draws that were read, and a log that was refused differs at its line.
use Rattle.std.proofs.Common.{◌≡◌, ℕ, zero, suc, ◌+◌, ◌-◌, ◌^◌, ◌<◌, ◌≤◌, Bool, true, false, ◌&&◌, List, [], ◌∷◌, ◌++◌, map, length, Option, Some, None, Result, Ok, Err, refl, sym, ap, ap₂, subst, ◌∙◌, inl, inr, arith, length-append}
use Rattle.std.specs.{Prelude.{◌==◌, is_ok, option_map}, List.{filter, flat_map, range_with_len}}
use Rattle.std.proofs.lemmas.Bool.{cases_Bool, eqb-true}
use Rattle.smp_io.specs.{Sink.{with_bytes}, Store.{Files}}
use Rattle.smp_tape.specs.{TapeText.{tape_of}, Sources.{Source}, Tapes.{tape_of_values}, TapeSources.{tape_source}, Keys.{words_of_seed}}
use Rattle.smp_tape.specs.SieveSources.{key_stream, sieve_source}
use Rattle.smp_split.specs.{Counts.{selected_units}, Paths.{Entry, IsFull, IsReached, values_of}, Sectioning.{IsSectioned}}
use Rattle.smp_split.proofs.{Sectioned.{sectioned_within}, Runs.{run_is, run_to_leaf}, Tapes.{full_runs, runs_full}}
use Rattle.smp_split.specs.{Laws.Steps.{reached_lawful}, Runs.{Outcome, IsLeaf, IsOutcome, leaf, stopped, run}, Stages.{Progress}}
use Rattle.smp_twostage.specs.{Covered.{state_alone}, Plans.{CanBeDrawn}, Laws.Wholes.{covered_lawful, strata_sectioned, whole_lawful}}
use Rattle.smp_twostage.proofs.{AloneBy.{reached_own}, Firsts.{start_belongs}, SectionStarts.{IsSectionStart, section_start}}
use Rattle.smp_twostage.specs.Selections.{BelongsToCovered, BelongsToWhole, Coverage, all_of, covered_start, covered_tree, is_of_section, section_count, strata_sections}
use Rattle.smp_methods.specs.declared.any.AnyState.{AnyState}
use Rattle.smp_words.specs.{declared.command.DemoArguments.{DemoArguments}, declared.command.DesignArguments.{DesignArguments}}
use Rattle.smp_words.specs.{declared.command.DrawArguments.{DrawArguments}, declared.command.MigrateArguments.{MigrateArguments}}
use Rattle.smp_words.specs.{declared.command.QuickArguments.{QuickArguments}, declared.command.ReplayArguments.{ReplayArguments}}
use Rattle.smp_words.specs.{declared.command.Command.{Command}, declared.command.Chance.{Chance}, Words.{command_of}}
use Rattle.smp_words.specs.declared.command.Command.TheVariants as commands
use Rattle.smp_words.specs.declared.command.Chance.TheVariants.{Tape, Seed}
use Rattle.smp_log.specs.{Answers.{IsAnswer, log_reading}, Genuine.{IsFullPath, IsGenuine}, Logs.{end_text}, SectionReading.{any_reading}}
use Rattle.smp_log.specs.Logs as logs
use Rattle.smp_log.specs.{LoneSections.{HasSection, IsReplayedAlone, IsSectionAnswer, section_reading, section_told}, Heads.{IsHead}}
use Rattle.smp_log.specs.SectionLogs.{IsAnyGenuine, IsAnyText, IsSectionedGenuine, placed, section_text, sectioned_head, sectioned_log_text, sections_text}
use Rattle.smp_log.specs.Told.{path_told}
use Rattle.smp_log.proofs.{Heads.{head_of-is}, Answered.{exact_reading}, LoneAnswers.{has_reading, has_told}, LoneExact.{exact_section}}
use Rattle.smp_log.proofs.{PartSections.{replayed_alone}, Telling.{genuine_told}, TwoVersions.{any_told, exact_any}}
use Rattle.smp_status.specs.{declared.status.Status.{Status}, declared.status.Status.TheVariants.{TapeLong}, Codes.{class_of, tape_status}}
use Rattle.smp_status.specs.declared.status.Status.TheVariants as status
use Rattle.smp_plan.specs.{Plans.{Survey, survey_plan, quick_design}, Reads.{Sees}, Stops.{Stop, Refused, content, or_fault}}
use Rattle.smp_weights.specs.Sample.{sample_file}
use Rattle.smp_app.specs.{Drawn.{Drawn, tree_of, start_of, sections_of, covered, drawn_rows}, Deliveries.{Outputs, with_files}}
use Rattle.smp_app.specs.Texts.{accepted_text, demo_text, draw_log, draw_sample, log_text, probabilities_text, report_text, sample_text, weighted_row}
use Rattle.smp_plan.specs.Inputs.{Given, Held, FrameHeld, ReadDesign, design_stage, frame_stage, plan_stage}
use Rattle.smp_cases.specs.Demo.{demo_design_text, demo_frame_text, demo_key}
use Rattle.smp_app.specs.Commands.{DrawnFile, ByLog, ByOldLog, BySection, BySeed, Draws, Lists, Job, source_of, log_source, held_job, job_of, job_for, inputs_of, outputs_by, written_by}
use Rattle.smp_app.specs.Commands as drawing
use Rattle.smp_frac.specs.Faults.{◌>>=◌}
use Rattle.smp_app.specs.Verdict.{values_taken, values_left, no_words, drawn_at, drawn_of, drawn_by_tape, drawn_by_seed, alone, stratum_at, told_by, drawn_by_log, drawn_by_old_log, drawn_by_section, drawn_stage, outputs_stage}
use Rattle.smp_app.specs.{Draws.{IsDrawnAlone, IsDrawnBy, OldDiffers, RefusesLog, StratumDiffers, WholeDiffers}, Reports.{IsReported}}
use Rattle.smp_app.specs.Kept.Exact.{ExactSays, IsDrawFrom, IsDrawnOf, IsDrawnWhole, IsExact, IsExactFrom, IsExactRefusal, IsRefused, IsRefusedFrom}
use Rattle.smp_app.specs.Answers.{Outside, Says, IsWork, Done}
use Rattle.smp_app.specs.Headline.{IsAccepted, IsDrawnBySeed, IsDrawnByChance, IsReadFrame, IsReadPlan, IsExactDraw, IsReplayed, IsExactQuick, IsExactReplay, IsExactSection, IsExactList, IsExactMigration, IsExactDemo, IsRefusedLog, Ends, Headline}
use Rattle.smp_plan.proofs.Steps.{sees_told}
use Rattle.smp_app.proofs.{Alone.{seats_long}, Cubes.{tells_balance}, Ends.{verdict_of}, Refusals.{stratum_is}, Joints.{exact_joint}}
use Rattle.smp_app.proofs.PlansRead.{MadePlan, Planned, accepted_plan, made_plan, content_is, frame_accepted, frame_plan, ok_same, planned, read, read_is, read_once, read_plan, some_same, step}
use Rattle.smp_app.proofs.Lists.{listed}

-- ---- what is drawn

-- at a leaf that is told, the draw is that leaf
at_leaf : (made : Drawn) (left : ℕ) (drawn : Drawn) → drawn_at made left ≡ Ok drawn → made ≡ drawn
at_leaf made left drawn h =
    elim (cases_Bool (left == 0)) [
      | inl e ↦ (let same : ◌≡◌ {A = Result Drawn Stop} (Ok made) (Ok drawn) = rw e at h in cc)
      | inr e ↦ absurd (let same : ◌≡◌ {A = Result Drawn Stop} (Err (Refused (TapeLong left))) (Ok drawn) = rw e at h in cc)
    ]

-- what is drawn is drawn by the plan, of all strata or of this one
record Same (plan : Survey) (only : Option ℕ) (drawn : Drawn) : Type 0 where
  by_plan : drawn.plan ≡ plan
  only_so : drawn.only ≡ only

plan_same : {Rest : Type 0} (plan : Survey) (taken left : Rest → ℕ) (outcome : Outcome (Progress AnyState) Rest) (drawn : Drawn) → drawn_of plan taken left outcome ≡ Ok drawn → Same plan None drawn
plan_same plan taken left (leaf state path end) drawn h =
    subst (Same plan None) (at_leaf (record { plan = plan; only = None; leaf = state; path = path }) (left end) drawn h) (record { by_plan = refl; only_so = refl })
plan_same plan taken left (stopped state path fault end) drawn h = absurd (cc)

-- at a leaf that is told, no values are left
none_left : (made : Drawn) (left : ℕ) (drawn : Drawn) → drawn_at made left ≡ Ok drawn → left ≡ 0
none_left made left drawn h =
    elim (cases_Bool (left == 0)) [
      | inl e ↦ eqb-true left 0 e
      | inr e ↦ absurd (let same : ◌≡◌ {A = Result Drawn Stop} (Err (Refused (TapeLong left))) (Ok drawn) = rw e at h in cc)
    ]

no_values : (values : List ℕ) → length values ≡ 0 → values ≡ []
no_values [] none = refl
no_values (v ∷ values) none = absurd (omega (arith, none))

-- where the draws came from: the path leads from the start to the leaf
module _ (plan : Survey) (member : BelongsToWhole (survey_plan plan) (start_of plan)) where
  module _ {Rest : Type 0} (source : Source Rest) (taken left : Rest → ℕ) (rest : Rest) (drawn : Drawn) where
    record Came : Type 0 where
      end : Rest
      ran : run source (tree_of plan) (start_of plan) rest ≡ leaf drawn.leaf drawn.path end
      none : left end ≡ 0

    came : (outcome : Outcome (Progress AnyState) Rest) → run source (tree_of plan) (start_of plan) rest ≡ outcome → drawn_of plan taken left outcome ≡ Ok drawn → Came
    came (leaf state path end) ran h =
        let made : record { plan = plan; only = None; leaf = state; path = path } ≡ drawn = at_leaf _ (left end) drawn h in
        record {
          end = end;
          ran = subst (λ (d : Drawn). run source (tree_of plan) (start_of plan) rest ≡ leaf d.leaf d.path end) made ran;
          none = none_left _ (left end) drawn h;
        }
    came (stopped state path fault end) ran h = absurd (cc)

  tape_full : (values : List ℕ) (drawn : Drawn) → drawn_by_tape plan values ≡ Ok drawn → IsFull (tree_of plan) (start_of plan) values drawn.path drawn.leaf
  tape_full values drawn h =
      let c = came tape_source values_taken values_left (tape_of_values [] values) drawn _ refl h in
      runs_full (tree_of plan) (BelongsToWhole (survey_plan plan)) (whole_lawful (survey_plan plan)) (start_of plan) drawn.leaf drawn.path (tape_of_values [] values) c.end member c.ran (no_values c.end.left c.none)

  seed_given : (seed : List ℕ) (drawn : Drawn) → drawn_by_seed plan seed ≡ Ok drawn → IsDrawnBySeed seed drawn
  seed_given seed drawn h =
      let c = came (sieve_source key_stream) no_words no_words (words_of_seed seed) drawn _ refl h in
      let is : IsLeaf (sieve_source key_stream) (tree_of plan) (start_of plan) (words_of_seed seed) drawn.leaf drawn.path c.end =
      subst (IsOutcome (sieve_source key_stream) (tree_of plan) (start_of plan) (words_of_seed seed)) c.ran
      (run_is (sieve_source key_stream) (tree_of plan) (BelongsToWhole (survey_plan plan)) (whole_lawful (survey_plan plan)) (start_of plan) (words_of_seed seed) member) in
      record {
        left = c.end;
        gives = is.gives;
      }

  by_chance : (chance : Chance) (fs : Files) (drawn : Drawn) → drawn_stage plan (source_of chance) fs ≡ Ok drawn → IsDrawnByChance chance fs drawn
  unfolding drawn_stage
  by_chance (Seed seed) fs drawn h = seed_given seed drawn h
  by_chance (Tape tape) fs drawn h =
      let bytes = step (content tape (fs tape)) _ drawn h in
      let values = step (or_fault tape_status (tape_of bytes.value)) _ drawn bytes.then_is in
      record {
        values = values.value;
        tape_read = ap (option_map tape_of) (content_is (fs tape) tape bytes.value bytes.first_is) ∙ ap Some (read_is tape_status (tape_of bytes.value) values.value values.first_is);
        all = (tape_full values.value drawn values.then_is).all;
      }

-- a draw that came so from the start is what the verdict draws
module _ (drawn : Drawn) (all : drawn.only ≡ None) (member : BelongsToWhole (survey_plan drawn.plan) (start_of drawn.plan)) (full : IsFullPath (tree_of drawn.plan) (start_of drawn.plan) drawn.path drawn.leaf) where
  abbrev by_only : Option ℕ → Result Drawn Stop
  by_only only = Ok (record { plan = drawn.plan; only = only; leaf = drawn.leaf; path = drawn.path })

  tape_again : (values : List ℕ) → values ≡ values_of drawn.path → drawn_by_tape drawn.plan values ≡ Ok drawn
  tape_again values is =
      ap (drawn_of drawn.plan values_taken values_left)
      (full_runs (tree_of drawn.plan) (BelongsToWhole (survey_plan drawn.plan)) (whole_lawful (survey_plan drawn.plan)) (start_of drawn.plan) drawn.leaf drawn.path [] values member
      (record { leads = full.leads; done = full.done; all = is }))
      ∙ ap by_only (sym all)

  seed_again : (seed : List ℕ) → IsDrawnBySeed seed drawn → drawn_by_seed drawn.plan seed ≡ Ok drawn
  seed_again seed by =
      ap (drawn_of drawn.plan no_words no_words)
      (run_to_leaf (sieve_source key_stream) (tree_of drawn.plan) (BelongsToWhole (survey_plan drawn.plan)) (whole_lawful (survey_plan drawn.plan)) (start_of drawn.plan) drawn.leaf drawn.path (words_of_seed seed) by.left member
      (record { leads = full.leads; done = full.done; gives = by.gives }))
      ∙ ap by_only (sym all)

  read_again : (name values : List ℕ) (held : Option (List ℕ)) → option_map tape_of held ≡ Some (Ok values) → (stage : List ℕ → Result Drawn Stop)
      → content name held >>= (λ bytes. or_fault tape_status (tape_of bytes) >>= stage) ≡ stage values
  read_again name values (Some bytes) is stage = (let same : tape_of bytes ≡ Ok values = cc in rw same refl)
  read_again name values None is stage = absurd (cc)

  chance_again : (chance : Chance) (fs : Files) → IsDrawnByChance chance fs drawn → drawn_stage drawn.plan (source_of chance) fs ≡ Ok drawn
  unfolding drawn_stage
  chance_again (Seed seed) fs by = seed_again seed by
  chance_again (Tape tape) fs by = read_again tape by.values (fs tape) by.tape_read (drawn_by_tape drawn.plan) ∙ tape_again by.values by.all

-- all strata are drawn
chance_same : (plan : Survey) (chance : Chance) (fs : Files) (drawn : Drawn) → drawn_stage plan (source_of chance) fs ≡ Ok drawn → Same plan None drawn
unfolding drawn_stage
chance_same plan (Seed seed) fs drawn h = plan_same plan no_words no_words (run (sieve_source key_stream) (tree_of plan) (start_of plan) (words_of_seed seed)) drawn h
chance_same plan (Tape tape) fs drawn h =
    let bytes = step (content tape (fs tape)) _ drawn h in
    let values = step (or_fault tape_status (tape_of bytes.value)) _ drawn bytes.then_is in
    plan_same plan values_taken values_left (run tape_source (tree_of plan) (start_of plan) (tape_of_values [] values.value)) drawn values.then_is

-- ---- what a log told

-- what was told is of the plan, and its reading is a leaf
record Told (plan : Survey) (only : Option ℕ) (path : List Entry) (reading : Result (Progress AnyState) ℕ) (drawn : Drawn) : Type 0 where
  same : Same plan only drawn
  reads : reading ≡ Ok drawn.leaf
  path_so : drawn.path ≡ path

told_so : (plan : Survey) (only : Option ℕ) (path : List Entry) (reading : Result (Progress AnyState) ℕ) (drawn : Drawn) → told_by plan only path reading ≡ Ok drawn → Told plan only path reading drawn
told_so plan only path (Ok state) drawn h =
    let ok : ◌≡◌ {A = Result Drawn Stop} (Ok (record { plan = plan; only = only; leaf = state; path = path })) (Ok drawn) = h in
    let made : record { plan = plan; only = only; leaf = state; path = path } ≡ drawn = cc in
    subst (Told plan only path (Ok state)) made (record { same = record { by_plan = refl; only_so = refl }; reads = refl; path_so = refl })
told_so plan only path (Err line) drawn h = absurd (cc)

-- a log was read, and this was told of its bytes
record Logged (stage : List ℕ → Result Drawn Stop) (name : List ℕ) (fs : Files) (drawn : Drawn) : Type 0 where
  log : List ℕ
  held : fs name ≡ Some log
  tells : stage log ≡ Ok drawn

logged : (stage : List ℕ → Result Drawn Stop) (name : List ℕ) (fs : Files) (drawn : Drawn) → content name (fs name) >>= stage ≡ Ok drawn → Logged stage name fs drawn
logged stage name fs drawn h =
    let bytes = step (content name (fs name)) stage drawn h in
    record { log = bytes.value; held = content_is (fs name) name bytes.value bytes.first_is; tells = bytes.then_is }

by_log : (plan : Survey) (name : List ℕ) (fs : Files) (drawn : Drawn) → drawn_stage plan (ByLog name) fs ≡ Ok drawn → Logged (drawn_by_log plan) name fs drawn
unfolding drawn_stage
by_log plan name fs drawn h = logged (drawn_by_log plan) name fs drawn h

by_old_log : (plan : Survey) (name : List ℕ) (fs : Files) (drawn : Drawn) → drawn_stage plan (ByOldLog name) fs ≡ Ok drawn → Logged (drawn_by_old_log plan) name fs drawn
unfolding drawn_stage
by_old_log plan name fs drawn h = logged (drawn_by_old_log plan) name fs drawn h

by_section : (plan : Survey) (name : List ℕ) (number h : ℕ) (fs : Files) (drawn : Drawn) → number ≡ h + 1 → drawn_stage plan (BySection name number) fs ≡ Ok drawn → Logged (drawn_by_section plan h) name fs drawn
unfolding drawn_stage
by_section plan name number h fs drawn is staged =
    let at = step (stratum_at plan number) (λ k. content name (fs name) >>= drawn_by_section plan k) drawn staged in
    subst (λ (k : ℕ). Logged (drawn_by_section plan k) name fs drawn) (omega (arith, stratum_is plan number at.value at.first_is, is)) (logged (drawn_by_section plan at.value) name fs drawn at.then_is)

module _ (plan : Survey) (member : BelongsToWhole (survey_plan plan) (start_of plan)) (is_head : IsHead plan.head) (log : List ℕ) (drawn : Drawn) where
  abbrev any_text : List Entry → List ℕ → Type 0
  any_text = IsAnyText (tree_of plan) (sections_of plan) (start_of plan) plan.head

  -- the log of either version of what is drawn
  record AnyLog : Type 0 where
    same : Same plan None drawn
    genuine : IsAnyGenuine (tree_of plan) (sections_of plan) (start_of plan) plan.head log drawn.leaf
    path_is : drawn.path ≡ genuine.path

  any_log : drawn_by_log plan log ≡ Ok drawn → AnyLog
  any_log h =
      let told = told_so plan None (path_told (tree_of plan) (start_of plan) log) (any_reading (tree_of plan) (sections_of plan) (start_of plan) plan.head log) drawn h in
      let exact = exact_any (tree_of plan) (BelongsToWhole (survey_plan plan)) (whole_lawful (survey_plan plan)) (sections_of plan) (strata_sectioned (all_of (survey_plan plan))) (start_of plan) member plan.head is_head log in
      let genuine : IsAnyGenuine (tree_of plan) (sections_of plan) (start_of plan) plan.head log drawn.leaf = subst (IsAnswer (IsAnyGenuine (tree_of plan) (sections_of plan) (start_of plan) plan.head) log) told.reads exact.right in
      record {
        same = told.same;
        genuine = genuine;
        path_is = told.path_so ∙ any_told (tree_of plan) (BelongsToWhole (survey_plan plan)) (whole_lawful (survey_plan plan)) (sections_of plan) (strata_sectioned (all_of (survey_plan plan))) (start_of plan) member plan.head is_head log drawn.leaf genuine;
      }

  -- the log of version 1 of what is drawn
  record OldLog : Type 0 where
    same : Same plan None drawn
    genuine : IsGenuine (tree_of plan) (start_of plan) plan.head log drawn.leaf
    path_is : drawn.path ≡ genuine.path

  old_log : drawn_by_old_log plan log ≡ Ok drawn → OldLog
  old_log h =
      let told = told_so plan None (path_told (tree_of plan) (start_of plan) log) (log_reading (tree_of plan) (start_of plan) plan.head log) drawn h in
      let exact = exact_reading (tree_of plan) (BelongsToWhole (survey_plan plan)) (whole_lawful (survey_plan plan)) (start_of plan) member plan.head is_head log in
      let genuine : IsGenuine (tree_of plan) (start_of plan) plan.head log drawn.leaf = subst (IsAnswer (IsGenuine (tree_of plan) (start_of plan) plan.head) log) told.reads exact.right in
      record {
        same = told.same;
        genuine = genuine;
        path_is = told.path_so ∙ genuine_told (tree_of plan) (BelongsToWhole (survey_plan plan)) (whole_lawful (survey_plan plan)) (start_of plan) member plan.head log is_head drawn.leaf genuine;
      }

-- ---- what a section told

-- the numbers that pass one test are those among the numbers that pass another
filter_both : (p q r : ℕ → Bool) (from len : ℕ) → ((k : ℕ) → k < from + len → p k ≡ q k && r k) → filter p (range_with_len from len) ≡ filter q (filter r (range_with_len from len))
filter_both p q r from zero same = refl
filter_both p q r from (suc len) same =
    let rest = filter_both p q r (from + 1) len (λ k l. same k (omega (arith, l))) in
    let here : p from ≡ q from && r from = same from (omega arith) in
    elim (cases_Bool (r from)) [
      | inl inner ↦
          (let p_is : p from ≡ q from = here ∙ ap (λ b. q from && b) inner ∙ and_true (q from) in
          elim (cases_Bool (q from)) [
            | inl both ↦ (let passes : p from ≡ true = p_is ∙ both in rw (inner, passes, both) (ap (λ ks. from ∷ ks) rest))
            | inr none ↦ (let fails : p from ≡ false = p_is ∙ none in rw (inner, fails, none) rest)
          ])
      | inr outer ↦ (let fails : p from ≡ false = here ∙ ap (λ b. q from && b) outer ∙ and_false (q from) in rw (outer, fails) rest)
    ]
  where
    and_true : (b : Bool) → b && true ≡ b
    and_true true = refl
    and_true false = refl

    and_false : (b : Bool) → b && false ≡ false
    and_false true = refl
    and_false false = refl

-- a log has at least a byte for each section
sections_long : (steps : List (ℕ × Entry)) (g n : ℕ) → n ≤ length (flat_map (section_text steps) (range_with_len g n))
sections_long steps g zero = omega arith
sections_long steps g (suc n) =
    let rest = sections_long steps (g + 1) n in
    omega (arith, rest, length-append (section_text steps g) (flat_map (section_text steps) (range_with_len (g + 1) n)))

log_long : (head : List ℕ) (count : ℕ) (steps : List (ℕ × Entry)) → count ≤ length (sections_text head count steps)
log_long head count steps =
    let body : List ℕ = flat_map (section_text steps) (range_with_len 0 count) in
    omega (arith, sections_long steps 0 count, length-append body (end_text (length steps)), length-append (sectioned_head head) (body ++ end_text (length steps)))

module _ (plan : Survey) (is_head : IsHead plan.head) (drawable : CanBeDrawn (survey_plan plan)) (h : ℕ) (within : h < section_count (all_of (survey_plan plan))) (log : List ℕ) where
  abbrev own : Coverage
  own = alone plan h

  starts : IsSectionStart (survey_plan plan) h
  starts = section_start (survey_plan plan) drawable h within

  member : BelongsToWhole (survey_plan plan) (start_of plan)
  member = start_belongs (survey_plan plan) drawable

  abbrev Reached : Progress AnyState → Type 0
  Reached = IsReached (tree_of plan) (start_of plan)

  -- the leaf of the section where the whole log is genuine
  module _ (leaf : Progress AnyState) (short : length log < 2 ^ 64) (genuine : IsSectionedGenuine (tree_of plan) (sections_of plan) (start_of plan) plan.head log leaf) where
    replays : IsReplayedAlone (tree_of plan) (start_of plan) plan.head log h (covered_tree own) (state_alone (survey_plan plan) h) (is_of_section (survey_plan plan) h) leaf
    replays =
        let steps : List (ℕ × Entry) = placed (tree_of plan) (sections_of plan) (start_of plan) genuine.path in
        let long : (sections_of plan).count ≤ length (sections_text plan.head (sections_of plan).count steps) = log_long plan.head (sections_of plan).count steps in
        let size : length log ≡ length (sections_text plan.head (sections_of plan).count steps) = ap length genuine.text in
        let sectioned : IsSectioned (tree_of plan) Reached (sections_of plan) =
        sectioned_within (tree_of plan) (BelongsToWhole (survey_plan plan)) Reached (reached_own (survey_plan plan) member) (sections_of plan) (strata_sectioned (all_of (survey_plan plan))) in
        replayed_alone (tree_of plan) Reached (reached_lawful (tree_of plan) (BelongsToWhole (survey_plan plan)) (whole_lawful (survey_plan plan)) (start_of plan) member) (sections_of plan) sectioned h within (covered_tree own) (state_alone (survey_plan plan) h) (is_of_section (survey_plan plan) h) starts.part
        (BelongsToCovered own) (covered_lawful own) (start_of plan) (record { path = []; leads = refl }) (subst (BelongsToCovered own) starts.state starts.member) plan.head is_head log leaf genuine (omega (arith, long, size, short)) short

    section_there : HasSection (covered_tree own) (covered_start own) plan.head (h + 1) log (state_alone (survey_plan plan) h leaf)
    section_there = subst (λ (s : Progress AnyState). HasSection (covered_tree own) s plan.head (h + 1) log (state_alone (survey_plan plan) h leaf)) (sym starts.state) replays.section

    rows_same : filter ((covered_tree own).selected (state_alone (survey_plan plan) h leaf)) (range_with_len 0 (covered_tree own).units) ≡ filter (is_of_section (survey_plan plan) h) (selected_units (tree_of plan) leaf)
    rows_same =
        let units : (covered_tree own).units ≡ (tree_of plan).units = seats_long own ∙ sym (seats_long (all_of (survey_plan plan))) in
        ap (λ n. filter ((covered_tree own).selected (state_alone (survey_plan plan) h leaf)) (range_with_len 0 n)) units
        ∙ filter_both ((covered_tree own).selected (state_alone (survey_plan plan) h leaf)) (is_of_section (survey_plan plan) h) ((tree_of plan).selected leaf) 0 (tree_of plan).units (λ k l. replays.selected k (omega (arith, l)))

    reads_there : section_reading (covered_tree own) (covered_start own) plan.head (h + 1) log ≡ Ok (state_alone (survey_plan plan) h leaf)
    reads_there = has_reading (covered_tree own) (BelongsToCovered own) (covered_lawful own) (covered_start own) starts.member plan.head (h + 1) log is_head (state_alone (survey_plan plan) h leaf) section_there

    -- so it is accepted
    is_accepted : is_ok (drawn_by_section plan h log) ≡ true
    is_accepted = ap (λ reading. is_ok (told_by plan (Some h) (section_told (covered_tree own) (covered_start own) (h + 1) log) reading)) reads_there

  module _ (drawn : Drawn) where
    -- the section of what is drawn
    record SectionLog : Type 0 where
      same : Same plan (Some h) drawn
      section : HasSection (covered_tree own) (covered_start own) plan.head (h + 1) log drawn.leaf
      path_is : drawn.path ≡ section.genuine.path
      rows : (leaf : Progress AnyState) → length log < 2 ^ 64 → IsSectionedGenuine (tree_of plan) (sections_of plan) (start_of plan) plan.head log leaf
          → selected_units (covered_tree own) drawn.leaf ≡ filter (is_of_section (survey_plan plan) h) (selected_units (tree_of plan) leaf)

    section_log : drawn_by_section plan h log ≡ Ok drawn → SectionLog
    section_log staged =
        let told = told_so plan (Some h) (section_told (covered_tree own) (covered_start own) (h + 1) log) (section_reading (covered_tree own) (covered_start own) plan.head (h + 1) log) drawn staged in
        let exact = exact_section (covered_tree own) (BelongsToCovered own) (covered_lawful own) (covered_start own) starts.member plan.head is_head (h + 1) log in
        let section : HasSection (covered_tree own) (covered_start own) plan.head (h + 1) log drawn.leaf = subst (IsSectionAnswer (covered_tree own) (covered_start own) plan.head (h + 1) log) told.reads exact.right in
        record {
          same = told.same;
          section = section;
          path_is = told.path_so ∙ has_told (covered_tree own) (BelongsToCovered own) (covered_lawful own) (covered_start own) starts.member plan.head (h + 1) log drawn.leaf section;
          rows = λ leaf short genuine.
              (let one : ◌≡◌ {A = Result (Progress AnyState) ℕ} (Ok drawn.leaf) (Ok (state_alone (survey_plan plan) h leaf)) = sym told.reads ∙ reads_there leaf short genuine in
              let same : drawn.leaf ≡ state_alone (survey_plan plan) h leaf = cc in
              ap (selected_units (covered_tree own)) same ∙ rows_same leaf short genuine);
        }

-- ---- a draw that ended well

-- the outputs of a job that draws are those of what it draws
outputs_are : (words : List (List ℕ)) (job : Job) (fs : Files) (before now : Outside) (source : drawing.Source) (files : List DrawnFile) (put : Drawn → List ℕ) (plan : Survey) (drawn : Drawn)
    → job_for words ≡ Some job → job.work ≡ Draws source files put → plan_stage job.design job.frame fs ≡ Ok plan → drawn_stage plan source fs ≡ Ok drawn → (work : IsWork words job fs before now) → work.outputs ≡ outputs_by files put drawn
outputs_are words job fs before now source files put plan drawn asked work_is planned_is drawn_is work =
    let staged : outputs_stage job fs ≡ Ok (outputs_by files put drawn) = rw (planned_is, work_is, drawn_is) refl in
    ok_same _ _ (sym work.accepted ∙ verdict_of words job asked fs ∙ staged)

-- what a job that draws has drawn by its plan, and what it has written and put of that
record Drew (job : Job) (source : drawing.Source) (files : List DrawnFile) (put : Drawn → List ℕ) (fs : Files) (before now : Outside) : Type 0 where
  plan : Survey
  planned : plan_stage job.design job.frame fs ≡ Ok plan
  drawn : Drawn
  staged : drawn_stage plan source fs ≡ Ok drawn
  by_plan : IsDrawnOf drawn.only plan drawn
  written : now.files ≡ Some (with_files (map (written_by drawn) files) fs)
  shown : now.put ≡ with_bytes (put drawn) before.put

drew : (words : List (List ℕ)) (job : Job) (fs : Files) (before now : Outside) {source : drawing.Source} {files : List DrawnFile} {put : Drawn → List ℕ}
    → job_for words ≡ Some job → job.work ≡ Draws source files put → IsExact job fs → Done words before now → before.files ≡ Some fs → Drew job source files put fs before now
drew words job fs before now {source = source} {files = files} {put = put} asked work_is exact done told =
    let same : done.job ≡ job = some_same _ _ (sym done.asked ∙ asked) in
    let work : IsWork words job fs before now = subst (λ (j : Job). IsWork words j fs before now) same (done.done fs (sees_told (inputs_of done.job) before.files fs told)) in
    let plan = exact.plan in
    let planned_so = exact.planned in
    let from : IsDrawFrom plan source fs = subst (λ (w : drawing.Work). IsExactFrom plan w fs) work_is exact.from_plan in
    let outputs = outputs_are words job fs before now source files put plan from.drawn asked work_is planned_so from.is_drawn work in
    record {
      plan = plan;
      planned = planned_so;
      drawn = from.drawn;
      staged = from.is_drawn;
      by_plan = from.by_plan;
      written = work.files ∙ ap (option_map (with_files work.outputs.files)) told ∙ ap (λ (o : Outputs). Some (with_files o.files fs)) outputs;
      shown = work.put ∙ ap (λ (o : Outputs). with_bytes o.put before.put) outputs;
    }

-- the plan of what is drawn can be drawn
drawable_of : (plan : Survey) (drawn : Drawn) → drawn.plan ≡ plan → BelongsToWhole (survey_plan plan) (start_of plan) → CanBeDrawn (survey_plan drawn.plan)
drawable_of plan drawn is member = subst (λ (p : Survey). CanBeDrawn (survey_plan p)) (sym is) member.drawable

-- what is drawn of all strata
by_whole : (plan : Survey) (drawn : Drawn) → drawn.only ≡ None → IsDrawnOf drawn.only plan drawn → IsDrawnWhole plan drawn
by_whole plan drawn all by = subst (λ (o : Option ℕ). IsDrawnOf o plan drawn) all by

-- its texts are those by the plan's tree
module _ (drawn : Drawn) (all : drawn.only ≡ None) where
  abbrev seen : Option ℕ → Coverage
  seen only = record { plan = survey_plan drawn.plan; only = only }

  log_so : log_text drawn ≡ draw_log drawn
  log_so = ap (λ (o : Option ℕ). sectioned_log_text (covered_tree (seen o)) (strata_sections (seen o)) (covered_start (seen o)) drawn.plan.head drawn.path) all

  sample_so : sample_text drawn ≡ draw_sample drawn
  sample_so = ap (λ (o : Option ℕ). sample_file (map (weighted_row drawn.plan) (selected_units (covered_tree (seen o)) drawn.leaf))) all

-- the log that is written of it is genuine, of version 2
module _ (drawn : Drawn) (by : IsDrawnBy drawn) where
  log_genuine : IsSectionedGenuine (tree_of drawn.plan) (sections_of drawn.plan) (start_of drawn.plan) drawn.plan.head (draw_log drawn) drawn.leaf
  log_genuine = record { path = drawn.path; full = by.full; text = refl }

  log_path : log_genuine.path ≡ drawn.path
  unfolding log_genuine
  log_path = refl

-- the head of the plan that was read
head_so : (design frame : List ℕ) (fs : Files) (plan : Survey) → IsReadPlan design frame fs plan → IsHead plan.head
head_so design frame fs plan from = subst IsHead (sym from.frame_is.head) (head_of-is from.design_bytes from.frame_is.frame_bytes)

abbrev ok_drawn : Drawn → Result Drawn Stop
ok_drawn drawn = Ok drawn

-- the log that is written of it tells it again
module _ (drawn : Drawn) (by : IsDrawnBy drawn) (is_head : IsHead drawn.plan.head) (member : BelongsToWhole (survey_plan drawn.plan) (start_of drawn.plan)) where
  abbrev own_log : List ℕ
  own_log = draw_log drawn

  own_genuine : IsSectionedGenuine (tree_of drawn.plan) (sections_of drawn.plan) (start_of drawn.plan) drawn.plan.head own_log drawn.leaf
  own_genuine = log_genuine drawn by

  own_any : IsAnyGenuine (tree_of drawn.plan) (sections_of drawn.plan) (start_of drawn.plan) drawn.plan.head own_log drawn.leaf
  own_any = record { path = own_genuine.path; full = own_genuine.full; text = inr own_genuine.text }

  read_back : any_reading (tree_of drawn.plan) (sections_of drawn.plan) (start_of drawn.plan) drawn.plan.head own_log ≡ Ok drawn.leaf
  read_back = sym ((exact_any (tree_of drawn.plan) (BelongsToWhole (survey_plan drawn.plan)) (whole_lawful (survey_plan drawn.plan)) (sections_of drawn.plan) (strata_sectioned (all_of (survey_plan drawn.plan))) (start_of drawn.plan) member drawn.plan.head is_head own_log).alone (Ok drawn.leaf) own_any)

  told_back : path_told (tree_of drawn.plan) (start_of drawn.plan) own_log ≡ drawn.path
  unfolding log_genuine own_genuine own_any
  told_back = any_told (tree_of drawn.plan) (BelongsToWhole (survey_plan drawn.plan)) (whole_lawful (survey_plan drawn.plan)) (sections_of drawn.plan) (strata_sectioned (all_of (survey_plan drawn.plan))) (start_of drawn.plan) member drawn.plan.head is_head own_log drawn.leaf own_any

  told_again : drawn_by_log drawn.plan own_log ≡ Ok drawn
  told_again =
      ap (λ (path : List Entry). told_by drawn.plan None path (any_reading (tree_of drawn.plan) (sections_of drawn.plan) (start_of drawn.plan) drawn.plan.head own_log)) told_back
      ∙ ap (told_by drawn.plan None drawn.path) read_back
      ∙ ap (λ (o : Option ℕ). ok_drawn (record { plan = drawn.plan; only = o; leaf = drawn.leaf; path = drawn.path })) (sym by.all)

  replayed_so : IsReplayed drawn
  replayed_so = record {
    start = member;
    same = told_again;
    sections = λ h within short. is_accepted drawn.plan is_head member.drawable h within own_log drawn.leaf short (log_genuine drawn by);
  }

drawn_once : (x y : Drawn) → ◌≡◌ {A = Result Drawn Stop} (Ok x) (Ok y) → x ≡ y
drawn_once x y same = cc

module _ (a : DrawArguments) (fs : Files) (before now : Outside) (words : List (List ℕ)) (asked : command_of words ≡ Some (commands.Draw a)) where
  abbrev draw_files : List DrawnFile
  draw_files = record { name = a.log; text = log_text } ∷ record { name = a.sample; text = sample_text } ∷ []

  pub exact_draw : IsExact (job_of (commands.Draw a)) fs → Done words before now → before.files ≡ Some fs → IsExactDraw a fs now.files
  exact_draw made done told =
      let d = drew words (job_of (commands.Draw a)) fs before now (ap (option_map job_of) asked) refl made done told in
      let same = chance_same d.plan a.chance fs d.drawn d.staged in
      let whole = by_whole d.plan d.drawn same.only_so d.by_plan in
      record {
        drawn = d.drawn;
        is_drawn = by_chance d.plan whole.member a.chance fs d.drawn d.staged;
        by_plan = whole.by_plan;
        written =
            d.written
            ∙ ap₂ (λ (log sample : List ℕ). Some (with_files (record { name = a.log; bytes = log } ∷ record { name = a.sample; bytes = sample } ∷ []) fs))
            (log_so d.drawn same.only_so) (sample_so d.drawn same.only_so);
        read = subst (IsReadPlan a.design a.frame fs) (sym same.by_plan) (read_plan a.design a.frame fs d.plan (read a.design a.frame fs d.plan d.planned));
      }

  -- what it has done besides, of whatever draw such a record tells
  module _ (made : IsExact (job_of (commands.Draw a)) fs) (done : Done words before now) (told : before.files ≡ Some fs) (exact : IsExactDraw a fs now.files) where
    abbrev work : Drew (job_of (commands.Draw a)) (source_of a.chance) draw_files report_text fs before now
    work = drew words (job_of (commands.Draw a)) fs before now (ap (option_map job_of) asked) refl made done told

    one_plan : work.plan ≡ exact.drawn.plan
    one_plan = read_once a.design a.frame fs work.plan exact.drawn.plan (read_plan a.design a.frame fs work.plan (read a.design a.frame fs work.plan work.planned)) exact.read

    own_member : BelongsToWhole (survey_plan exact.drawn.plan) (start_of exact.drawn.plan)
    own_member =
        let same = chance_same work.plan a.chance fs work.drawn work.staged in
        subst (λ (p : Survey). BelongsToWhole (survey_plan p) (start_of p)) one_plan (by_whole work.plan work.drawn same.only_so work.by_plan).member

    -- it is the one that was made
    one_draw : work.drawn ≡ exact.drawn
    one_draw =
        let again : drawn_stage exact.drawn.plan (source_of a.chance) fs ≡ Ok exact.drawn = chance_again exact.drawn exact.by_plan.all own_member exact.by_plan.full a.chance fs exact.is_drawn in
        drawn_once work.drawn exact.drawn (sym work.staged ∙ ap (λ (p : Survey). drawn_stage p (source_of a.chance) fs) one_plan ∙ again)

    pub is_accepted_plan : IsAccepted exact.drawn.plan
    is_accepted_plan = subst IsAccepted one_plan (accepted_plan a.design a.frame fs work.plan (read a.design a.frame fs work.plan work.planned))

    pub is_reported : IsReported exact.drawn exact.by_plan.balance before now
    is_reported = record {
      put = work.shown ∙ ap (λ (d : Drawn). with_bytes (report_text d) before.put) one_draw;
      tells = tells_balance exact.drawn own_member.drawable exact.by_plan;
    }

    -- what it wrote is accepted
    pub is_replayed : IsReplayed exact.drawn
    is_replayed = replayed_so exact.drawn exact.by_plan (head_so a.design a.frame fs exact.drawn.plan exact.read) own_member

-- ---- a demonstration that ended well

none_written : (told : Option Files) → option_map (with_files []) told ≡ told
none_written (Some fs) = refl
none_written None = refl

module _ (a : DemoArguments) (before now : Outside) (words : List (List ℕ)) (asked : command_of words ≡ Some (commands.Demo a)) where
  abbrev no_files : Files
  no_files = λ name. None

  abbrev demo_job : Job
  demo_job = job_of (commands.Demo a)

  demo_asked : job_for words ≡ Some demo_job
  demo_asked = ap (option_map job_of) asked

  module _ (made : IsExact demo_job no_files) (done : Done words before now) where
    abbrev drawn_so : IsDrawFrom made.plan (BySeed (demo_key a.seed)) no_files
    drawn_so = made.from_plan

    demo_work : IsWork words demo_job no_files before now
    demo_work =
        let same : done.job ≡ demo_job = some_same _ _ (sym done.asked ∙ demo_asked) in
        subst (λ (j : Job). IsWork words j no_files before now) same (done.done no_files (subst (λ (j : Job). Sees (inputs_of j) before.files no_files) (sym same) tt))

    demo_outputs : demo_work.outputs ≡ outputs_by [] demo_text drawn_so.drawn
    demo_outputs = outputs_are words demo_job no_files before now (BySeed (demo_key a.seed)) [] demo_text made.plan drawn_so.drawn demo_asked refl made.planned drawn_so.is_drawn demo_work

    -- the plan of what is drawn
    demo_plan : MadePlan (demo_design_text a.n) (demo_frame_text a.n a.seed) drawn_so.drawn.plan
    demo_plan =
        let same = chance_same made.plan (Seed (demo_key a.seed)) no_files drawn_so.drawn drawn_so.is_drawn in
        subst (MadePlan (demo_design_text a.n) (demo_frame_text a.n a.seed)) (sym same.by_plan) (made_plan (demo_design_text a.n) (demo_frame_text a.n a.seed) no_files made.plan made.planned)

    pub exact_demo : IsExactDemo a before now
    exact_demo =
        let drawn = drawn_so.drawn in
        let same = chance_same made.plan (Seed (demo_key a.seed)) no_files drawn drawn_so.is_drawn in
        let whole = by_whole made.plan drawn same.only_so drawn_so.by_plan in
        let member : BelongsToWhole (survey_plan drawn.plan) (start_of drawn.plan) = subst (λ (p : Survey). BelongsToWhole (survey_plan p) (start_of p)) (sym same.by_plan) whole.member in
        let is_head : IsHead drawn.plan.head = subst IsHead (sym demo_plan.head) (head_of-is (demo_design_text a.n) (demo_frame_text a.n a.seed)) in
        record {
          drawn = drawn;
          is_drawn = by_chance made.plan whole.member (Seed (demo_key a.seed)) no_files drawn drawn_so.is_drawn;
          by_plan = whole.by_plan;
          design_read = demo_plan.design_read;
          frame_read = demo_plan.frame_read;
          head = demo_plan.head;
          accepted = demo_plan.accepted;
          replayed = replayed_so drawn whole.by_plan is_head member;
          tells = tells_balance drawn member.drawable whole.by_plan;
          put = demo_work.put ∙ ap (λ (o : Outputs). with_bytes o.put before.put) demo_outputs;
          same = demo_work.files ∙ ap (λ (o : Outputs). option_map (with_files o.files) before.files) demo_outputs ∙ none_written before.files;
        }

-- ---- a list that ended well

module _ (text : Survey → List ℕ) (a : DesignArguments) (fs : Files) (before now : Outside) (words : List (List ℕ)) (asked : job_for words ≡ Some (held_job a.design a.frame (Lists text))) where
  abbrev list_job : Job
  list_job = held_job a.design a.frame (Lists text)

  pub exact_list : IsExact list_job fs → Done words before now → before.files ≡ Some fs → IsExactList text a fs before now
  exact_list made done told =
      let plan = made.plan in
      let puts = listed text (Held a.design) (FrameHeld a.frame) fs before now words asked plan made.planned done told in
      record {
        plan = plan;
        read = read_plan a.design a.frame fs plan (read a.design a.frame fs plan made.planned);
        accepted = accepted_plan a.design a.frame fs plan (read a.design a.frame fs plan made.planned);
        probabilities = made.from_plan.probabilities;
        put = puts.0;
        same = puts.1;
      }

-- ---- a quick draw that ended well

module _ (a : QuickArguments) (fs : Files) (before now : Outside) (words : List (List ℕ)) (asked : command_of words ≡ Some (commands.Quick a)) where
  abbrev quick_read : ReadDesign
  quick_read = record { design = quick_design a.n; bytes = [] }

  quick_planned : (plan : Survey) → design_stage (Given (quick_design a.n)) fs >>= (λ d. frame_stage d (FrameHeld a.frame) fs) ≡ Ok plan → Planned quick_read a.frame fs plan
  unfolding design_stage
  quick_planned plan h = planned quick_read a.frame fs plan h

  pub exact_quick : IsExact (job_of (commands.Quick a)) fs → Done words before now → before.files ≡ Some fs → IsExactQuick a fs before now
  exact_quick made done told =
      let d = drew words (job_of (commands.Quick a)) fs before now (ap (option_map job_of) asked) refl made done told in
      let from = frame_plan quick_read a.frame fs d.plan (quick_planned d.plan d.planned) in
      let same = chance_same d.plan (Tape a.tape) fs d.drawn d.staged in
      let whole = by_whole d.plan d.drawn same.only_so d.by_plan in
      record {
        drawn = d.drawn;
        is_drawn = by_chance d.plan whole.member (Tape a.tape) fs d.drawn d.staged;
        by_plan = whole.by_plan;
        written = d.written;
        put = d.shown;
        design = ap (λ (p : Survey). p.design) same.by_plan ∙ from.0;
        read = subst (IsReadFrame a.frame [] fs) (sym same.by_plan) from.1;
        accepted = subst IsAccepted (sym same.by_plan) (frame_accepted quick_read a.frame fs d.plan (quick_planned d.plan d.planned));
      }

-- ---- a replay that ended well

module _ (a : ReplayArguments) (fs : Files) (before now : Outside) (words : List (List ℕ)) (asked : command_of words ≡ Some (commands.Replay a)) where
  abbrev replay_files : List DrawnFile
  replay_files = record { name = a.sample; text = sample_text } ∷ []

  abbrev replay_job : drawing.Source → Job
  replay_job source = held_job a.design a.frame (Draws source replay_files report_text)

  module _ (source : drawing.Source) (from_words : log_source a.log a.stratum ≡ source) where
    replay_asked : job_for words ≡ Some (replay_job source)
    replay_asked = ap (option_map job_of) asked ∙ ap (λ (s : drawing.Source). Some (replay_job s)) from_words

    replay_drew : IsExact (job_of (commands.Replay a)) fs → Done words before now → before.files ≡ Some fs → Drew (replay_job source) source replay_files report_text fs before now
    replay_drew made = drew words (replay_job source) fs before now replay_asked refl (subst (λ (s : drawing.Source). IsExact (replay_job s) fs) from_words made)

  pub exact_replay : a.stratum ≡ None → IsExact (job_of (commands.Replay a)) fs → Done words before now → before.files ≡ Some fs → IsExactReplay a fs before now
  exact_replay none made done told_files =
      let d = replay_drew (ByLog a.log) (ap (log_source a.log) none) made done told_files in
      let plan = d.plan in
      let drawn = d.drawn in
      let from = read_plan a.design a.frame fs plan (read a.design a.frame fs plan d.planned) in
      let logged = by_log plan a.log fs drawn d.staged in
      let told = told_so plan None (path_told (tree_of plan) (start_of plan) logged.log) (any_reading (tree_of plan) (sections_of plan) (start_of plan) plan.head logged.log) drawn logged.tells in
      let whole = by_whole plan drawn told.same.only_so d.by_plan in
      let any = any_log plan whole.member (head_so a.design a.frame fs plan from) logged.log drawn logged.tells in
      record {
        drawn = drawn;
        log = logged.log;
        log_held = logged.held;
        genuine = record {
          path = any.genuine.path;
          full = subst (λ (p : Survey). IsFullPath (tree_of p) (start_of p) any.genuine.path drawn.leaf) (sym any.same.by_plan) any.genuine.full;
          text = subst (λ (p : Survey). IsAnyText (tree_of p) (sections_of p) (start_of p) p.head any.genuine.path logged.log) (sym any.same.by_plan) any.genuine.text;
        };
        path_is = any.path_is;
        by_plan = whole.by_plan;
        written = d.written ∙ ap (λ (sample : List ℕ). Some (with_files (record { name = a.sample; bytes = sample } ∷ []) fs)) (sample_so drawn told.same.only_so);
        reported = record { put = d.shown; tells = tells_balance drawn (drawable_of plan drawn any.same.by_plan whole.member) whole.by_plan };
        read = subst (IsReadPlan a.design a.frame fs) (sym any.same.by_plan) from;
        accepted = subst IsAccepted (sym any.same.by_plan) (accepted_plan a.design a.frame fs plan (read a.design a.frame fs plan d.planned));
      }

  -- ---- of one stratum

  module _ (h : ℕ) where
    -- what is told of the section, by the plan
    record Sectioned (drawn : Drawn) (plan : Survey) (log : List ℕ) : Type 0 where
      section : HasSection (covered_tree (alone plan h)) (covered_start (alone plan h)) plan.head (h + 1) log drawn.leaf
      path_is : drawn.path ≡ section.genuine.path
      rows : (leaf : Progress AnyState) → IsSectionedGenuine (tree_of plan) (sections_of plan) (start_of plan) plan.head log leaf → length log < 2 ^ 64
          → drawn_rows drawn ≡ filter (is_of_section (survey_plan plan) h) (selected_units (tree_of plan) leaf)

    pub exact_section_replay : a.stratum ≡ Some (h + 1) → IsExact (job_of (commands.Replay a)) fs → Done words before now → before.files ≡ Some fs → IsExactSection a h fs before now
    exact_section_replay number made done told_files =
        let d = replay_drew (BySection a.log (h + 1)) (ap (log_source a.log) number) made done told_files in
        let plan = d.plan in
        let drawn = d.drawn in
        let from = read_plan a.design a.frame fs plan (read a.design a.frame fs plan d.planned) in
        let logged = by_section plan a.log (h + 1) h fs drawn refl d.staged in
        let own = alone plan h in
        let told = told_so plan (Some h) (section_told (covered_tree own) (covered_start own) (h + 1) logged.log) (section_reading (covered_tree own) (covered_start own) plan.head (h + 1) logged.log) drawn logged.tells in
        let by : IsDrawnAlone plan h drawn = subst (λ (o : Option ℕ). IsDrawnOf o plan drawn) told.same.only_so d.by_plan in
        let lone = section_log plan (head_so a.design a.frame fs plan from) by.starts.member.drawable h by.there logged.log drawn logged.tells in
        let seen : covered drawn ≡ own = ap (λ (p : Survey). record { plan = survey_plan p; only = drawn.only }) lone.same.by_plan ∙ ap (λ (o : Option ℕ). record { plan = survey_plan plan; only = o }) lone.same.only_so in
        let of_plan : Sectioned drawn plan logged.log = record {
          section = lone.section;
          path_is = lone.path_is;
          rows = λ leaf genuine short. (ap (λ (c : Coverage). selected_units (covered_tree c) drawn.leaf) seen ∙ lone.rows leaf short genuine);
        } in
        let of_drawn : Sectioned drawn drawn.plan logged.log = subst (λ (p : Survey). Sectioned drawn p logged.log) (sym lone.same.by_plan) of_plan in
        record {
          drawn = drawn;
          log = logged.log;
          log_held = logged.held;
          section = of_drawn.section;
          path_is = of_drawn.path_is;
          by_plan = subst (λ (p : Survey). IsDrawnAlone p h drawn) (sym lone.same.by_plan) by;
          rows = of_drawn.rows;
          written = d.written;
          put = d.shown;
          read = subst (IsReadPlan a.design a.frame fs) (sym lone.same.by_plan) from;
          accepted = subst IsAccepted (sym lone.same.by_plan) (accepted_plan a.design a.frame fs plan (read a.design a.frame fs plan d.planned));
        }

-- ---- a migration that ended well

module _ (a : MigrateArguments) (fs : Files) (before now : Outside) (words : List (List ℕ)) (asked : command_of words ≡ Some (commands.Migrate a)) where
  pub exact_migration : IsExact (job_of (commands.Migrate a)) fs → Done words before now → before.files ≡ Some fs → IsExactMigration a fs before now
  exact_migration made done told_files =
      let d = drew words (job_of (commands.Migrate a)) fs before now (ap (option_map job_of) asked) refl made done told_files in
      let plan = d.plan in
      let drawn = d.drawn in
      let from = read_plan a.design a.frame fs plan (read a.design a.frame fs plan d.planned) in
      let logged = by_old_log plan a.log fs drawn d.staged in
      let told = told_so plan None (path_told (tree_of plan) (start_of plan) logged.log) (log_reading (tree_of plan) (start_of plan) plan.head logged.log) drawn logged.tells in
      let whole = by_whole plan drawn told.same.only_so d.by_plan in
      let old = old_log plan whole.member (head_so a.design a.frame fs plan from) logged.log drawn logged.tells in
      record {
        drawn = drawn;
        log = logged.log;
        log_held = logged.held;
        old = record {
          path = old.genuine.path;
          full = subst (λ (p : Survey). IsFullPath (tree_of p) (start_of p) old.genuine.path drawn.leaf) (sym old.same.by_plan) old.genuine.full;
          text = old.genuine.text ∙ ap (λ (p : Survey). logs.log_text p.head old.genuine.path) (sym old.same.by_plan);
        };
        path_is = old.path_is;
        by_plan = whole.by_plan;
        written = d.written ∙ ap (λ (log : List ℕ). Some (with_files (record { name = a.to; bytes = log } ∷ []) fs)) (log_so drawn told.same.only_so);
        genuine = log_genuine drawn whole.by_plan;
        same_path = log_path drawn whole.by_plan ∙ old.path_is;
        put = d.shown;
        tells = tells_balance drawn (drawable_of plan drawn old.same.by_plan whole.member) whole.by_plan;
        read = subst (IsReadPlan a.design a.frame fs) (sym old.same.by_plan) from;
        accepted = subst IsAccepted (sym old.same.by_plan) (accepted_plan a.design a.frame fs plan (read a.design a.frame fs plan d.planned));
      }

-- ---- a log that was refused

-- so the log that was read differs
refused_log : (design frame log : List ℕ) (fs : Files) (line : ℕ) (job : Job) (Differs : Survey → List ℕ → Type 0) → job.design ≡ Held design → job.frame ≡ FrameHeld frame
    → ((plan : Survey) → IsRefusedFrom plan job.work fs line → RefusesLog (Differs plan) log fs) → IsRefused job fs line → IsRefusedLog design frame log fs Differs
refused_log design frame log fs line job Differs held frame_held differs refused =
    let staged : design_stage (Held design) fs >>= (λ d. frame_stage d (FrameHeld frame) fs) ≡ Ok refused.plan = rw (← held, ← frame_held) refused.planned in
    record {
      plan = refused.plan;
      read = read_plan design frame fs refused.plan (read design frame fs refused.plan staged);
      accepted = accepted_plan design frame fs refused.plan (read design frame fs refused.plan staged);
      refused = differs refused.plan refused.by_plan;
    }

module _ (answer : Status) (words : List (List ℕ)) (before now : Outside) (fs : Files) (line : ℕ) (exact : ExactSays (class_of answer) answer words before.files) where
  refused_by : (command : Command) → Ends answer words before (status.LogDiffers line) command fs → IsExactRefusal (job_of command) (status.LogDiffers line) fs
  refused_by command ends =
      let by = subst (λ s. ExactSays (class_of s) s words before.files) ends.answered exact in
      by (job_of command) (ap (option_map job_of) ends.asked) fs (sees_told (inputs_of (job_of command)) before.files fs ends.told)

  replay_line : (a : ReplayArguments) → Ends answer words before (status.LogDiffers line) (commands.Replay a) fs → a.stratum ≡ None → IsRefusedLog a.design a.frame a.log fs (λ plan log. WholeDiffers plan log line)
  replay_line a ends none =
      let job : Job = replay_job a fs before now words ends.asked (ByLog a.log) in
      let refuses : IsExactRefusal (job_of (commands.Replay a)) (status.LogDiffers line) fs = refused_by (commands.Replay a) ends in
      let refused : IsRefused job fs line = subst (λ (o : Option ℕ). IsExactRefusal (replay_job a fs before now words ends.asked (log_source a.log o)) (status.LogDiffers line) fs) none refuses in
      refused_log a.design a.frame a.log fs line job (λ plan log. WholeDiffers plan log line) refl refl (λ plan r. r) refused

  section_line : (a : ReplayArguments) (h : ℕ) → Ends answer words before (status.LogDiffers line) (commands.Replay a) fs → a.stratum ≡ Some (h + 1) → IsRefusedLog a.design a.frame a.log fs (λ plan log. StratumDiffers h plan log line)
  section_line a h ends number =
      let job : Job = replay_job a fs before now words ends.asked (BySection a.log (h + 1)) in
      let refuses : IsExactRefusal (job_of (commands.Replay a)) (status.LogDiffers line) fs = refused_by (commands.Replay a) ends in
      let refused : IsRefused job fs line = subst (λ (o : Option ℕ). IsExactRefusal (replay_job a fs before now words ends.asked (log_source a.log o)) (status.LogDiffers line) fs) number refuses in
      let back : h + 1 - 1 ≡ h = omega arith in
      refused_log a.design a.frame a.log fs line job (λ plan log. StratumDiffers h plan log line) refl refl
      (λ plan r. subst (λ (k : ℕ). RefusesLog (λ bytes. StratumDiffers k plan bytes line) a.log fs) back r) refused

  migrate_line : (a : MigrateArguments) → Ends answer words before (status.LogDiffers line) (commands.Migrate a) fs → IsRefusedLog a.design a.frame a.log fs (λ plan log. OldDiffers plan log line)
  migrate_line a ends =
      refused_log a.design a.frame a.log fs line (job_of (commands.Migrate a)) (λ plan log. OldDiffers plan log line) refl refl (λ plan r. r)
      (refused_by (commands.Migrate a) ends)

pub headline : (answer : Status) (words : List (List ℕ)) (before now : Outside) → Says (class_of answer) answer words before now → ExactSays (class_of answer) answer words before.files → Headline answer words before now
headline answer words before now says exact = record {
  draw = λ a fs ends. exact_draw a fs before now words ends.asked (made (commands.Draw a) fs ends) (done ends.answered) ends.told;
  accepted = λ a fs ends exact. is_accepted_plan a fs before now words ends.asked (made (commands.Draw a) fs ends) (done ends.answered) ends.told exact;
  reported = λ a fs ends exact. is_reported a fs before now words ends.asked (made (commands.Draw a) fs ends) (done ends.answered) ends.told exact;
  replayed = λ a fs ends exact. is_replayed a fs before now words ends.asked (made (commands.Draw a) fs ends) (done ends.answered) ends.told exact;
  quick = λ a fs ends. exact_quick a fs before now words ends.asked (made (commands.Quick a) fs ends) (done ends.answered) ends.told;
  replay = λ a fs ends none. exact_replay a fs before now words ends.asked none (made (commands.Replay a) fs ends) (done ends.answered) ends.told;
  section = λ a h fs ends number. exact_section_replay a fs before now words ends.asked h number (made (commands.Replay a) fs ends) (done ends.answered) ends.told;
  migrate = λ a fs ends. exact_migration a fs before now words ends.asked (made (commands.Migrate a) fs ends) (done ends.answered) ends.told;
  demo = λ a is asked. exact_demo a before now words asked (demo_made a is asked) (done is);
  probs = λ a fs ends. exact_list probabilities_text a fs before now words (ap (option_map job_of) ends.asked) (made (commands.Probs a) fs ends) (done ends.answered) ends.told;
  check = λ a fs ends. exact_list accepted_text a fs before now words (ap (option_map job_of) ends.asked) (made (commands.Check a) fs ends) (done ends.answered) ends.told;
  joint = λ a fs ends. exact_joint a fs before now words ends.asked (made (commands.Joint a) fs ends) (done ends.answered) ends.told;
  replay_differs = λ a fs line ends none. replay_line answer words before now fs line exact a ends none;
  section_differs = λ a h fs line ends number. section_line answer words before now fs line exact a h ends number;
  migrate_differs = λ a fs line ends. migrate_line answer words before now fs line exact a ends;
}
  where
    done : answer ≡ status.Done → Done words before now
    done is = subst (λ s. Says (class_of s) s words before now) is says

    demo_made : (a : DemoArguments) → answer ≡ status.Done → command_of words ≡ Some (commands.Demo a) → IsExact (job_of (commands.Demo a)) (λ name. None)
    demo_made a is asked =
        let by = subst (λ s. ExactSays (class_of s) s words before.files) is exact in
        by (job_of (commands.Demo a)) (ap (option_map job_of) asked) (λ name. None) tt

    made : (command : Command) (fs : Files) → Ends answer words before status.Done command fs → IsExact (job_of command) fs
    made command fs ends =
        let by = subst (λ s. ExactSays (class_of s) s words before.files) ends.answered exact in
        by (job_of command) (ap (option_map job_of) ends.asked) fs (sees_told (inputs_of (job_of command)) before.files fs ends.told)
