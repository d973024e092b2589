-- Where a log is refused, it differs at that line.
use Rattle.std.proofs.Common.{◌≡◌, ℕ, ◌+◌, ◌-◌, length, inl, inr, List, Option, Some, None, Result, Ok, Err, ap, subst}
use Rattle.std.specs.Prelude.{IfErr, nat_le}
use Rattle.std.proofs.lemmas.Bool.{cases_Bool}
use Rattle.smp_io.specs.Store.{Files}
use Rattle.smp_split.specs.{Paths.{Entry}, Stages.{Progress}}
use Rattle.smp_methods.specs.declared.any.AnyState.{AnyState}
use Rattle.smp_log.specs.{Answers.{IsAnswer}, Genuine.{IsGenuine}, Heads.{IsHead}, LoneSections.{IsSectionAnswer, section_told}}
use Rattle.smp_log.specs.{SectionLogs.{IsAnyGenuine}, Told.{path_told}}
use Rattle.smp_log.proofs.{Answered.{exact_reading}, LoneExact.{exact_section}, TwoVersions.{exact_any}}
use Rattle.smp_twostage.specs.Selections.{BelongsToCovered, BelongsToWhole, Coverage, all_of, covered_start, covered_tree, section_count}
use Rattle.smp_twostage.specs.Laws.Wholes.{covered_lawful, strata_sectioned, whole_lawful}
use Rattle.smp_status.specs.{declared.status.Status.{Status}, Codes.{design_status, frame_status}}
use Rattle.smp_status.specs.declared.status.Status.TheVariants as status
use Rattle.smp_plan.specs.{Plans.{Survey, survey_plan}, Reads.{Follows, result_view}, Stops.{Stop, Refused, content, or_fault}}
use Rattle.smp_plan.specs.Inputs.{DesignSource, Given, Held, HeldForJoint, Made, FrameSource, FrameHeld, FrameForJoint, FrameMade, ReadDesign, design_stage, frame_content, frame_stage, has_joints, is_large, plan_stage, unless_large, unless_misfit, unless_no_joints}
use Rattle.smp_design.specs.{Designs.{design_of}, declared.fault.DesignFault.{DesignFault}}
use Rattle.smp_design.specs.declared.fault.DesignFault.TheVariants as design_fault
use Rattle.smp_frame.specs.{Frames.{frame_of}, declared.fault.FrameFault.{FrameFault}}
use Rattle.smp_frame.specs.declared.frame.Unit as unit
use Rattle.smp_frame.specs.declared.fault.FrameFault.TheVariants as frame_fault
use Rattle.smp_strata.specs.{Misfits.{misfit_of}, declared.misfit.Misfit.{Misfit}}
use Rattle.smp_frac.specs.Faults.{◌>>=◌}
use Rattle.smp_app.specs.{declared.selection.Taken.{Taken}, Kept.Stages.{DiffersTaken, drawn_by_taken, only_of}, Commands.{Source}}
use Rattle.smp_app.specs.declared.selection.Taken.TheVariants as takes
use Rattle.smp_app.specs.{Drawn.{Drawn, tree_of, start_of, sections_of}, Draws.{OldDiffers, RefusesLog, StratumDiffers, WholeDiffers}}
use Rattle.smp_app.specs.Kept.Exact.{IfLine, IsRefusedAt, IsRefusedBy}
use Rattle.smp_app.specs.Verdict.{alone, drawn_by_log, drawn_by_old_log, drawn_by_section, stratum_at, told_by}

-- ---- a refusal that names a line is the stage's

line_of : {B : Type 0} (error : Status) (stage : Result B Stop) (P : ℕ → Type 0) → Follows (Err error) stage → ((line : ℕ) → stage ≡ Err (Refused (status.LogDiffers line)) → P line) → IfLine error P
line_of (status.LogDiffers line) stage P follows holds = holds line follows
line_of other stage P follows holds = tt

pub if_line : {A B : Type 0} (view : A → B) (answer : Result A Status) (stage : Result B Stop) (P : ℕ → Type 0) → Follows (result_view view answer) stage
    → ((line : ℕ) → stage ≡ Err (Refused (status.LogDiffers line)) → P line) → IfErr answer (λ refusal. IfLine refusal P)
if_line view (Ok x) stage P follows holds = tt
if_line view (Err error) stage P follows holds = line_of error stage P follows holds

-- the same, of any line of which something else holds
pub line_more : (error : Status) (P Q : ℕ → Type 0) → ((line : ℕ) → P line → Q line) → IfLine error P → IfLine error Q
line_more (status.LogDiffers line) P Q more h = more line h
line_more other P Q more h = tt

pub if_more : {A : Type 0} (answer : Result A Status) (P Q : ℕ → Type 0) → ((line : ℕ) → P line → Q line) → IfErr answer (λ refusal. IfLine refusal P) → IfErr answer (λ refusal. IfLine refusal Q)
if_more (Ok x) P Q more h = tt
if_more (Err error) P Q more h = line_more error P Q more h

-- nothing is said of a line
any_status : (error : Status) → IfLine error (λ line. Unit {0})
any_status (status.LogDiffers line) = tt
any_status other = tt

pub any_line : {A : Type 0} (answer : Result A Status) → IfErr answer (λ refusal. IfLine refusal (λ line. Unit {0}))
any_line (Ok x) = tt
any_line (Err error) = any_status error

-- ---- what a log tells, where it is refused

told_line : (plan : Survey) (only : Option ℕ) (path : List Entry) (reading : Result (Progress AnyState) ℕ) (line : ℕ) → told_by plan only path reading ≡ Err (Refused (status.LogDiffers line)) → reading ≡ Err line
told_line plan only path (Ok state) line h = absurd (cc)
told_line plan only path (Err at) line h =
    let same : ◌≡◌ {A = Result Drawn Stop} (Err (Refused (status.LogDiffers at))) (Err (Refused (status.LogDiffers line))) = h in
    let one : at ≡ line = cc in
    ap Err one

module _ (plan : Survey) (is_head : IsHead plan.head) (log : List ℕ) (line : ℕ) where
  -- the strata for which the log is taken
  abbrev of_plan : Taken → Coverage
  of_plan taken = record { plan = survey_plan plan; only = only_of taken }

  module _ (member : BelongsToWhole (survey_plan plan) (start_of plan)) where
    whole_differs : drawn_by_log plan log ≡ Err (Refused (status.LogDiffers line)) → WholeDiffers plan log line
    whole_differs h =
        let exact = exact_any (tree_of plan) (BelongsToWhole (survey_plan plan)) (whole_lawful (survey_plan plan)) (sections_of plan) (strata_sectioned (all_of (survey_plan plan))) (start_of plan) member plan.head is_head log in
        subst (IsAnswer (IsAnyGenuine (tree_of plan) (sections_of plan) (start_of plan) plan.head) log) (told_line plan None (path_told (tree_of plan) (start_of plan) log) _ line h) exact.right

    old_differs : drawn_by_old_log plan log ≡ Err (Refused (status.LogDiffers line)) → OldDiffers plan log line
    old_differs h =
        let exact = exact_reading (tree_of plan) (BelongsToWhole (survey_plan plan)) (whole_lawful (survey_plan plan)) (start_of plan) member plan.head is_head log in
        subst (IsAnswer (IsGenuine (tree_of plan) (start_of plan) plan.head) log) (told_line plan None (path_told (tree_of plan) (start_of plan) log) _ line h) exact.right

  stratum_differs : (h : ℕ) → BelongsToCovered (alone plan h) (covered_start (alone plan h)) → drawn_by_section plan h log ≡ Err (Refused (status.LogDiffers line)) → StratumDiffers h plan log line
  stratum_differs h member e =
      let tree = covered_tree (alone plan h) in
      let start = covered_start (alone plan h) in
      let exact = exact_section tree (BelongsToCovered (alone plan h)) (covered_lawful (alone plan h)) start member plan.head is_head (h + 1) log in
      subst (IsSectionAnswer tree start plan.head (h + 1) log) (told_line plan (Some h) (section_told tree start (h + 1) log) _ line e) exact.right

  pub taken_differs : (taken : Taken) → BelongsToCovered (of_plan taken) (covered_start (of_plan taken)) → drawn_by_taken taken plan log ≡ Err (Refused (status.LogDiffers line)) → DiffersTaken taken plan log line
  taken_differs takes.Either member e = whole_differs member e
  taken_differs takes.Old member e = old_differs member e
  taken_differs (takes.Stratum h) member e = stratum_differs h member e

-- ---- the log in its file

held_in : (held : Option (List ℕ)) (name bytes : List ℕ) → content name held ≡ Ok bytes → held ≡ Some bytes
held_in (Some b) name bytes h = let same : ◌≡◌ {A = Result (List ℕ) Stop} (Ok b) (Ok bytes) = h in cc
held_in None name bytes h = absurd (cc)

log_refused : (Differs : List ℕ → Type 0) (name bytes : List ℕ) (fs : Files) → content name (fs name) ≡ Ok bytes → Differs bytes → RefusesLog Differs name fs
log_refused Differs name bytes fs read differs = record { bytes = bytes; held = held_in (fs name) name bytes read; differs = differs }

-- a file that isn't there is no line
not_refused : (name : List ℕ) (held : Option (List ℕ)) (refusal : Status) → ◌≡◌ {A = Result (List ℕ) Stop} (content name held) (Err (Refused refusal)) → ⊥
not_refused name (Some bytes) refusal h = cc
not_refused name None refusal h = cc

read_line : (name : List ℕ) (held : Option (List ℕ)) (error : Status) (P : ℕ → Type 0) → Follows (Err error) (content name held) → IfLine error P
read_line name held error P follows = line_of error (content name held) P follows (λ line e. absurd (not_refused name held (status.LogDiffers line) e))

-- where the log couldn't be read, no line is named
pub unread : {A : Type 0} (plan : Survey) (source : Source) (fs : Files) (name : List ℕ) (error : Status) (answer : Result A Status) → answer ≡ Err error → Follows (Err error) (content name (fs name)) → IfErr answer (IsRefusedBy plan source fs)
unread plan source fs name error answer ends follows = rw ends (read_line name (fs name) error (IsRefusedAt plan source fs) follows)

-- what differs in the bytes that were read differs in the log
in_log : {A : Type 0} (Differs : List ℕ → ℕ → Type 0) (name bytes log : List ℕ) (fs : Files) (answer : Result A Status) → content name (fs name) ≡ Ok bytes → log ≡ bytes → IfErr answer (λ refusal. IfLine refusal (Differs log))
    → IfErr answer (λ refusal. IfLine refusal (λ line. RefusesLog (λ b. Differs b line) name fs))
in_log Differs name bytes log fs answer read same =
    if_more answer (Differs log) (λ line. RefusesLog (λ b. Differs b line) name fs)
    (λ line differs. log_refused (λ b. Differs b line) name bytes fs read (subst (λ (b : List ℕ). Differs b line) same differs))

-- what differs in the file that was read
pub in_file : {A : Type 0} (Differs : List ℕ → ℕ → Type 0) {name there bytes log : List ℕ} (fs : Files) (answer : Result A Status) → there ≡ name → content there (fs there) ≡ Ok bytes → log ≡ bytes → IfErr answer (λ refusal. IfLine refusal (Differs log))
    → IfErr answer (λ refusal. IfLine refusal (λ line. RefusesLog (λ b. Differs b line) name fs))
in_file Differs {name = name} {bytes = bytes} {log = log} fs answer is read same =
    in_log Differs name bytes log fs answer (rw is at read) same

-- ---- a stratum by its number

-- the stratum of a number is the one before it, counted from 0
pub stratum_is : (plan : Survey) (number h : ℕ) → stratum_at plan number ≡ Ok h → h ≡ number - 1
stratum_is plan number h e =
    let strata : ℕ = section_count (all_of (survey_plan plan)) in
    elim (cases_Bool (nat_le number strata)) [
      | inl there ↦ (let same : ◌≡◌ {A = Result ℕ Stop} (Ok (number - 1)) (Ok h) = rw there at e in cc)
      | inr beyond ↦ absurd (let same : ◌≡◌ {A = Result ℕ Stop} (Err (Refused (status.NoStratum number strata))) (Ok h) = rw beyond at e in cc)
    ]

-- ---- no design, no frame and no misfit is a line

bind_out : {A B : Type 0} (first : Result A Stop) (f : A → Result B Stop) (refusal : Status) → (first ≡ Err (Refused refusal) → ⊥) → ((x : A) → f x ≡ Err (Refused refusal) → ⊥) → first >>= f ≡ Err (Refused refusal) → ⊥
bind_out (Ok x) f refusal not_first not_then h = not_then x h
bind_out {A} {B} (Err stop) f refusal not_first not_then h =
    let ends : ◌≡◌ {A = Result B Stop} (Err stop) (Err (Refused refusal)) = h in
    let same : stop ≡ Refused refusal = cc in
    not_first (ap Err same)

fault_out : {A Fault : Type 0} (status_of : Fault → Status) (refusal : Status) → ((fault : Fault) → status_of fault ≡ refusal → ⊥) → (read : Result A Fault) → or_fault status_of read ≡ Err (Refused refusal) → ⊥
fault_out status_of refusal never (Ok x) h = cc
fault_out {A} status_of refusal never (Err fault) h =
    let ends : ◌≡◌ {A = Result A Stop} (Err (Refused (status_of fault))) (Err (Refused refusal)) = h in
    let same : status_of fault ≡ refusal = cc in
    never fault same

module _ (line : ℕ) where
  design_out : (fault : DesignFault) → design_status fault ≡ status.LogDiffers line → ⊥
  design_out design_fault.NoMemory h = cc
  design_out other h = cc

  frame_out : (fault : FrameFault) → frame_status fault ≡ status.LogDiffers line → ⊥
  frame_out frame_fault.NoMemory h = cc
  frame_out other h = cc

  misfit_out : (plan : Survey) (found : Option Misfit) → unless_misfit plan found ≡ Err (Refused (status.LogDiffers line)) → ⊥
  misfit_out plan None h = cc
  misfit_out plan (Some misfit) h = cc

  joints_out : (read : ReadDesign) → unless_no_joints read ≡ Err (Refused (status.LogDiffers line)) → ⊥
  joints_out read h =
      elim (cases_Bool (has_joints read.design.procedure.method read.design.procedure.order read.design.second)) [
        | inl e ↦ (let ends : ◌≡◌ {A = Result ReadDesign Stop} (Ok read) (Err (Refused (status.LogDiffers line))) = rw e at h in cc)
        | inr e ↦ (let ends : ◌≡◌ {A = Result ReadDesign Stop} (Err (Refused status.NoJoint)) (Err (Refused (status.LogDiffers line))) = rw e at h in cc)
      ]

  large_out : (frame : FrameSource) (units : List unit.Unit) → unless_large frame units ≡ Err (Refused (status.LogDiffers line)) → ⊥
  large_out frame units h =
      elim (cases_Bool (is_large frame (length units))) [
        | inl e ↦ (let ends : ◌≡◌ {A = Result (List unit.Unit) Stop} (Err (Refused (status.JointLarge (length units)))) (Err (Refused (status.LogDiffers line))) = rw e at h in cc)
        | inr e ↦ (let ends : ◌≡◌ {A = Result (List unit.Unit) Stop} (Ok units) (Err (Refused (status.LogDiffers line))) = rw e at h in cc)
      ]

  design_stage_out : (design : DesignSource) (fs : Files) → design_stage design fs ≡ Err (Refused (status.LogDiffers line)) → ⊥
  unfolding design_stage
  design_stage_out (Given design) fs h = cc
  design_stage_out (Made bytes) fs h =
      bind_out (or_fault design_status (design_of bytes)) _ (status.LogDiffers line) (fault_out design_status (status.LogDiffers line) design_out (design_of bytes)) (λ design e. cc) h
  design_stage_out (Held name) fs h =
      bind_out (content name (fs name)) _ (status.LogDiffers line) (not_refused name (fs name) (status.LogDiffers line))
      (λ bytes e. bind_out (or_fault design_status (design_of bytes)) _ (status.LogDiffers line) (fault_out design_status (status.LogDiffers line) design_out (design_of bytes)) (λ design f. cc) e) h
  design_stage_out (HeldForJoint name) fs h =
      bind_out (content name (fs name)) _ (status.LogDiffers line) (not_refused name (fs name) (status.LogDiffers line))
      (λ bytes e. bind_out (or_fault design_status (design_of bytes)) _ (status.LogDiffers line) (fault_out design_status (status.LogDiffers line) design_out (design_of bytes))
      (λ design f. joints_out (record { design = design; bytes = bytes }) f) e) h

  content_out : (frame : FrameSource) (fs : Files) → frame_content frame fs ≡ Err (Refused (status.LogDiffers line)) → ⊥
  content_out (FrameHeld name) fs h = not_refused name (fs name) (status.LogDiffers line) h
  content_out (FrameForJoint name) fs h = not_refused name (fs name) (status.LogDiffers line) h
  content_out (FrameMade bytes) fs h = cc

  frame_stage_out : (design : ReadDesign) (frame : FrameSource) (fs : Files) → frame_stage design frame fs ≡ Err (Refused (status.LogDiffers line)) → ⊥
  unfolding frame_stage
  frame_stage_out design frame fs h =
      bind_out (frame_content frame fs) _ (status.LogDiffers line) (content_out frame fs)
      (λ bytes e. bind_out (or_fault frame_status (frame_of design.design.columns bytes)) _ (status.LogDiffers line) (fault_out frame_status (status.LogDiffers line) frame_out (frame_of design.design.columns bytes))
      (λ units f. bind_out (unless_large frame units) _ (status.LogDiffers line) (large_out frame units) (λ few g. misfit_out _ (misfit_of design.design few) g) f) e) h

  plan_out : (design : DesignSource) (frame : FrameSource) (fs : Files) → plan_stage design frame fs ≡ Err (Refused (status.LogDiffers line)) → ⊥
  plan_out design frame fs h = bind_out (design_stage design fs) (λ read. frame_stage read frame fs) (status.LogDiffers line) (design_stage_out design fs) (λ read e. frame_stage_out read frame fs e) h

pub plan_line : (design : DesignSource) (frame : FrameSource) (fs : Files) (error : Status) (P : ℕ → Type 0) → Follows (Err error) (plan_stage design frame fs) → IfLine error P
plan_line design frame fs error P follows = line_of error (plan_stage design frame fs) P follows (λ line e. absurd (plan_out line design frame fs e))
