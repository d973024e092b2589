-- What a call of `joint` that ended well has put.
use Rattle.std.proofs.Common.{◌≡◌, ℕ, ◌≤◌, true, List, length, Option, Some, None, Result, Ok, Err, refl, sym, ap, subst, inl, inr}
use Rattle.std.specs.Prelude.{nat_lt, option_map}
use Rattle.std.proofs.lemmas.Bool.{cases_Bool, ltb-false}
use Rattle.smp_io.specs.{Sink.{with_bytes}, Store.{Files}}
use Rattle.smp_frame.specs.declared.frame.Unit as unit
use Rattle.smp_frame.specs.Frames.{frame_of}
use Rattle.smp_twostage.specs.Plans.{CanBeDrawn}
use Rattle.smp_strata.specs.Misfits.{misfit_of}
use Rattle.smp_design.specs.{Designs.{design_of}, declared.design.Design.{Design}, declared.design.Second.{Second}}
use Rattle.smp_design.specs.{declared.method.Method.{Method}, declared.method.Method.TheVariants.{Systematic}}
use Rattle.smp_prob.specs.{declared.orders.Order.{Order}, declared.orders.Order.TheVariants.{Frame}}
use Rattle.smp_joint.specs.JointRows.{IsSystematicPlan}
use Rattle.smp_joint.proofs.PlanJoints.{has_joints as joints_hold}
use Rattle.smp_words.specs.{declared.command.DesignArguments.{DesignArguments}, Words.{command_of}}
use Rattle.smp_words.specs.declared.command.Command.TheVariants as commands
use Rattle.smp_status.specs.declared.status.Status.TheVariants as status
use Rattle.smp_status.specs.Codes.{design_status, frame_status}
use Rattle.smp_plan.specs.{Plans.{Survey, survey_plan}, Stops.{Stop, Refused, content, or_fault}}
use Rattle.smp_app.specs.{Texts.{joints_text}, Commands.{Lists, Job, job_of, job_for}, Answers.{Outside, Done}, Kept.Exact.{IsExact}}
use Rattle.smp_plan.specs.Inputs.{HeldForJoint, FrameForJoint, ReadDesign, has_joints, most_joint_rows, unless_large, unless_no_joints, design_stage, frame_stage, plan_stage}
use Rattle.smp_app.specs.Headline.{IsExactJoint}
use Rattle.smp_app.proofs.Lists.{listed}
use Rattle.smp_app.proofs.PlansRead.{Designed, Planned, content_is, frame_accepted, frame_plan, plan_is, read_is, read_plan, step}

-- ---- joint probabilities that were listed

-- a design that has them draws so
draws_so : (method : Method) (order : Order) (second : Option Second) → has_joints method order second ≡ true → (method ≡ Systematic) × ((order ≡ Frame) × (second ≡ None))
draws_so Systematic Frame None h = (refl, (refl, refl))
draws_so method order second h = absurd (cc)

joints_so : (made design : ReadDesign) → unless_no_joints made ≡ Ok design → (has_joints made.design.procedure.method made.design.procedure.order made.design.second ≡ true) × (made ≡ design)
joints_so made design h =
    elim (cases_Bool (has_joints made.design.procedure.method made.design.procedure.order made.design.second)) [
      | inl e ↦ (let same : ◌≡◌ {A = Result ReadDesign Stop} (Ok made) (Ok design) = rw e at h in (e, cc))
      | inr e ↦ absurd (let same : ◌≡◌ {A = Result ReadDesign Stop} (Err (Refused status.NoJoint)) (Ok design) = rw e at h in cc)
    ]

few_so : (name : List ℕ) (units few : List unit.Unit) → unless_large (FrameForJoint name) units ≡ Ok few → (length few ≤ most_joint_rows) × (units ≡ few)
few_so name units few h =
    elim (cases_Bool (nat_lt most_joint_rows (length units))) [
      | inl e ↦ absurd (let same : ◌≡◌ {A = Result (List unit.Unit) Stop} (Err (Refused (status.JointLarge (length units)))) (Ok few) = rw e at h in cc)
      | inr e ↦
          (let ok : ◌≡◌ {A = Result (List unit.Unit) Stop} (Ok units) (Ok few) = rw e at h in
          let same : units ≡ few = cc in
          (subst (λ (us : List unit.Unit). length us ≤ most_joint_rows) same (ltb-false most_joint_rows (length units) e), same))
    ]

-- what was read for them
record DesignedForJoint (name : List ℕ) (fs : Files) (design : ReadDesign) : Type 0 where
  read : Designed name fs design
  has : has_joints design.design.procedure.method design.design.procedure.order design.design.second ≡ true

designed_for_joint : (name : List ℕ) (fs : Files) (design : ReadDesign) → design_stage (HeldForJoint name) fs ≡ Ok design → DesignedForJoint name fs design
unfolding design_stage
designed_for_joint name fs design h =
    let bytes = step (content name (fs name)) _ design h in
    let read = step (or_fault design_status (design_of bytes.value)) _ design bytes.then_is in
    let made : ReadDesign = record { design = read.value; bytes = bytes.value } in
    let so = joints_so made design read.then_is in
    subst (DesignedForJoint name fs) so.1
    (record {
      read = record {
        held = content_is (fs name) name bytes.value bytes.first_is;
        read = read_is design_status (design_of bytes.value) read.value read.first_is;
      };
      has = so.0;
    })

record PlannedForJoint (design : ReadDesign) (frame : List ℕ) (fs : Files) (plan : Survey) : Type 0 where
  read : Planned design frame fs plan
  few : length plan.units ≤ most_joint_rows

planned_for_joint : (design : ReadDesign) (frame : List ℕ) (fs : Files) (plan : Survey) → frame_stage design (FrameForJoint frame) fs ≡ Ok plan → PlannedForJoint design frame fs plan
unfolding frame_stage
planned_for_joint design frame fs plan h =
    let bytes = step (content frame (fs frame)) _ plan h in
    let units = step (or_fault frame_status (frame_of design.design.columns bytes.value)) _ plan bytes.then_is in
    let kept = step (unless_large (FrameForJoint frame) units.value) _ plan units.then_is in
    let so = few_so frame units.value kept.value kept.first_is in
    let made = plan_is plan _ (misfit_of design.design kept.value) kept.then_is in
    let framed : frame_of design.design.columns bytes.value ≡ Ok units.value = read_is frame_status (frame_of design.design.columns bytes.value) units.value units.first_is in
    record {
      read = record {
        bytes = bytes.value;
        held = content_is (fs frame) frame bytes.value bytes.first_is;
        units = kept.value;
        read = subst (λ (us : List unit.Unit). frame_of design.design.columns bytes.value ≡ Ok us) so.1 framed;
        served = made.0;
        is = made.1;
      };
      few = subst (λ (p : Survey). length p.units ≤ most_joint_rows) made.1 so.0;
    }

module _ (a : DesignArguments) (fs : Files) (before now : Outside) (words : List (List ℕ)) (asked : command_of words ≡ Some (commands.Joint a)) where
  abbrev joint_job : Job
  joint_job = record { design = HeldForJoint a.design; frame = FrameForJoint a.frame; work = Lists joints_text }

  joint_asked : job_for words ≡ Some joint_job
  joint_asked = ap (option_map job_of) asked

  -- the plan of what was read, and what it lists
  joint_of_plan : (plan : Survey) → plan_stage (HeldForJoint a.design) (FrameForJoint a.frame) fs ≡ Ok plan → CanBeDrawn (survey_plan plan) → now.put ≡ with_bytes (joints_text plan) before.put → now.files ≡ Some fs
      → IsExactJoint a fs before now
  joint_of_plan plan planned_is drawable put same =
      let design = step (design_stage (HeldForJoint a.design) fs) (λ d. frame_stage d (FrameForJoint a.frame) fs) plan planned_is in
      let designed_so = designed_for_joint a.design fs design.value design.first_is in
      let planned_so = planned_for_joint design.value a.frame fs plan design.then_is in
      let framed = frame_plan design.value a.frame fs plan planned_so.read in
      let so = draws_so plan.design.procedure.method plan.design.procedure.order plan.design.second (subst (λ (d : Design). has_joints d.procedure.method d.procedure.order d.second ≡ true) (sym framed.0) designed_so.has) in
      let systematic : IsSystematicPlan (survey_plan plan) = record { method = so.0; order = so.1.0; second = ap (option_map (λ (second : Second). second.method)) so.1.1 } in
      record {
        plan = plan;
        read = read_plan a.design a.frame fs plan (record { design = design.value; designed = designed_so.read; framed = planned_so.read });
        accepted = frame_accepted design.value a.frame fs plan planned_so.read;
        systematic = systematic;
        few = planned_so.few;
        joints = joints_hold (survey_plan plan) drawable systematic;
        put = put;
        same = same;
      }

  pub exact_joint : IsExact joint_job fs → Done words before now → before.files ≡ Some fs → IsExactJoint a fs before now
  exact_joint made done told =
      let puts = listed joints_text (HeldForJoint a.design) (FrameForJoint a.frame) fs before now words joint_asked made.plan made.planned done told in
      joint_of_plan made.plan made.planned made.from_plan.drawable puts.0 puts.1
