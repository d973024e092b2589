-- What was read for a plan: the bytes of a design and of a frame, of which it is the plan.
use Rattle.std.proofs.Common.{◌≡◌, ℕ, List, Option, Some, None, Result, Ok, Err, refl, sym, ap, subst, ◌∙◌}
use Rattle.smp_io.specs.Store.{Files}
use Rattle.smp_frame.specs.declared.frame.Unit as unit
use Rattle.smp_frame.specs.Frames.{frame_of}
use Rattle.smp_strata.specs.{Misfits.{misfit_of}, declared.misfit.Misfit.{Misfit}}
use Rattle.smp_design.specs.{Designs.{design_of}, declared.design.Design.{Design}, declared.fault.DesignFault.{DesignFault}}
use Rattle.smp_log.specs.Heads.{head_of}
use Rattle.smp_status.specs.{declared.status.Status.{Status}, Codes.{design_status, frame_status}}
use Rattle.smp_plan.specs.{Plans.{Survey}, Stops.{Stop, content, or_fault}}
use Rattle.smp_plan.specs.Inputs.{Held, FrameHeld, FrameMade, Made, ReadDesign, unless_large, unless_misfit, design_stage, frame_stage, plan_of, plan_stage}
use Rattle.smp_app.specs.{Commands.{Job}, Deliveries.{Outputs}, Headline.{IsAccepted, IsReadFrame, IsReadPlan}}
use Rattle.smp_frac.specs.Faults.{◌>>=◌}

-- ---- what a stage that goes on has read

-- what stands before the last stage, and then it
pub record Step {A B : Type 0} (first : Result A Stop) (then_ : A → Result B Stop) (last : B) : Type 0 where
  pub value : A
  pub first_is : first ≡ Ok value
  pub then_is : then_ value ≡ Ok last

pub step : {A B : Type 0} (first : Result A Stop) (then_ : A → Result B Stop) (last : B) → first >>= then_ ≡ Ok last → Step first then_ last
step (Ok x) then_ last h = record { value = x; first_is = refl; then_is = h }
step (Err e) then_ last h = absurd (cc)

pub content_is : (held : Option (List ℕ)) (name bytes : List ℕ) → content name held ≡ Ok bytes → held ≡ Some bytes
content_is (Some b) name bytes h = let same : ◌≡◌ {A = Result (List ℕ) Stop} (Ok b) (Ok bytes) = h in cc
content_is None name bytes h = absurd (cc)

pub read_is : {A Fault : Type 0} (refusal : Fault → Status) (read : Result A Fault) (x : A) → or_fault refusal read ≡ Ok x → read ≡ Ok x
read_is {A} refusal (Ok y) x h = let same : ◌≡◌ {A = Result A Stop} (Ok y) (Ok x) = h in cc
read_is refusal (Err fault) x h = absurd (cc)

pub plan_is : (plan made : Survey) (found : Option Misfit) → unless_misfit made found ≡ Ok plan → (found ≡ None) × (made ≡ plan)
plan_is plan made None h = let same : ◌≡◌ {A = Result Survey Stop} (Ok made) (Ok plan) = h in (refl, cc)
plan_is plan made (Some misfit) h = absurd (cc)

-- what was read for a design
pub record Designed (name : List ℕ) (fs : Files) (design : ReadDesign) : Type 0 where
  pub held : fs name ≡ Some design.bytes
  pub read : design_of design.bytes ≡ Ok design.design

pub designed : (name : List ℕ) (fs : Files) (design : ReadDesign) → design_stage (Held name) fs ≡ Ok design → Designed name fs design
unfolding design_stage
designed name fs design h =
    let bytes = step (content name (fs name)) _ design h in
    let read = step (or_fault design_status (design_of bytes.value)) _ design bytes.then_is in
    let same : record { design = read.value; bytes = bytes.value } ≡ design = ok_is _ _ read.then_is in
    subst (Designed name fs) same
    (record {
      held = content_is (fs name) name bytes.value bytes.first_is;
      read = read_is design_status (design_of bytes.value) read.value read.first_is;
    })
  where
    ok_is : (x y : ReadDesign) → ◌≡◌ {A = Result ReadDesign Stop} (Ok x) (Ok y) → x ≡ y
    ok_is x y e = cc

-- what was read for a plan
pub record Planned (design : ReadDesign) (frame : List ℕ) (fs : Files) (plan : Survey) : Type 0 where
  pub bytes : List ℕ
  pub held : fs frame ≡ Some bytes
  pub units : List unit.Unit
  pub read : frame_of design.design.columns bytes ≡ Ok units
  pub served : misfit_of design.design units ≡ None
  pub is : record { design = design.design; units = units; head = head_of design.bytes bytes } ≡ plan

pub planned : (design : ReadDesign) (frame : List ℕ) (fs : Files) (plan : Survey) → frame_stage design (FrameHeld frame) fs ≡ Ok plan → Planned design frame fs plan
unfolding frame_stage
planned design frame fs plan h =
    let bytes = step (content frame (fs frame)) _ plan h in
    let units = step (or_fault frame_status (frame_of design.design.columns bytes.value)) _ plan bytes.then_is in
    let made = plan_is plan _ (misfit_of design.design units.value) units.then_is in
    record {
      bytes = bytes.value;
      held = content_is (fs frame) frame bytes.value bytes.first_is;
      units = units.value;
      read = read_is frame_status (frame_of design.design.columns bytes.value) units.value units.first_is;
      served = made.0;
      is = made.1;
    }

-- ---- what was read for a plan

-- what was read for the plan of a job
pub record Read (design_name frame_name : List ℕ) (fs : Files) (plan : Survey) : Type 0 where
  pub design : ReadDesign
  pub designed : Designed design_name fs design
  pub framed : Planned design frame_name fs plan

pub read : (design_name frame_name : List ℕ) (fs : Files) (plan : Survey) → design_stage (Held design_name) fs >>= (λ d. frame_stage d (FrameHeld frame_name) fs) ≡ Ok plan → Read design_name frame_name fs plan
read design_name frame_name fs plan h =
    let design = step (design_stage (Held design_name) fs) (λ d. frame_stage d (FrameHeld frame_name) fs) plan h in
    record {
      design = design.value;
      designed = designed design_name fs design.value design.first_is;
      framed = planned design.value frame_name fs plan design.then_is;
    }

-- so the plan is what was read
pub frame_plan : (design : ReadDesign) (frame_name : List ℕ) (fs : Files) (plan : Survey) → Planned design frame_name fs plan → (plan.design ≡ design.design) × IsReadFrame frame_name design.bytes fs plan
frame_plan design frame_name fs plan framed =
    subst (λ (p : Survey). (p.design ≡ design.design) × IsReadFrame frame_name design.bytes fs p) framed.is
    (refl, record { frame_bytes = framed.bytes; frame_held = framed.held; frame_read = framed.read; head = refl })

-- and design and frame go together
pub frame_accepted : (design : ReadDesign) (frame_name : List ℕ) (fs : Files) (plan : Survey) → Planned design frame_name fs plan → IsAccepted plan
frame_accepted design frame_name fs plan framed = subst IsAccepted framed.is framed.served

pub read_plan : (design_name frame_name : List ℕ) (fs : Files) (plan : Survey) → Read design_name frame_name fs plan → IsReadPlan design_name frame_name fs plan
read_plan design_name frame_name fs plan from =
    let framed = frame_plan from.design frame_name fs plan from.framed in
    record {
      design_bytes = from.design.bytes;
      design_held = from.designed.held;
      design_read = from.designed.read ∙ ap (λ (d : Design). ok_design d) (sym framed.0);
      frame_is = framed.1;
    }
  where
    ok_design : Design → Result Design DesignFault
    ok_design d = Ok d

pub accepted_plan : (design_name frame_name : List ℕ) (fs : Files) (plan : Survey) → Read design_name frame_name fs plan → IsAccepted plan
accepted_plan design_name frame_name fs plan from = frame_accepted from.design frame_name fs plan from.framed

-- what was made for a plan, of the bytes of a design and of a frame
pub record MadePlan (design_bytes frame_bytes : List ℕ) (plan : Survey) : Type 0 where
  pub design_read : design_of design_bytes ≡ Ok plan.design
  pub frame_read : frame_of plan.design.columns frame_bytes ≡ Ok plan.units
  pub head : plan.head ≡ head_of design_bytes frame_bytes
  pub accepted : IsAccepted plan

made_design : (bytes : List ℕ) (fs : Files) (read : ReadDesign) → design_stage (Made bytes) fs ≡ Ok read → (design_of bytes ≡ Ok read.design) × (read.bytes ≡ bytes)
unfolding design_stage
made_design bytes fs read h =
    let design = step (or_fault design_status (design_of bytes)) _ read h in
    let same : record { design = design.value; bytes = bytes } ≡ read = one_read _ _ design.then_is in
    subst (λ (r : ReadDesign). (design_of bytes ≡ Ok r.design) × (r.bytes ≡ bytes)) same (read_is design_status (design_of bytes) design.value design.first_is, refl)
  where
    one_read : (x y : ReadDesign) → ◌≡◌ {A = Result ReadDesign Stop} (Ok x) (Ok y) → x ≡ y
    one_read x y e = cc

made_frame : (read : ReadDesign) (bytes : List ℕ) (fs : Files) (plan : Survey) → design_of read.bytes ≡ Ok read.design → frame_stage read (FrameMade bytes) fs ≡ Ok plan → MadePlan read.bytes bytes plan
unfolding frame_stage
made_frame read bytes fs plan designed h =
    let units = step (or_fault frame_status (frame_of read.design.columns bytes))
    (λ units. unless_large (FrameMade bytes) units >>= λ few. plan_of (record { design = read.design; units = few; head = head_of read.bytes bytes })) plan h in
    let made = plan_is plan _ (misfit_of read.design units.value) units.then_is in
    subst (MadePlan read.bytes bytes) made.1
    (record {
      design_read = designed;
      frame_read = read_is frame_status (frame_of read.design.columns bytes) units.value units.first_is;
      head = refl;
      accepted = made.0;
    })

pub made_plan : (design_bytes frame_bytes : List ℕ) (fs : Files) (plan : Survey) → plan_stage (Made design_bytes) (FrameMade frame_bytes) fs ≡ Ok plan → MadePlan design_bytes frame_bytes plan
made_plan design_bytes frame_bytes fs plan h =
    let read = step (design_stage (Made design_bytes) fs) (λ r. frame_stage r (FrameMade frame_bytes) fs) plan h in
    let designed = made_design design_bytes fs read.value read.first_is in
    subst (λ bytes. MadePlan bytes frame_bytes plan) designed.1
    (made_frame read.value frame_bytes fs plan (ap design_of designed.1 ∙ designed.0) read.then_is)

-- the same files are read as one plan
pub read_once : (design frame : List ℕ) (fs : Files) (p q : Survey) → IsReadPlan design frame fs p → IsReadPlan design frame fs q → p ≡ q
read_once design frame fs p q first again =
    let bytes : first.design_bytes ≡ again.design_bytes = held_once (sym first.design_held ∙ again.design_held) in
    let held : first.frame_is.frame_bytes ≡ again.frame_is.frame_bytes = held_once (sym first.frame_is.frame_held ∙ again.frame_is.frame_held) in
    let designs : p.design ≡ q.design = ok_once (sym first.design_read ∙ ap design_of bytes ∙ again.design_read) in
    let units : p.units ≡ q.units = ok_once (sym first.frame_is.frame_read ∙ ap (λ (d : Design). frame_of d.columns first.frame_is.frame_bytes) designs ∙ ap (frame_of q.design.columns) held ∙ again.frame_is.frame_read) in
    let heads : p.head ≡ q.head = first.frame_is.head ∙ ap (λ bs. head_of bs first.frame_is.frame_bytes) bytes ∙ ap (head_of again.design_bytes) held ∙ sym again.frame_is.head in
    plans_same p q designs units heads
  where
    held_once : {x y : List ℕ} → Some x ≡ Some y → x ≡ y
    held_once {x} {y} same = let one : ◌≡◌ {A = Option (List ℕ)} (Some x) (Some y) = same in cc

    ok_once : {A E : Type 0} {x y : A} → ◌≡◌ {A = Result A E} (Ok x) (Ok y) → x ≡ y
    ok_once same = cc

    plans_same : (p q : Survey) → p.design ≡ q.design → p.units ≡ q.units → p.head ≡ q.head → p ≡ q
    plans_same p q designs units heads =
        let of : Design → List unit.Unit → List ℕ → Survey = λ d us h. record { design = d; units = us; head = h } in
        ap (λ (d : Design). of d p.units p.head) designs ∙ ap (λ (us : List unit.Unit). of q.design us p.head) units ∙ ap (of q.design q.units) heads

pub ok_same : (x y : Outputs) → ◌≡◌ {A = Result Outputs Stop} (Ok x) (Ok y) → x ≡ y
ok_same x y h = cc

pub some_same : (x y : Job) → Some x ≡ Some y → x ≡ y
some_same x y h = cc
