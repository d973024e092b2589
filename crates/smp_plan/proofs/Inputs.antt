-- What was read of a design and a frame.
use Rattle.std.proofs.Common.{◌≡◌, ℕ, true, false, length, List, [], Result, Ok, Err, IfErr, refl, ap, ◌∙◌, arith}
use Rattle.smp_io.specs.Store.{Files}
use Rattle.smp_io.proofs.Asked.{only_none}
use Rattle.smp_log.specs.Heads.{head_of}
use Rattle.smp_design.specs.{Designs.{design_of}, Faults.{is_memory}, declared.design.Design.{Design}}
use Rattle.smp_design.specs.declared.fault.DesignFault.{DesignFault}
use Rattle.smp_design.specs.declared.fault.DesignFault.TheVariants as design_fault
use Rattle.smp_status.specs.{declared.status.Status.{Status}, Codes.{Class, IsRefusal, IsNoMemory, class_of, design_status, misfit_status}}
use Rattle.smp_status.specs.declared.status.Status.TheVariants as status
use Rattle.smp_frame.specs.declared.frame.Unit as unit
use Rattle.smp_frame.specs.Frames.{frame_of}
use Rattle.smp_strata.specs.declared.misfit.Misfit.{Misfit}
use Rattle.smp_strata.specs.declared.misfit.Misfit.TheVariants as misfits
use Rattle.smp_plan.specs.{Plans.{Survey}, Stops.{Stop, Refused, without}, Planned.{GivesPlan}}
use Rattle.smp_plan.specs.Inputs.{DesignSource, Held, HeldForJoint, Given, Made, FrameSource, FrameHeld, FrameForJoint, FrameMade, is_large, design_names, frame_names, input_names, ReadDesign, frame_content, design_stage, frame_stage, plan_of, plan_stage}
use Rattle.smp_frac.specs.Memory as memory
use Rattle.smp_frac.specs.Faults.{◌>>=◌}
use Rattle.smp_plan.specs.Reads.{Told, Sees, Follows, IsErrorOf, IsCaused, ReadCause, Reads}
use Rattle.smp_status.specs.Reports.{IsOfInputs}
use Rattle.smp_plan.proofs.{Steps.{Ignores, bind_same, read_for}, Names.{contains_left, contains_right, Apart}}

pub design_ignores : (source : DesignSource) → Ignores (design_stage source) (design_names source)
unfolding design_stage
design_ignores (Held design) name differs fs = rw (differs design (0, omega arith, refl)) refl
design_ignores (HeldForJoint design) name differs fs = rw (differs design (0, omega arith, refl)) refl
design_ignores (Given design) name differs fs = refl
design_ignores (Made bytes) name differs fs = refl

frame_ignores : (design : ReadDesign) (frame : FrameSource) → Ignores (frame_stage design frame) (frame_names frame)
unfolding frame_stage
frame_ignores design (FrameHeld frame) name differs fs = rw (differs frame (0, omega arith, refl)) refl
frame_ignores design (FrameForJoint frame) name differs fs = rw (differs frame (0, omega arith, refl)) refl
frame_ignores design (FrameMade bytes) name differs fs = refl

pub plan_ignores : (design : DesignSource) (frame : FrameSource) → Ignores (plan_stage design frame) (input_names design frame)
plan_ignores design frame name differs fs =
    let inputs = design_names design in
    let from_design = design_ignores design name (λ other here. differs other (contains_left inputs (frame_names frame) other here)) fs in
    let from_frame : Apart name (frame_names frame) = λ other here. differs other (contains_right inputs (frame_names frame) other here) in
    ap (λ (r : Result ReadDesign Stop). r >>= λ read. frame_stage read frame (without name fs)) from_design
    ∙ bind_same (design_stage design fs) _ _ (λ read. frame_ignores read frame name from_frame fs)

-- ---- a frame and its plan

-- what was read of a frame leads to its plan
module _ (design : ReadDesign) (frame : FrameSource) (bytes : List ℕ) (units : List unit.Unit) (before now : Told) (read : Reads (frame_names frame) (frame_content frame) (Ok bytes) before now) (framed : frame_of design.design.columns bytes ≡ Ok units) (few : is_large frame (length units) ≡ false) where
  abbrev pub made : Survey
  made = record { design = design.design; units = units; head = head_of design.bytes bytes }

  staged : (fs : Files) → Sees (frame_names frame) before.files fs → frame_stage design frame fs ≡ plan_of made
  unfolding frame_stage
  staged fs told = rw (read.follows fs told, framed, few) refl

  pub plan_read : (plan : Survey) → plan_of made ≡ Ok plan → Reads (frame_names frame) (frame_stage design frame) (Ok plan) before now
  plan_read plan is = read_for read (λ fs told. staged fs told ∙ is) tt tt

  abbrev pub refusal_of : Misfit → Result Survey Status
  refusal_of misfit = Err (misfit_status misfit)

  refused_so : (misfit : Misfit) (class : Class) → class_of (misfit_status misfit) ≡ class → IsOfInputs class (misfit_status misfit) → ((fs : Files) → Sees (frame_names frame) before.files fs → IsErrorOf class (misfit_status misfit) (frame_stage design frame fs)) → IsCaused class (ReadCause (frame_names frame) (frame_stage design frame) before now)
      → Reads (frame_names frame) (frame_stage design frame) (refusal_of misfit) before now
  refused_so misfit class is kind follows cause = read_for read (λ fs told. rw is (follows fs told)) (rw is kind) (rw is cause)

  pub misfit_read : (misfit : Misfit) → GivesPlan (Err misfit) (plan_of made) → Reads (frame_names frame) (frame_stage design frame) (refusal_of misfit) before now
  misfit_read misfits.NoMemory gives = refused_so misfits.NoMemory IsNoMemory refl tt (λ fs told. tt) tt
  misfit_read (misfits.UnitInTwo psu) gives = refused_so (misfits.UnitInTwo psu) IsRefusal refl refl (λ fs told. staged fs told ∙ gives) tt
  misfit_read (misfits.PsuTooLarge psu) gives = refused_so (misfits.PsuTooLarge psu) IsRefusal refl refl (λ fs told. staged fs told ∙ gives) tt
  misfit_read (misfits.NoSize stratum) gives = refused_so (misfits.NoSize stratum) IsRefusal refl refl (λ fs told. staged fs told ∙ gives) tt
  misfit_read (misfits.TooMany stratum n positive) gives = refused_so (misfits.TooMany stratum n positive) IsRefusal refl refl (λ fs told. staged fs told ∙ gives) tt
  misfit_read (misfits.Denominator stratum) gives = refused_so (misfits.Denominator stratum) IsRefusal refl refl (λ fs told. staged fs told ∙ gives) tt
  misfit_read (misfits.NotWhole stratum sum) gives = refused_so (misfits.NotWhole stratum sum) IsRefusal refl refl (λ fs told. staged fs told ∙ gives) tt
  misfit_read (misfits.RowLimit strata variables) gives = refused_so (misfits.RowLimit strata variables) IsRefusal refl refl (λ fs told. staged fs told ∙ gives) tt
  misfit_read (misfits.SecondTooMany psu n positive) gives = refused_so (misfits.SecondTooMany psu n positive) IsRefusal refl refl (λ fs told. staged fs told ∙ gives) tt

-- of too many rows
module _ (design : ReadDesign) (frame : FrameSource) (bytes : List ℕ) (units : List unit.Unit) (before now : Told) (read : Reads (frame_names frame) (frame_content frame) (Ok bytes) before now) (framed : frame_of design.design.columns bytes ≡ Ok units) (large : is_large frame (length units) ≡ true) where
  large_staged : (fs : Files) → Sees (frame_names frame) before.files fs → frame_stage design frame fs ≡ Err (Refused (status.JointLarge (length units)))
  unfolding frame_stage
  large_staged fs told = rw (read.follows fs told, framed, large) refl

  pub large_read : Reads {A = Survey} (frame_names frame) (frame_stage design frame) (Err (status.JointLarge (length units))) before now
  large_read = read_for read large_staged refl tt

-- ---- a design that is made of bytes with the command

module _ (bytes : List ℕ) (now : Told) where
  -- nothing is read of the store
  none_read : (answer : Result ReadDesign Status) → ((fs : Files) → Follows answer (design_stage (Made bytes) fs)) → IfErr answer (λ error. IsOfInputs (class_of error) error)
      → IfErr answer (λ error. IsCaused (class_of error) (ReadCause [] (design_stage (Made bytes)) now now)) → Reads [] (design_stage (Made bytes)) answer now now
  none_read answer follows kinds cause = record {
    follows = λ fs told. follows fs;
    kinds = kinds;
    cause = cause;
    same = refl;
    reads = λ name. omega arith;
    writes = λ name. omega arith;
    shortages = λ name. omega arith;
    asked = only_none [] now.asked now.asked refl;
  }

  pub made_read : (design : Design) → design_of bytes ≡ Ok design → Reads [] (design_stage (Made bytes)) (Ok (record { design = design; bytes = bytes })) now now
  unfolding design_stage
  made_read design is = none_read (Ok (record { design = design; bytes = bytes })) (λ fs. rw is refl) tt tt

  refusing : (error : Status) (class : Class) → class_of error ≡ class → IsOfInputs class error → ((fs : Files) → IsErrorOf class error (design_stage (Made bytes) fs)) → IsCaused class (ReadCause [] (design_stage (Made bytes)) now now)
      → Reads [] (design_stage (Made bytes)) (Err error) now now
  refusing error class is kind follows cause = none_read (Err error) (λ fs. rw is (follows fs)) (rw is kind) (rw is cause)

  staged_fault : (fault : DesignFault) → design_of bytes ≡ Err fault → (fs : Files) → design_stage (Made bytes) fs ≡ Err (Refused (design_status fault))
  unfolding design_stage
  staged_fault fault is fs = rw is refl

  pub made_refused : (fault : DesignFault) → memory.Reads {A = Design} is_memory (Err fault) (design_of bytes) → Reads [] (design_stage (Made bytes)) (Err (design_status fault)) now now
  made_refused design_fault.NoMemory is = refusing (design_status design_fault.NoMemory) IsNoMemory refl tt (λ fs. tt) tt
  made_refused design_fault.Syntax is = refusing (design_status design_fault.Syntax) IsRefusal refl refl (staged_fault design_fault.Syntax is) tt
  made_refused design_fault.Version is = refusing (design_status design_fault.Version) IsRefusal refl refl (staged_fault design_fault.Version is) tt
  made_refused (design_fault.UnknownKey name) is = refusing (design_status (design_fault.UnknownKey name)) IsRefusal refl refl (staged_fault (design_fault.UnknownKey name) is) tt
  made_refused (design_fault.MissingKey name) is = refusing (design_status (design_fault.MissingKey name)) IsRefusal refl refl (staged_fault (design_fault.MissingKey name) is) tt
  made_refused (design_fault.BadValue key) is = refusing (design_status (design_fault.BadValue key)) IsRefusal refl refl (staged_fault (design_fault.BadValue key) is) tt
  made_refused (design_fault.Clash first second) is = refusing (design_status (design_fault.Clash first second)) IsRefusal refl refl (staged_fault (design_fault.Clash first second) is) tt
