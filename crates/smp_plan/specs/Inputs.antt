-- The design and the frame: where they stand, and the plan of what is read of them.
use Rattle.std.specs.Prelude.{ℕ, Bool, true, false, nat_lt, if◌then◌else◌, List, [], ◌∷◌, ◌++◌, length, Option, Some, None, Result, Ok, Err}
use Rattle.smp_prob.specs.declared.orders.Order.{Order}
use Rattle.smp_prob.specs.declared.orders.Order.TheVariants.{Frame}
use Rattle.smp_design.specs.declared.method.Method.{Method}
use Rattle.smp_design.specs.declared.method.Method.TheVariants.{Systematic}
use Rattle.smp_design.specs.declared.design.Second as second
use Rattle.smp_frame.specs.declared.frame.Unit as unit
use Rattle.smp_design.specs.declared.design.Design.{Design}
use Rattle.smp_plan.specs.Plans.{Survey}
use Rattle.smp_io.specs.Store.{Files}
use Rattle.smp_log.specs.Heads.{head_of}
use Rattle.smp_frame.specs.Frames.{frame_of}
use Rattle.smp_design.specs.Designs.{design_of}
use Rattle.smp_strata.specs.Misfits.{misfit_of}
use Rattle.smp_strata.specs.declared.misfit.Misfit.{Misfit}
use Rattle.smp_status.specs.declared.status.Status.TheVariants as status
use Rattle.smp_status.specs.Codes.{design_status, frame_status}
use Rattle.smp_frac.specs.Faults.{◌>>=◌}
use Rattle.smp_plan.specs.Stops.{Stop, or_fault, content_of, Refused}

-- where the design of a command stands: in a file of this name, or with the command, as a design or as the bytes of one
pub data DesignSource : Type 0 where
  Held : List ℕ → DesignSource
  HeldForJoint : List ℕ → DesignSource
  Given : Design → DesignSource
  Made : List ℕ → DesignSource

-- where its frame stands: in a file of this name, or with the command, as its bytes
pub data FrameSource : Type 0 where
  FrameHeld : List ℕ → FrameSource
  FrameForJoint : List ℕ → FrameSource
  FrameMade : List ℕ → FrameSource

-- ---- the files that are read

abbrev pub design_names : DesignSource → List (List ℕ)
design_names (Held name) = name ∷ []
design_names (HeldForJoint name) = name ∷ []
design_names (Given design) = []
design_names (Made bytes) = []

abbrev pub frame_names : FrameSource → List (List ℕ)
frame_names (FrameHeld name) = name ∷ []
frame_names (FrameForJoint name) = name ∷ []
frame_names (FrameMade bytes) = []

-- the files of both, in the order of work
abbrev pub input_names : DesignSource → FrameSource → List (List ℕ)
input_names design frame = design_names design ++ frame_names frame

-- ---- what is made of what was read

-- a design, and the bytes that it was read from
pub record ReadDesign : Type 0 where
  pub design : Design
  pub bytes : List ℕ

-- the plan of a design and the rows of a frame, unless the frame doesn't serve the design
abbrev pub unless_misfit : Survey → Option Misfit → Result Survey Stop
unless_misfit plan None = Ok plan
unless_misfit plan (Some misfit) = Err (Refused (status.Misfit misfit))

abbrev pub plan_of : Survey → Result Survey Stop
plan_of plan = unless_misfit plan (misfit_of plan.design plan.units)

-- ---- joint probabilities

-- a design has them that draws systematically, in the order of the frame and in one stage
abbrev pub has_joints : Method → Order → Option second.Second → Bool
has_joints Systematic Frame None = true
has_joints method order second = false

abbrev pub unless_no_joints : ReadDesign → Result ReadDesign Stop
unless_no_joints read =
    if has_joints read.design.procedure.method read.design.procedure.order read.design.second then Ok read
    else Err (Refused status.NoJoint)

-- they are listed for so many rows at most, of which there are 1,999,000 pairs
abbrev pub most_joint_rows : ℕ
most_joint_rows = 2000

-- so many rows are too many for them
abbrev pub is_large : FrameSource → ℕ → Bool
is_large (FrameForJoint name) rows = nat_lt most_joint_rows rows
is_large other rows = false

abbrev pub unless_large : FrameSource → List unit.Unit → Result (List unit.Unit) Stop
unless_large frame units =
    if is_large frame (length units) then Err (Refused (status.JointLarge (length units)))
    else Ok units

-- ---- the order of work

-- the design
unfoldable pub design_stage : DesignSource → Files → Result ReadDesign Stop
design_stage (Given design) fs = Ok (record { design = design; bytes = [] })
design_stage (HeldForJoint name) fs = do
  bytes ← content_of name fs
  design ← or_fault design_status (design_of bytes)
  unless_no_joints (record { design = design; bytes = bytes })
design_stage (Made bytes) fs = do
  design ← or_fault design_status (design_of bytes)
  Ok (record { design = design; bytes = bytes })
design_stage (Held name) fs = do
  bytes ← content_of name fs
  design ← or_fault design_status (design_of bytes)
  Ok (record { design = design; bytes = bytes })

-- the frame, and the plan
abbrev pub frame_content : FrameSource → Files → Result (List ℕ) Stop
frame_content (FrameHeld name) fs = content_of name fs
frame_content (FrameForJoint name) fs = content_of name fs
frame_content (FrameMade bytes) fs = Ok bytes

unfoldable pub frame_stage : ReadDesign → FrameSource → Files → Result Survey Stop
frame_stage read frame fs = do
  bytes ← frame_content frame fs
  units ← or_fault frame_status (frame_of read.design.columns bytes)
  few ← unless_large frame units
  plan_of (record { design = read.design; units = few; head = head_of read.bytes bytes })

abbrev pub plan_stage : DesignSource → FrameSource → Files → Result Survey Stop
plan_stage design frame fs = design_stage design fs >>= λ read. frame_stage read frame fs
