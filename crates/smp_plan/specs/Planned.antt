-- The plan of a design and a frame in the code.
use Rattle.std.specs.Prelude.{◌≡◌, ◌≤◌, ℕ, Result, Ok, Err}
use Rattle.smp_frame.specs.Bounds.{IsFrame}
use Rattle.smp_design.specs.Bounds.{IsDesign}
use Rattle.smp_strata.specs.Asked.{AsksAsFrame}
use Rattle.smp_strata.specs.Draws.{DrawsAsAsked}
use Rattle.smp_twostage.specs.Plans.{CanBeDrawn}
use Rattle.smp_status.specs.declared.status.Status.TheVariants as status
use Rattle.smp_strata.specs.declared.misfit.Misfit.{Misfit}
use Rattle.smp_strata.specs.declared.misfit.Misfit.TheVariants as misfits
use Rattle.smp_plan.specs.declared.plan.FramePlan.{FramePlan}
use Rattle.smp_plan.specs.declared.plan.ReadDesign as code_design
use Rattle.smp_plan.specs.declared.source.DesignSource as code_source
use Rattle.smp_plan.specs.declared.source.DesignSource.TheVariants as sources
use Rattle.smp_plan.specs.declared.source.FrameSource as code_frame
use Rattle.smp_plan.specs.declared.source.FrameSource.TheVariants as frames
use Rattle.smp_cases.specs.Demo.{demo_design_text, demo_frame_text}
use Rattle.smp_plan.specs.Plans.{Survey, survey_plan, quick_design}
use Rattle.smp_plan.specs.Inputs.{DesignSource, Held, HeldForJoint, Given, Made}
use Rattle.smp_plan.specs.Inputs.{FrameSource, FrameHeld, FrameForJoint, FrameMade, ReadDesign}
use Rattle.smp_plan.specs.Stops.{Stop, Refused}

-- ---- values of the code as the definitions see them

abbrev pub plan_view : FramePlan → Survey
plan_view plan = record { design = plan.design; units = plan.frame; head = plan.head }

abbrev pub read_view : code_design.ReadDesign → ReadDesign
read_view read = record { design = read.design; bytes = read.bytes }

abbrev pub source_view : code_source.DesignSource → DesignSource
source_view (sources.Held name) = Held name.now
source_view (sources.Joint name) = HeldForJoint name.now
source_view (sources.Quick n) = Given (quick_design n)
source_view (sources.Demo n) = Made (demo_design_text n)

abbrev pub frame_view : code_frame.FrameSource → FrameSource
frame_view (frames.Held name) = FrameHeld name.now
frame_view (frames.Joint name) = FrameForJoint name.now
frame_view (frames.Demo n seed) = FrameMade (demo_frame_text n seed)

-- ---- the plan

-- A plan is that of the definition, unless memory ran out.
abbrev pub GivesPlan : Result Survey Misfit → Result Survey Stop → Type 0
GivesPlan (Ok plan) stage = stage ≡ Ok plan
GivesPlan (Err misfits.NoMemory) stage = Unit {0}
GivesPlan (Err misfit) stage = stage ≡ Err (Refused (status.Misfit misfit))

-- the plan is that of a design and a frame that serves it
pub record IsPlanned (plan : FramePlan) : Type 0 where
  pub frame : IsFrame plan.frame
  pub parts_are : plan.plan ≡ survey_plan (plan_view plan)
  pub drawable : CanBeDrawn plan.plan
  pub asked : AsksAsFrame plan.design plan.frame plan.plan
  pub draws : DrawsAsAsked plan.design plan.frame plan.plan

-- ---- what stands with a command

-- what stands with the command is in its ranges: the design of `quick`, and the number of units of `demo`
abbrev pub IsDemoSize : ℕ → Type 0
IsDemoSize n = (30 ≤ n) × (n ≤ 100000)

abbrev pub IsInRanges : code_source.DesignSource → Type 0
IsInRanges (sources.Held name) = Unit {0}
IsInRanges (sources.Joint name) = Unit {0}
IsInRanges (sources.Quick n) = IsDesign (quick_design n)
IsInRanges (sources.Demo n) = IsDemoSize n

abbrev pub IsFrameInRanges : code_frame.FrameSource → Type 0
IsFrameInRanges (frames.Held name) = Unit {0}
IsFrameInRanges (frames.Joint name) = Unit {0}
IsFrameInRanges (frames.Demo n seed) = IsDemoSize n
