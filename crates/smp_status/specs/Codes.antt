-- The exit codes, the classes of statuses, and the statuses of faults.
use Rattle.std.specs.Prelude.{ℕ}
use Rattle.smp_design.specs.declared.fault.DesignFault.{DesignFault}
use Rattle.smp_design.specs.declared.fault.DesignFault.TheVariants as design_fault
use Rattle.smp_frame.specs.declared.fault.FrameFault.{FrameFault}
use Rattle.smp_frame.specs.declared.fault.FrameFault.TheVariants as frame_fault
use Rattle.smp_tape.specs.declared.fault.TapeFault.{TapeFault}
use Rattle.smp_tape.specs.declared.fault.TapeFault.TheVariants as tape_fault
use Rattle.smp_strata.specs.declared.misfit.Misfit.{Misfit}
use Rattle.smp_strata.specs.declared.misfit.Misfit.TheVariants as misfits
use Rattle.smp_status.specs.declared.status.Status.{Status}
use Rattle.smp_status.specs.declared.status.Status.TheVariants as status

abbrev pub code_of : Status → ℕ
code_of status.Done = 0
code_of status.Usage = 2
code_of (status.Design fault) = 3
code_of (status.Frame fault) = 4
code_of (status.Misfit misfit) = 5
code_of (status.TapeText line) = 6
code_of (status.TapeShort taken) = 7
code_of (status.TapeValue place value bound) = 8
code_of (status.TapeLong left) = 9
code_of (status.Rejected bound) = 10
code_of (status.LogDiffers line) = 11
code_of status.ReadFault = 12
code_of status.WriteFault = 13
code_of status.NoMemory = 14
code_of (status.NoStratum number strata) = 16
code_of status.NoJoint = 17
code_of (status.JointLarge rows) = 18

-- how a call may end: all was done; the words are those of no command; it was refused; a read or a write failed; memory ran out
pub data Class : Type 0 where
  IsDone : Class
  IsUsage : Class
  IsRefusal : Class
  IsReadFault : Class
  IsWriteFault : Class
  IsNoMemory : Class

abbrev pub class_of : Status → Class
class_of status.Done = IsDone
class_of status.Usage = IsUsage
class_of status.ReadFault = IsReadFault
class_of status.WriteFault = IsWriteFault
class_of status.NoMemory = IsNoMemory
class_of refusal = IsRefusal

abbrev pub design_status : DesignFault → Status
design_status design_fault.NoMemory = status.NoMemory
design_status fault = status.Design fault

abbrev pub frame_status : FrameFault → Status
frame_status frame_fault.NoMemory = status.NoMemory
frame_status fault = status.Frame fault

abbrev pub misfit_status : Misfit → Status
misfit_status misfits.NoMemory = status.NoMemory
misfit_status misfit = status.Misfit misfit

abbrev pub tape_status : TapeFault → Status
tape_status (tape_fault.Line line) = status.TapeText line
tape_status tape_fault.NoMemory = status.NoMemory
