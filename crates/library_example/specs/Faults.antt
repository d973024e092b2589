-- The faults of the libraries as those of a draw.
use Rattle.smp_prob.specs.declared.faults.ProbFault.{ProbFault}
use Rattle.smp_prob.specs.declared.faults.ProbFault.TheVariants as requests
use Rattle.smp_split.specs.declared.walking.WalkFault.{WalkFault}
use Rattle.smp_split.specs.declared.walking.WalkFault.TheVariants as walks
use Rattle.library_example.specs.declared.fault.Fault.{Fault}
use Rattle.library_example.specs.declared.fault.Fault.TheVariants as faults

abbrev pub of_request : ProbFault → Fault
of_request (requests.TooMany positive) = faults.TooMany
of_request requests.NoMemory = faults.NoMemory

abbrev pub of_walk : WalkFault → Fault
of_walk (walks.Draw fault) = faults.Draw fault
of_walk walks.NoMemory = faults.NoMemory
