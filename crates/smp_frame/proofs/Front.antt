-- What was read so far, and then what is read behind it.
use Rattle.std.proofs.Common.{List, ◌++◌, Result, Ok, Err}
use Rattle.smp_frame.specs.declared.fault.FrameFault.{FrameFault}

abbrev pub with_front : {A : Type 0} → List A → Result (List A) FrameFault → Result (List A) FrameFault
with_front front (Ok read) = Ok (front ++ read)
with_front front (Err fault) = Err fault
