-- Which fault of a reader of tapes is want of memory.
use Rattle.std.specs.Prelude.{Bool, true, false}
use Rattle.smp_tape.specs.declared.fault.TapeFault.{TapeFault}
use Rattle.smp_tape.specs.declared.fault.TapeFault.TheVariants.{NoMemory}

abbrev pub is_memory : TapeFault → Bool
is_memory NoMemory = true
is_memory other = false
