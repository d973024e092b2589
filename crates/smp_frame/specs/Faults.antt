-- Which fault of a reading of a frame is want of memory.
use Rattle.std.specs.Prelude.{Bool, true, false}
use Rattle.smp_frame.specs.declared.fault.FrameFault.{FrameFault}
use Rattle.smp_frame.specs.declared.fault.FrameFault.TheVariants.{NoMemory}

abbrev pub is_memory : FrameFault → Bool
is_memory NoMemory = true
is_memory other = false
