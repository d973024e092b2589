-- The faults of a reading of a design.
use Rattle.std.specs.Prelude.{ℕ, Bool, true, false, List, Option, Some, None, Result, Ok, Err}
use Rattle.smp_frac.specs.Faults.{or_fault}
use Rattle.smp_design.specs.declared.fault.DesignFault.{DesignFault}
use Rattle.smp_design.specs.declared.fault.DesignFault.TheVariants.{NoMemory, BadValue}

-- which of them is want of memory
abbrev pub is_memory : DesignFault → Bool
is_memory NoMemory = true
is_memory other = false

-- a fault where something was found
abbrev pub none_found : {A : Type 0} → (A → DesignFault) → Option A → Result (Unit {0}) DesignFault
none_found fault None = Ok tt
none_found fault (Some x) = Err (fault x)

-- the value of a key, where it is a good one
abbrev pub good : {A : Type 0} → List ℕ → Option A → Result A DesignFault
good key value = or_fault (BadValue key) value
