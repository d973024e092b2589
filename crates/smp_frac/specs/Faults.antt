-- Steps one after another, up to the first fault.
use Rattle.std.specs.Prelude.{Bool, true, Option, Some, None, Result, Ok, Err}

infixl 10 ◌>>=◌
-- one step, and then the next one, if the first has no fault
abbrev pub ◌>>=◌ : {A B E : Type 0} → Result A E → (A → Result B E) → Result B E
(Ok x) >>= next = next x
(Err fault) >>= next = Err fault

-- a fault, unless this holds
abbrev pub guard : {E : Type 0} → Bool → E → Result (Unit {0}) E
guard true fault = Ok tt
guard _ fault = Err fault

-- what there is, or else a fault
abbrev pub or_fault : {A E : Type 0} → E → Option A → Result A E
or_fault fault None = Err fault
or_fault fault (Some x) = Ok x
