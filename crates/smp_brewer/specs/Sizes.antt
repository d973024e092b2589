-- Sizes of units, of which some are taken already. The size of a unit that is taken is set to 0; each other unit is open, and has a size.
use Rattle.std.specs.Prelude.{ℕ, Bool, nat_eq}

-- whether a size is that of a taken unit
abbrev pub marks_taken : ℕ → Bool
marks_taken size = nat_eq size 0
