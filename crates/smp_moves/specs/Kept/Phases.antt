-- A state by its phase.
use Rattle.std.specs.Prelude.{ℕ}
use Rattle.smp_moves.specs.Cubes.{Balancing, Flight, flying, pairing}
use Rattle.smp_moves.specs.declared.phases.Phase.{Phase}
use Rattle.smp_moves.specs.declared.phases.Phase.TheVariants.{Flying, Pairing}

-- a state by its phase, its flight, the values of its pivotal steps, and how many units were left
abbrev pub balancing_of : {Values Fixed : Type 0} → Phase → Flight Values Fixed → Values → ℕ → Balancing Values Fixed
balancing_of Flying f values left = flying f left
balancing_of Pairing f values left = pairing values left
