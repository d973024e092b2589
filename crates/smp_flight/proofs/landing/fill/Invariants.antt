use Rattle.std.proofs.Common.{◌≡◌, ◌<◌, ℕ, get_or, length}
use Rattle.smp_flight.proofs.landing.fill.Given as goal

-- the values of the units so far
abbrev pub invariant-loop-unit : goal.invariant-loop-unit
invariant-loop-unit l = (length l.values.numer ≡ length l.flight.flight.values.numer) × ((k : ℕ) → k < l.unit → get_or l.values.numer k 0 ≡ get_or l.flight.flight.values.numer k 0)
