use Rattle.std.proofs.Common.{◌≡◌, ◌<◌, ℕ, length, get_or}
use Rattle.smp_strata.specs.{declared.strata.Seat.{Seat}, Kept.Built.{seat_by}}
use Rattle.smp_strata.proofs.building.seats_of.Given as goal

abbrev pub invariant-loop-row : goal.invariant-loop-row
invariant-loop-row l = record {
  length : length l.seats.items ≡ l.row;
  each : (row : ℕ) (d : Seat) → row < l.row
      → get_or l.seats.items row d ≡ seat_by l.strata.homes.items l.strata.places.items l.clusters.homes l.clusters.places row;
}
