use Rattle.std.proofs.Common.{◌≡◌, map}
use Rattle.std.specs.List.{range_with_len}
use Rattle.smp_twostage.specs.Selections.{seat_alone}
use Rattle.smp_twostage.proofs.whole.seats_alone.Given as goal

abbrev pub invariant-loop-row : goal.invariant-loop-row
invariant-loop-row l = l.seats.items ≡ map (seat_alone l.plan l.stratum) (range_with_len 0 l.row)
