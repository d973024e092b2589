use Rattle.std.proofs.Common.{◌≡◌, map}
use Rattle.std.specs.List.{range_with_len}
use Rattle.smp_twostage.specs.Selections.{seat_together}
use Rattle.smp_twostage.proofs.whole.seats_together.Given as goal

abbrev pub invariant-loop-row : goal.invariant-loop-row
invariant-loop-row l = l.seats.items ≡ map (seat_together l.plan) (range_with_len 0 l.row)
