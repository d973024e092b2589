use Rattle.std.proofs.Common.{◌≡◌, map}
use Rattle.std.specs.List.{range_with_len}
use Rattle.smp_twostage.specs.Selections.{place_of, seat_of}
use Rattle.smp_twostage.proofs.whole.seats_of.Given as goal

abbrev pub invariant-loop-row : goal.invariant-loop-row
invariant-loop-row l = l.seats.items ≡ map (λ row. seat_of l.plan (place_of l.plan.strata row)) (range_with_len 0 l.row)
