use Rattle.std.proofs.Common.{ap, ◌∙◌}
use Rattle.smp_strata.specs.declared.strata.Seat.{Seat}
use Rattle.smp_twostage.specs.{Kept.Stages.{told_seat}, Starts.{covered_first}}
use Rattle.smp_twostage.proofs.SeatsTold.{next_told}
use Rattle.smp_twostage.proofs.lines.told_chosen.Goals as goal

pub loop-number-preserved : goal.loop-number-preserved
loop-number-preserved c =
    let whole = c.args.whole.now in
    let states = c.args.state.now.states in
    next_told (λ i. covered_first whole states (told_seat whole c.args.section i).stratum (told_seat whole c.args.section i).unit)
    c.loop-number.number c.loop-number.chosen.items c.push.new.self.items c.first.result c.loop-number.invariant
    (c.first.ensures ∙ ap (λ (q : Seat). covered_first whole states q.stratum q.unit) c.told_seat-seat.ensures.is)
    c.in_ok-push.ensures.items
