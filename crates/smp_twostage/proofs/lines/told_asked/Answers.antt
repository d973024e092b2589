use Rattle.std.proofs.Common.{ap, ◌∙◌}
use Rattle.smp_frac.specs.LowestTerms.{lowest_terms}
use Rattle.smp_strata.specs.{Plans.{Plan}, Seats.{first_fraction}, declared.strata.Seat.{Seat}}
use Rattle.smp_twostage.specs.Kept.Stages.{told_seat}
use Rattle.smp_twostage.proofs.SeatsTold.{next_told}
use Rattle.smp_twostage.proofs.lines.told_asked.Goals as goal

pub loop-number-preserved : goal.loop-number-preserved
loop-number-preserved c =
    let whole = c.args.whole.now in
    let seat = c.told_seat.result in
    next_told (λ i. lowest_terms (first_fraction whole.plan.strata (told_seat whole c.args.section i).stratum (told_seat whole c.args.section i).unit))
    c.loop-number.number c.loop-number.asked.items c.push.new.self.items c.asked_at.result c.loop-number.invariant
    (c.asked_at.ensures ∙ ap (λ (p : Plan). lowest_terms (first_fraction p.strata seat.stratum seat.unit)) c.plan.ensures
    ∙ ap (λ (q : Seat). lowest_terms (first_fraction whole.plan.strata q.stratum q.unit)) c.told_seat.ensures.is)
    c.in_ok-push.ensures.items
