use Rattle.std.proofs.{Common.{[], ◌∷◌, map, ap, ◌∙◌}, lemmas.List.{map-append}}
use Rattle.smp_strata.specs.{Plans.{Plan}, declared.strata.Seat.{Seat}}
use Rattle.smp_twostage.specs.{Kept.Stages.{told_seat}, Lines.{seat_values}}
use Rattle.smp_twostage.proofs.SeatsTold.{next_told}
use Rattle.smp_twostage.proofs.lines.told_values.Goals as goal

pub loop-number-preserved : goal.loop-number-preserved
loop-number-preserved c =
    let whole = c.args.whole.now in
    next_told (λ i. seat_values whole.plan (told_seat whole c.args.section i))
    c.loop-number.number (map (λ v. v.now) c.loop-number.values.items) (map (λ v. v.now) c.push.new.self.items) c.values_at.result.now c.loop-number.invariant
    (c.values_at.ensures ∙ ap (λ (p : Plan). seat_values p c.told_seat.result) c.plan.ensures ∙ ap (λ (q : Seat). seat_values whole.plan q) c.told_seat.ensures.is)
    (ap (map (λ v. v.now)) c.in_ok-push.ensures.items ∙ map-append (λ v. v.now) c.loop-number.values.items (c.values_at.result ∷ []))
