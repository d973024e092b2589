use Rattle.std.proofs.Common.{◌≡◌, true, sym, ap, subst, ◌∙◌}
use Rattle.smp_design.specs.{declared.procedure.Procedure.{Procedure}, Words.{draws_together}}
use Rattle.smp_strata.specs.{Plans.{Plan}, Seats.{IsSeat}, declared.strata.Seat.{Seat}}
use Rattle.smp_twostage.specs.{Kept.Stages.{IsThere}, Selections.{covers, is_together}}
use Rattle.smp_twostage.proofs.SeatsTold.{row_told, seat_here}
use Rattle.smp_twostage.proofs.lines.told_seat.Goals as goal

pub returns-then-draws_together-clause-is : goal.returns-then-draws_together-clause-is
returns-then-draws_together-clause-is c =
    let whole = c.args.whole.now in
    let yes : is_together whole ≡ true =
    ap (λ (p : Plan). draws_together p.procedure.method) (sym c.plan-plan.ensures) ∙ ap (λ (way : Procedure). draws_together way.method) (sym c.procedure.ensures) ∙ sym c.draws_together.ensures ∙ c.if-draws_together.true in
    let once : (q : Seat) → IsSeat whole.plan.strata c.args.number q → q ≡ c.seat.result =
    subst (λ (p : Plan). (q : Seat) → IsSeat p.strata c.args.number q → q ≡ c.seat.result) c.plan-plan.ensures c.seat.ensures.once in
    row_told whole c.args.section c.requires.drawable c.requires.within c.requires.covered yes c.args.number c.seat.result c.requires.number once

pub returns-then-draws_together-clause-there : goal.returns-then-draws_together-clause-there
returns-then-draws_together-clause-there c =
    let whole = c.args.whole.now in
    subst (IsThere whole.plan) (sym (returns-then-draws_together-clause-is c))
    (seat_here whole c.args.section c.requires.drawable c.requires.within c.requires.covered c.args.number c.requires.number).0

pub returns-then-draws_together-clause-covered : goal.returns-then-draws_together-clause-covered
returns-then-draws_together-clause-covered c =
    let whole = c.args.whole.now in
    subst (λ (p : Seat). covers whole p.stratum ≡ true) (sym (returns-then-draws_together-clause-is c))
    (seat_here whole c.args.section c.requires.drawable c.requires.within c.requires.covered c.args.number c.requires.number).1
