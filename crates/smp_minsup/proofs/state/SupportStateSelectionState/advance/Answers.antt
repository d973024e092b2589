use Rattle.std.proofs.Common.{◌≡◌, ℕ, ◌-◌, ◌^◌, ◌<◌, List, length, get_or, arith, sym, subst, ap, ◌∙◌}
use Rattle.smp_minsup.specs.{Support.{lambda, settled, lowered}, Laws.Splits.{lambda_less}}
use Rattle.smp_minsup.specs.Kept.Ranked.{RankedUnits, large_count, lowered_by, shares_over, shares_kept}
use Rattle.smp_minsup.proofs.States.{opened, lower_within, lowered_paired, lowered_is, lowered_narrow, cut_again, settled_is, picked_settled, picked_lowered}
use Rattle.smp_minsup.proofs.state.SupportStateSelectionState.advance.Goals as goal

pub lambda-lambda-requires-clause-cut : goal.lambda-lambda-requires-clause-cut
lambda-lambda-requires-clause-cut c = let o = opened c.self.inside.settled c.self.inside.den c.self.inside.ranked c.args.self.now c.self.view_is c.self.invariant c.requires.state c.requires.going in o.cut

pub lambda-lambda-requires-clause-state : goal.lambda-lambda-requires-clause-state
lambda-lambda-requires-clause-state c = let o = opened c.self.inside.settled c.self.inside.den c.self.inside.ranked c.args.self.now c.self.view_is c.self.invariant c.requires.state c.requires.going in o.state

pub lower-requires-clause-low : goal.lower-requires-clause-low
lower-requires-clause-low c =
    let o = opened c.self.inside.settled c.self.inside.den c.self.inside.ranked c.args.self.now c.self.view_is c.self.invariant c.requires.state c.requires.going in
    omega (arith, c.lambda-lambda.ensures, lambda_less (length c.self.inside.ranked.numer) (shares_over c.self.inside.den c.self.inside.ranked) o.state o.going, o.cut.low)

pub lower-requires-clause-above : goal.lower-requires-clause-above
lower-requires-clause-above c =
    let o = opened c.self.inside.settled c.self.inside.den c.self.inside.ranked c.args.self.now c.self.view_is c.self.invariant c.requires.state c.requires.going in
    rw c.lambda-lambda.ensures (lower_within c.self.inside.den c.self.inside.ranked o.cut (length c.self.inside.ranked.numer) o.state)

pub part-requires-clause-paired : goal.part-requires-clause-paired
part-requires-clause-paired c =
    let o = opened c.self.inside.settled c.self.inside.den c.self.inside.ranked c.args.self.now c.self.view_is c.self.invariant c.requires.state c.requires.going in
    subst (λ (w : RankedUnits). length w.large ≡ length w.numer) (ap (lowered_by c.self.inside.ranked) (sym c.lambda-lambda.ensures) ∙ sym c.lower.ensures)
    (lowered_paired c.self.inside.den c.self.inside.ranked o.cut (length c.self.inside.ranked.numer) o.state)

pub part-requires-clause-narrow : goal.part-requires-clause-narrow
part-requires-clause-narrow c =
    let o = opened c.self.inside.settled c.self.inside.den c.self.inside.ranked c.args.self.now c.self.view_is c.self.invariant c.requires.state c.requires.going in
    subst (λ (w : RankedUnits). (unit : ℕ) → get_or w.numer unit 0 < 2 ^ 126) (ap (lowered_by c.self.inside.ranked) (sym c.lambda-lambda.ensures) ∙ sym c.lower.ensures)
    (lowered_narrow c.self.inside.den c.self.inside.ranked o.cut (length c.self.inside.ranked.numer) o.state o.going)

pub invariant_of-self-else-draw-lambda : goal.invariant_of-self-else-draw-lambda
invariant_of-self-else-draw-lambda c _ =
    let o = opened c.self.inside.settled c.self.inside.den c.self.inside.ranked c.args.self.now c.self.view_is c.self.invariant c.requires.state c.requires.going in
    let now : c.lower.new.self ≡ lowered_by c.self.inside.ranked (lambda (shares_over c.self.inside.den c.self.inside.ranked)) = c.lower.ensures ∙ ap (lowered_by c.self.inside.ranked) c.lambda-lambda.ensures in
    rw c.lambda-lambda.ensures (cut_again c.self.inside.den c.self.inside.ranked o.cut (length c.self.inside.ranked.numer) o.state o.going c.part.new.self
    (c.part.ensures.numer ∙ ap (λ (w : RankedUnits). w.numer) now) (c.part.ensures.lowered ∙ ap (λ (w : RankedUnits). w.lowered) now) c.part.ensures.paired (c.part.ensures.count ∙ ap large_count now) c.part.ensures.parted)

pub returns-then-draw-lambda : goal.returns-then-draw-lambda
returns-then-draw-lambda c =
    let o = opened c.self.inside.settled c.self.inside.den c.self.inside.ranked c.args.self.now c.self.view_is c.self.invariant c.requires.state c.requires.going in
    let lambda_same : c.lambda-lambda.result ≡ lambda c.args.self.now = c.lambda-lambda.ensures ∙ ap lambda (sym o.same) in
    settled_is c.self.inside.den c.self.inside.ranked o.cut ∙ ap settled (sym o.same) ∙ picked_settled c.args.self.now c.args.draw (omega (arith, lambda_same, c.if-draw-lambda.true))

pub returns-else-draw-lambda : goal.returns-else-draw-lambda
returns-else-draw-lambda c =
    let o = opened c.self.inside.settled c.self.inside.den c.self.inside.ranked c.args.self.now c.self.view_is c.self.invariant c.requires.state c.requires.going in
    let lambda_same : c.lambda-lambda.result ≡ lambda c.args.self.now = c.lambda-lambda.ensures ∙ ap lambda (sym o.same) in
    let now : c.lower.new.self ≡ lowered_by c.self.inside.ranked (lambda (shares_over c.self.inside.den c.self.inside.ranked)) = c.lower.ensures ∙ ap (lowered_by c.self.inside.ranked) c.lambda-lambda.ensures in
    let numer_is : c.part.new.self.numer ≡ (lowered (shares_over c.self.inside.den c.self.inside.ranked)).numer = c.part.ensures.numer ∙ ap (λ (w : RankedUnits). w.numer) now ∙ lowered_is c.self.inside.den c.self.inside.ranked o.cut (length c.self.inside.ranked.numer) o.state o.going in
    ap (λ b. shares_kept b (c.self.inside.den - c.lambda-lambda.result) c.part.new.self) o.is_open
    ∙ ap (λ (numer : List ℕ). record { numer = numer; den = c.self.inside.den - c.lambda-lambda.result }) numer_is
    ∙ ap (λ n. record { numer = (lowered (shares_over c.self.inside.den c.self.inside.ranked)).numer; den = c.self.inside.den - n }) c.lambda-lambda.ensures
    ∙ ap lowered (sym o.same)
    ∙ picked_lowered c.args.self.now c.args.draw (omega (arith, lambda_same, c.if-draw-lambda.false)) c.requires.within
