use Rattle.std.proofs.{Common.{◌≡◌, ◌≢◌, false, arith, refl}, lemmas.Bool.{eqb-false}}
use Rattle.smp_brewer.specs.{Brewer.{offering, IsOffers, IsOffered, units_of, brewing_tree}, Kept.States.{IsReady}}
use Rattle.smp_brewer.specs.Laws.Splits.{spent_belongs}
use Rattle.smp_brewer.proofs.design.BrewerSplitting.advance.Goals as goal

pub set-requires : goal.set-requires
set-requires c =
    let ok : IsOffers (units_of c.args.self.now) c.state.inside.offers = rw (← c.state.view_is, c.in-Offering.is) at c.requires.state in
    let going : (brewing_tree (units_of c.args.self.now)).done (offering c.state.inside.offers) ≡ false = rw (← c.state.view_is, c.in-Offering.is) at c.requires.going in
    let some : c.state.inside.offers.draws ≢ 0 = eqb-false c.state.inside.offers.draws 0 going in
    let is = spent_belongs (units_of c.args.self.now) c.state.inside.offers ok (omega (arith, some)) in
    rw c.fill.ensures (record { count = refl; positive = is.positive; narrow = is.narrow; each = is.each })

pub answer-requires-clause-counted : goal.answer-requires-clause-counted
answer-requires-clause-counted c =
    let ok : IsOffered (units_of c.args.self.now) c.state.inside.offers c.in-Offered.unit = rw (← c.state.view_is, c.in-Offered.is) at c.requires.state in
    let ready : IsReady c.state.inside.offers c.state.inside.room = rw c.in-Offered.is at c.state.invariant in
    omega (arith, ok.left, ok.offers.count, ready.few)
