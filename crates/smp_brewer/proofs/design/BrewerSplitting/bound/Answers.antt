use Rattle.std.proofs.Common.{◌≡◌, ◌∙◌, false, arith, sym}
use Rattle.smp_brewer.specs.{Brewer.{IsOffered, is_spent, units_of}, Laws.Answers.{bound_is}}
use Rattle.smp_brewer.proofs.Offered.{offer_bound}
use Rattle.smp_brewer.proofs.design.BrewerSplitting.bound.Goals as goal

pub returns-else-is_spent : goal.returns-else-is_spent
returns-else-is_spent c =
    let left : is_spent (units_of c.args.self.now) c.state.inside.offers ≡ false = sym c.is_spent.ensures ∙ c.if-is_spent.false in
    rw (← c.state.view_is, c.in-Offering.is) (c.total.ensures ∙ sym (offer_bound c.state.inside.offers (units_of c.args.self.now) left))

pub returns-in-Offered : goal.returns-in-Offered
returns-in-Offered c =
    let ok : IsOffered (units_of c.args.self.now) c.state.inside.offers c.in-Offered.unit = rw (← c.state.view_is, c.in-Offered.is) at c.requires.state in
    rw (← c.state.view_is, c.in-Offered.is)
    (c.bound.ensures ∙ sym (bound_is (units_of c.args.self.now) c.state.inside.offers ok.offers ok.going c.in-Offered.unit (omega (arith, ok.unit, ok.offers.count)) ok.has_size))
