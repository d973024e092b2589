use Rattle.smp_frac.proofs.Arithmetic.{same_refl}
use Rattle.std.proofs.Common.{◌^◌, refl, length}
use Rattle.smp_prob.specs.Shares.{shares_of}
use Rattle.smp_values.specs.{InOrder.{places_tree}, Values.{value_at}}
use Rattle.smp_values.proofs.Requests.{shares_in_range, few_shares, requested_in_order, wider}
use Rattle.smp_values.proofs.ordered.OrderedDesign.new.Goals as goal

pub invariant_of-result : goal.invariant_of-result
invariant_of-result g c =
    let rule = g.S.PlaceSteps.rule in
    let units = length (shares_of c.args.request.now).numer in
    rw c.in_ok-requested.ensures
    (few_shares c.args.request.now c.requires, wider units (2 ^ 80) rule.most (shares_of c.args.request.now) g.S.PlaceSteps.law.wide (shares_in_range c.args.request.now c.requires))

pub returns-clause-requested : goal.returns-clause-requested
returns-clause-requested g c =
    rw c.in_ok-requested.ensures
    (requested_in_order c.args.request.now c.requires (places_tree g.S.PlaceSteps.rule (length (shares_of c.args.request.now).numer)) c.args.order refl (λ k. same_refl (value_at (shares_of c.args.request.now) k)))
