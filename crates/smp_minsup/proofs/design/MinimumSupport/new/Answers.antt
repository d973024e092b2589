use Rattle.std.proofs.Common.{length, refl}
use Rattle.smp_frac.proofs.Arithmetic.{same_refl}
use Rattle.smp_prob.specs.Shares.{shares_of}
use Rattle.smp_values.specs.Values.{value_at}
use Rattle.smp_values.proofs.Requests.{requested_values}
use Rattle.smp_minsup.specs.Support.{support_tree}
use Rattle.smp_minsup.proofs.Requests.{start_requested}
use Rattle.smp_minsup.proofs.design.MinimumSupport.new.Goals as goal

pub invariant_of-result : goal.invariant_of-result
invariant_of-result c = rw (c.in_ok-requested.ensures, c.draws.ensures) (start_requested c.args.request.now c.requires.request c.requires.whole)

pub returns-clause-requested : goal.returns-clause-requested
returns-clause-requested c =
    rw c.in_ok-requested.ensures
    (requested_values c.args.request.now c.requires.request (support_tree (length (shares_of c.args.request.now).numer)) (shares_of c.args.request.now) refl (λ k _. same_refl (value_at (shares_of c.args.request.now) k)))
