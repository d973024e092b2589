use Rattle.std.proofs.{Common.{Err, ap, refl}, lemmas.Bool.{le-ltb, lt-ltb}}
use Rattle.smp_prob.specs.Requested.{positive_units}
use Rattle.smp_strata.proofs.SizedRequests.{enough, few, sized}
use Rattle.smp_strata.proofs.requests.sized_request.Goals as goal

pub returns-in-Ok-clause-misfit : goal.returns-in-Ok-clause-misfit
returns-in-Ok-clause-misfit c =
    rw (le-ltb (positive_units c.args.sizes.now) c.args.n (enough c.args.sizes.now c.args.n _ refl c.in-Ok.ensures.too_many)) refl

pub returns-in-Ok-clause-request : goal.returns-in-Ok-clause-request
returns-in-Ok-clause-request c =
    sized c.args.sizes.now c.args.n c.in-Ok.request c.in-Ok.ensures.value c.in-Ok.ensures.request c.in-Ok.ensures.ordered c.in-Ok.ensures.apart
    c.in-Ok.ensures.below c.in-Ok.ensures.probabilities c.in-Ok.ensures.drawn c.in-Ok.ensures.none_free

pub returns-in_ok-copy-in-Err-TooMany-clause-misfit : goal.returns-in_ok-copy-in-Err-TooMany-clause-misfit
returns-in_ok-copy-in-Err-TooMany-clause-misfit c =
    let short = few c.args.sizes.now c.args.n _ c.in-Err-TooMany.positive (ap Err c.in-Err-TooMany.field-0-is) c.in-Err-TooMany.ensures.enough c.in-Err-TooMany.ensures.too_many in
    rw (lt-ltb (positive_units c.args.sizes.now) c.args.n short.0, short.1, c.in_ok-copy-in-Err-TooMany.ensures) refl
