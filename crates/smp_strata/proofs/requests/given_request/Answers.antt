use Rattle.std.proofs.Common.{refl}
use Rattle.smp_strata.proofs.{FirstRequests.{sum_is}, GivenRequests.{common, too_large}}
use Rattle.smp_strata.proofs.requests.given_request.Goals as goal

pub returns-in-Ok-clause-misfit : goal.returns-in-Ok-clause-misfit
returns-in-Ok-clause-misfit c = common c.args.probs.now c.args.name.now _ refl c.in-Ok.ensures.denominator

pub returns-in-Ok-clause-request : goal.returns-in-Ok-clause-request
returns-in-Ok-clause-request c = record {
  value = c.in-Ok.ensures.value;
  over = record {
    sound = c.in-Ok.ensures.request;
    rising = c.in-Ok.ensures.ordered;
    apart = c.in-Ok.ensures.apart;
    certain = c.in-Ok.ensures.below.certain;
    free = c.in-Ok.ensures.below.free;
  };
  asks = c.in-Ok.ensures.probabilities;
  draws = λ n same. record {
    whole = record { total = c.in-Ok.ensures.whole.0 (n, same); none_free = λ none. (c.in-Ok.ensures.none_free none).0 };
    fills = c.in-Ok.ensures.drawn n same;
  };
}

pub returns-in-Ok-clause-expected : goal.returns-in-Ok-clause-expected
returns-in-Ok-clause-expected c = sum_is c.args.probs.now c.in-Ok.given.expected c.in-Ok.ensures.expected

pub returns-in_ok-copy-in-Err-Denominator-clause-misfit : goal.returns-in_ok-copy-in-Err-Denominator-clause-misfit
returns-in_ok-copy-in-Err-Denominator-clause-misfit c =
    rw (too_large c.args.probs.now _ c.in-Err-Denominator.field-0-is c.in-Err-Denominator.ensures.within, c.in_ok-copy-in-Err-Denominator.ensures) refl
