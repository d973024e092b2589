use Rattle.std.proofs.Common.{refl, arith}
use Rattle.smp_prob.proofs.{FallingOrders.{first_are_certain}, Picks.{places_below}}
use Rattle.smp_prob.proofs.RequestedUnits.{length-certain, few_free, free_positive, free_small, nothing_left, IsRequest-requested_of}
use Rattle.smp_prob.proofs.Positions.{is_ordered, apart_requested, asked_is, count-drawn}
use Rattle.smp_prob.specs.Requested.{is_certain, is_free}
use Rattle.smp_prob.proofs.proportional.requested.Goals as goal

pub request_of-requires-clause-few : goal.request_of-requires-clause-few
request_of-requires-clause-few c =
    rw c.in_ok-picked.ensures.free_sizes (omega (arith, c.requires.few, few_free c.args.n c.args.sizes.now))

pub request_of-requires-clause-small : goal.request_of-requires-clause-small
request_of-requires-clause-small c = rw c.in_ok-picked.ensures.free_sizes (free_small c.args.n c.args.sizes.now c.requires.small)

pub request_of-requires-clause-positive : goal.request_of-requires-clause-positive
request_of-requires-clause-positive c = rw c.in_ok-picked.ensures.free_sizes (free_positive c.args.n c.args.sizes.now)

pub request_of-requires-clause-within : goal.request_of-requires-clause-within
request_of-requires-clause-within c =
    rw (c.in_ok-picked.ensures.certain, length-certain c.args.n c.args.sizes.now) c.in_ok-picked.ensures.feasible.within

pub returns-clause-value : goal.returns-clause-value
returns-clause-value c =
    rw (c.in_ok-request_of.ensures, c.in_ok-picked.ensures.certain, c.in_ok-picked.ensures.free, c.in_ok-picked.ensures.free_sizes, length-certain c.args.n c.args.sizes.now) refl

pub returns-clause-request : goal.returns-clause-request
returns-clause-request c =
    rw (returns-clause-value c) (IsRequest-requested_of c.args.n c.args.sizes.now c.requires.few c.requires.small c.in_ok-picked.ensures.feasible)

pub returns-clause-ordered : goal.returns-clause-ordered
returns-clause-ordered c = rw (returns-clause-value c) (is_ordered c.args.n c.args.sizes.now)

pub returns-clause-apart : goal.returns-clause-apart
returns-clause-apart c = rw (returns-clause-value c) (apart_requested c.args.n c.args.sizes.now)

pub returns-clause-probabilities : goal.returns-clause-probabilities
returns-clause-probabilities c =
    rw (returns-clause-value c) (λ unit here. asked_is c.args.n c.args.sizes.now unit here
    (IsRequest-requested_of c.args.n c.args.sizes.now c.requires.few c.requires.small c.in_ok-picked.ensures.feasible) c.in_ok-picked.ensures.feasible)

pub returns-clause-drawn : goal.returns-clause-drawn
returns-clause-drawn c = rw (returns-clause-value c) (count-drawn c.args.n c.args.sizes.now c.in_ok-picked.ensures.feasible)

pub returns-clause-none_free : goal.returns-clause-none_free
returns-clause-none_free c =
    rw (returns-clause-value c) (nothing_left c.args.n c.args.sizes.now (omega (arith, c.count_positive-positive.ensures, c.if-n-positive.false)))

pub returns-clause-first : goal.returns-clause-first
returns-clause-first c =
    λ zs. first_are_certain c.args.n c.args.sizes.now zs (omega (arith, c.count_positive-positive.ensures, c.if-n-positive.false))

pub returns-clause-below : goal.returns-clause-below
returns-clause-below c =
    rw (returns-clause-value c) (record { certain = places_below (is_certain c.args.n c.args.sizes.now) c.args.sizes.now; free = places_below (is_free c.args.n c.args.sizes.now) c.args.sizes.now })
