use Rattle.std.proofs.{Common.{◌≤◌, ◌∙◌, ap, arith, get_or}, lemmas.List.{length-map}, lemmas.List.Elements.{All-map}}
use Rattle.std.specs.Prelude.{sum}
use Rattle.smp_prob.specs.Given.{expected_size, numerator_over}
use Rattle.smp_prob.proofs.{Expected.{sum_expected, whole_expected}, Numerators.{numerator_within}}
use Rattle.smp_prob.proofs.GivenUnits.{given_is, IsRequest-given_of, IsRising-given_of, AreApart-given_of, AreBelow-given_of, asked_given, size_given, drawn_given, whole_given, nothing_free}
use Rattle.smp_prob.proofs.Multiples.{common_multiple_positive, IsLeastMultipleOf-common_multiple}
use Rattle.smp_prob.proofs.probabilities.given.Goals as goal

pub returns-in_default-clause-multiple : goal.returns-in_default-clause-multiple
returns-in_default-clause-multiple c = IsLeastMultipleOf-common_multiple c.args.probs.now

pub returns-in_err-numerators-clause-multiple : goal.returns-in_err-numerators-clause-multiple
returns-in_err-numerators-clause-multiple c = IsLeastMultipleOf-common_multiple c.args.probs.now

pub returns-in_err-request-clause-multiple : goal.returns-in_err-request-clause-multiple
returns-in_err-request-clause-multiple c = IsLeastMultipleOf-common_multiple c.args.probs.now

pub returns-clause-multiple : goal.returns-clause-multiple
returns-clause-multiple c = IsLeastMultipleOf-common_multiple c.args.probs.now

pub request_over-requires-clause-some : goal.request_over-requires-clause-some
request_over-requires-clause-some c = rw c.in-Some.ensures.1 (common_multiple_positive c.args.probs.now)

pub request_over-requires-clause-few : goal.request_over-requires-clause-few
request_over-requires-clause-few c =
    rw (c.deref-2.ensures.value, c.in_ok-numerators.ensures) (omega (arith, c.requires.few, length-map c.args.probs.now (numerator_over c.in-Some.multiple)))

pub returns-clause-value : goal.returns-clause-value
returns-clause-value c =
    rw (c.in_ok-request.ensures, c.deref-2.ensures.value, c.in_ok-numerators.ensures, c.in-Some.ensures.1) (given_is c.args.probs.now c.requires)

pub returns-clause-request : goal.returns-clause-request
returns-clause-request c = rw (returns-clause-value c) (IsRequest-given_of c.args.probs.now c.requires c.in-Some.ensures.0)

pub returns-clause-probabilities : goal.returns-clause-probabilities
returns-clause-probabilities c = rw (returns-clause-value c) (asked_given c.args.probs.now c.requires c.in-Some.ensures.0)

pub returns-clause-size : goal.returns-clause-size
returns-clause-size c = rw (returns-clause-value c) (size_given c.args.probs.now c.requires)

pub returns-clause-drawn : goal.returns-clause-drawn
returns-clause-drawn c = rw (returns-clause-value c) (drawn_given c.args.probs.now c.requires)

pub returns-clause-whole : goal.returns-clause-whole
returns-clause-whole c = rw (returns-clause-value c) (whole_given c.args.probs.now c.requires)

pub returns-clause-ordered : goal.returns-clause-ordered
returns-clause-ordered c = rw (returns-clause-value c) (IsRising-given_of c.args.probs.now c.requires)

pub returns-clause-apart : goal.returns-clause-apart
returns-clause-apart c = rw (returns-clause-value c) (AreApart-given_of c.args.probs.now c.requires)

pub returns-clause-below : goal.returns-clause-below
returns-clause-below c = rw (returns-clause-value c) (AreBelow-given_of c.args.probs.now c.requires)

pub returns-clause-none_free : goal.returns-clause-none_free
returns-clause-none_free c = rw (returns-clause-value c) (nothing_free c.args.probs.now c.requires)

pub sum_of-requires-clause-small : goal.sum_of-requires-clause-small
sum_of-requires-clause-small c =
    let within = All-map (λ z. z ≤ c.in-Some.multiple) (numerator_over c.in-Some.multiple) c.args.probs.now
    (λ j d inside. numerator_within c.in-Some.multiple (get_or c.args.probs.now j d) (c.requires.at_most_one j d inside)) in
    rw (c.deref.ensures.value, c.in_ok-numerators.ensures) (λ i here. omega (arith, within i 0 here, c.in-Some.ensures.0, c.in-Some.ensures.1))

pub over-expected-requires : goal.over-expected-requires
over-expected-requires c = rw c.in-Some.ensures.1 (common_multiple_positive c.args.probs.now)

pub returns-clause-expected : goal.returns-clause-expected
returns-clause-expected c =
    sum_expected c.args.probs.now c.over-expected.result c.in-Some.multiple c.sum_of.result c.in-Some.ensures.1
    (c.sum_of.ensures ∙ ap sum (c.deref.ensures.value ∙ c.in_ok-numerators.ensures)) c.over-expected.ensures.value

pub returns-clause-whole_expected : goal.returns-clause-whole_expected
returns-clause-whole_expected c = whole_expected (expected_size c.args.probs.now) c.over-expected.result (returns-clause-expected c)
