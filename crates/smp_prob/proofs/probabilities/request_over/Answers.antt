use Rattle.std.proofs.Common.{refl}
use Rattle.smp_prob.proofs.GivenUnits.{few_numerators, positive, within}
use Rattle.smp_prob.proofs.probabilities.request_over.Goals as goal

pub shape_of-requires : goal.shape_of-requires
shape_of-requires c = rw (c.deref.ensures.value, c.in_ok-picked.ensures.free_sizes) (positive c.args.den c.args.numerators.now c.requires.some)

pub draws_over-r-requires-clause-few : goal.draws_over-r-requires-clause-few
draws_over-r-requires-clause-few c =
    rw (c.deref-2.ensures.value, c.in_ok-picked.ensures.free_sizes) (few_numerators c.args.den c.args.numerators.now c.requires.some c.requires.few)

pub draws_over-r-requires-clause-positive : goal.draws_over-r-requires-clause-positive
draws_over-r-requires-clause-positive c =
    rw (c.deref-2.ensures.value, c.in_ok-picked.ensures.free_sizes) (positive c.args.den c.args.numerators.now c.requires.some)

pub draws_over-r-requires-clause-within : goal.draws_over-r-requires-clause-within
draws_over-r-requires-clause-within c =
    rw (c.deref-2.ensures.value, c.in_ok-picked.ensures.free_sizes) (within c.args.den c.args.numerators.now c.requires.some)

pub draws_over-r-requires-clause-shape : goal.draws_over-r-requires-clause-shape
draws_over-r-requires-clause-shape c =
    rw (c.deref-3.ensures.value, c.deref-2.ensures.value, c.in_ok-shape.ensures, c.deref.ensures.value) refl

pub returns : goal.returns
returns c =
    rw (c.from_vec.ensures, c.from_vec-2.ensures, c.from_vec-3.ensures, c.draws_over-r.ensures.draws, c.draws_over-r.ensures.out_of, c.in_ok-shape.ensures, c.deref.ensures.value, c.deref-2.ensures.value, c.in_ok-picked.ensures.certain, c.in_ok-picked.ensures.free, c.in_ok-picked.ensures.free_sizes) refl
