use Rattle.std.proofs.{Common.{arith, length}, lemmas.List.{length-map}, lemmas.List.Sums.{get_or-le-sum_by, sum-map}}
use Rattle.smp_strata.proofs.sizes.sample_sizes.Goals as goal

pub lengths-requires : goal.lengths-requires
lengths-requires c = λ k d here. omega (arith, get_or-le-sum_by length c.args.members.now k d here, sum-map length c.args.members.now, c.requires.total)

pub allocation-requires-clause-few : goal.allocation-requires-clause-few
allocation-requires-clause-few c = rw (c.deref.ensures.value, c.in_ok-counts-in-Some.ensures, length-map c.args.members.now length) (omega (arith, c.requires.few))

pub allocation-requires-clause-small : goal.allocation-requires-clause-small
allocation-requires-clause-small c = (let size = rw c.in-Some.is at c.requires.design.size in omega (arith, size.1))

pub allocation-requires-clause-total : goal.allocation-requires-clause-total
allocation-requires-clause-total c = rw (c.deref.ensures.value, c.in_ok-counts-in-Some.ensures) (omega (arith, c.requires.total))

pub allocation-requires-clause-some : goal.allocation-requires-clause-some
allocation-requires-clause-some c = rw (c.deref.ensures.value, c.in_ok-counts-in-Some.ensures) c.requires.some

pub quotas_of-requires : goal.quotas_of-requires
quotas_of-requires c = rw c.as_slice.ensures c.requires.design.ascending
