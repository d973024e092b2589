use Rattle.std.proofs.Common.{◌∙◌, ap, arith}
use Rattle.std.specs.Prelude.{sum}
use Rattle.smp_places.proofs.Summing.{before_more}
use Rattle.smp_places.proofs.amounts.Amounts.find.Goals as goal

pub find-requires-clause-narrow : goal.find-requires-clause-narrow
find-requires-clause-narrow c =
    omega (arith, ap sum c.as_slice.ensures.value, ap sum c.as_slice-2.ensures.value, c.self.invariant.narrow)

pub returns-clause-passes : goal.returns-clause-passes
returns-clause-passes c =
    let is = c.as_slice.ensures.value ∙ c.self.view_is in
    let passes = rw is at c.find.ensures.passes in
    omega (arith, before_more c.args.self.now c.find.result, passes)
