use Rattle.std.proofs.Common.{◌∙◌, ap, length}
use Rattle.smp_strata.proofs.Asking.{long_homes}
use Rattle.smp_strata.proofs.acceptance.accept.Goals as goal

pub strata_of-requires-clause-paired : goal.strata_of-requires-clause-paired
strata_of-requires-clause-paired c = ap length c.in_ok-clusters.ensures.homes ∙ long_homes c.args.design.now.second c.units-units.result.now

pub returns-clause-asked : goal.returns-clause-asked
returns-clause-asked c = rw c.units-units.ensures at c.planned.ensures.asked

pub returns-clause-drawn : goal.returns-clause-drawn
returns-clause-drawn c = rw c.units-units.ensures at c.planned.ensures.drawn

pub returns-clause-allocated : goal.returns-clause-allocated
returns-clause-allocated c = rw c.units-units.ensures at c.planned.ensures.allocated
