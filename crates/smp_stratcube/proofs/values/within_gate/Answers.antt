use Rattle.std.proofs.Common.{◌≤◌}
use Rattle.smp_stratcube.proofs.Gated.{gated_is}
use Rattle.smp_stratcube.proofs.values.within_gate.Goals as goal

pub returns-in-Some-clause-is : goal.returns-in-Some-clause-is
returns-in-Some-clause-is c =
    let some : 1 ≤ c.in-Some.multiple = rw c.in-Some.is at c.requires.some in
    rw c.in-Some.is (gated_is c.lcm_within.result c.in-Some.multiple c.args.other some c.requires.other c.lcm_within.ensures.least c.lcm_within.ensures.within c.lcm_within.ensures.passes)
