use Rattle.std.proofs.Common.{Ok, Err, Result}
use Rattle.std.specs.Prelude.{OnOk}
use Rattle.smp_strata.proofs.requests.begun_strata.Goals as goal

always : {A E : Type 0} {P : Type 0} (made : Result A E) → P → OnOk made P
always (Ok x) p = p
always (Err e) p = tt

pub returns-in-Some-clause-allocated : goal.returns-in-Some-clause-allocated
returns-in-Some-clause-allocated c =
    let only = rw c.in-Some.is at c.requires.layout.design.prob in
    rw only.no_number (always c.strata_by_probs.result tt)
