use Rattle.std.proofs.{Common.{take, arith}, lemmas.List.{length-map}}
use Rattle.smp_kernel.proofs.Searching.{searching_all, searching_more, searching_wide}
use Rattle.smp_kernel.proofs.prefixes.Prefixes.search.Goals as goal

pub loop-place-preserved : goal.loop-place-preserved
loop-place-preserved g c =
    let a = rw (c.in-Ok-Basis.is, c.in-Ok-Basis.field-0-is) at c.add.ensures in
    searching_more c.loop-place.invariant (omega (arith, c.loop-place-test.true)) c.front.result c.front.ensures.is c.add.new.self a.0 a.1

pub returns-in-Ok-Wide-clause-is : goal.returns-in-Ok-Wide-clause-is
returns-in-Ok-Wide-clause-is g c =
    let a = rw (c.in-Ok-Wide.is, c.in-Ok-Wide.field-0-is) at c.add.ensures in
    searching_wide c.loop-place.invariant (omega (arith, c.loop-place-test.true)) c.front.result c.front.ensures.is a.0

pub returns-clause-is : goal.returns-clause-is
returns-clause-is g c = searching_all g.row.Q c.args.columns.now c.loop-place.place c.loop-place.self c.loop-place.invariant
    (omega (arith, c.loop-place-test.false, c.loop-place.invariant.enter.within, length-map c.args.columns.now (take g.row.Q)))
