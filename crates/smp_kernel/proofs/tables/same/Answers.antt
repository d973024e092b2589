use Rattle.std.proofs.{Common.{pos, arith}, lemmas.List.{ext_get_or}}
use Rattle.smp_kernel.proofs.tables.same.Goals as goal

pub returns : goal.returns
returns g c = λ all. ext_get_or (pos 0) c.args.a.now c.args.b.now (omega (arith, c.told-a, c.told-b)) (λ k l. c.loop-i.invariant k (omega (arith, l, c.told-a)))
