use Rattle.std.proofs.Common.{arith}
use Rattle.smp_values.proofs.Largest.{largest-le-sum}
use Rattle.smp_brewer.proofs.offers.Offers.bound.Goals as goal

pub overflow_sub-rest : goal.overflow_sub-rest
overflow_sub-rest c = omega (arith, largest-le-sum c.args.self.now.sizes, c.largest.ensures, c.total.ensures)
