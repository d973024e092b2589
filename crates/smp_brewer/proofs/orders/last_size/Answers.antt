use Rattle.std.proofs.Common.{arith}
use Rattle.smp_brewer.proofs.Ranks.{largest_last, largest_none}
use Rattle.smp_brewer.proofs.orders.last_size.Goals as goal

pub returns-then-left-eq0 : goal.returns-then-left-eq0
returns-then-left-eq0 c = largest_none c.args.sizes.now c.args.order.now c.args.left c.requires.ranked (omega arith)

pub returns-else-left-eq0 : goal.returns-else-left-eq0
returns-else-left-eq0 c = largest_last c.args.sizes.now c.args.order.now c.args.left c.requires.ranked (omega arith) (c.requires.open (omega arith))
