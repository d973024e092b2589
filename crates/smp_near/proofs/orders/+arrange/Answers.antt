use Rattle.smp_near.proofs.Building.{added_in_order}
use Rattle.smp_near.proofs.orders.+arrange.Goals as goal

pub returns-in_ok-arrange-2 : goal.returns-in_ok-arrange-2
returns-in_ok-arrange-2 g t c =
    added_in_order c.args.order.now.items c.args.points.now c.parted-before.result.0.now c.parted-before.result.1 c.parted-before.result.2.now c.arrange.new.order.items _ c.parted-before.ensures.permutation c.in_ok-arrange.ensures
    (rw (← c.in_ok-push.ensures.items) c.in_ok-arrange-2.ensures)
