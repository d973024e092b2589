use Rattle.smp_near.proofs.Building.{shorter_behind}
use Rattle.smp_near.proofs.orders.parted.Goals as goal

pub returns-clause-behind : goal.returns-clause-behind
returns-clause-behind g c =
    shorter_behind c.args.points.now c.select_nth_unstable_by_key-before.result.0.now c.select_nth_unstable_by_key-before.result.1.now c.select_nth_unstable_by_key-before.result.2.now c.select_nth_unstable_by_key-before.ensures.permutation
