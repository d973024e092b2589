use Rattle.std.proofs.Common.{sym, subst}
use Rattle.smp_log.specs.Heads.{IsHead}
use Rattle.smp_log.proofs.Heads.{head_of-is}
use Rattle.smp_log.proofs.head.log_head.Goals as goal

pub invariant_of-result : goal.invariant_of-result
invariant_of-result c = subst IsHead (sym c.head_bytes.ensures) (head_of-is c.args.design.now c.args.frame.now)
