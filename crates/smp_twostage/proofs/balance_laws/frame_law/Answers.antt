use Rattle.smp_twostage.proofs.BalancedTogether.{each_frame_is_balanced}
use Rattle.smp_twostage.proofs.balance_laws.frame_law.Goals as goal

pub returns : goal.returns
returns c = each_frame_is_balanced
