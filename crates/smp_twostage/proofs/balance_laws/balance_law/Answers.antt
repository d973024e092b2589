use Rattle.smp_twostage.proofs.Balances.{each_is_balanced}
use Rattle.smp_twostage.proofs.balance_laws.balance_law.Goals as goal

pub returns : goal.returns
returns c = each_is_balanced
