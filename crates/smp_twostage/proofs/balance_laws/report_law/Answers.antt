use Rattle.smp_twostage.proofs.Reports.{each_line_tells}
use Rattle.smp_twostage.proofs.balance_laws.report_law.Goals as goal

pub returns : goal.returns
returns c = each_line_tells
