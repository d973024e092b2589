use Rattle.smp_twostage.proofs.RowReports.{each_row_tells}
use Rattle.smp_twostage.proofs.balance_laws.row_report_law.Goals as goal

pub returns : goal.returns
returns c = each_row_tells
