use Rattle.smp_app.proofs.Four.{is_four_drawn}
use Rattle.smp_app.proofs.laws.four_draw_law.Goals as goal

pub returns : goal.returns
returns c = is_four_drawn
