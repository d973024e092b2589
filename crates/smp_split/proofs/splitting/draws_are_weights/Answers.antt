use Rattle.smp_split.specs.Laws.Numbers.{draws_are_weights}
use Rattle.smp_split.proofs.splitting.draws_are_weights.Goals as goal

pub returns : goal.returns
returns g c c' = draws_are_weights c' c.args.state.now ((g.S.Splitting.method c.args.design.now).tree.parts c.args.state.now)
