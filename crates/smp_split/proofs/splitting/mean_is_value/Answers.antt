use Rattle.smp_split.specs.Laws.Means.{mean_is_value, probability_is_value}
use Rattle.smp_split.proofs.splitting.mean_is_value.Goals as goal

pub returns-clause-mean : goal.returns-clause-mean
returns-clause-mean g c c' =
    let design = c.args.design.now in
    mean_is_value (g.S.Splitting.method design).tree (g.S.Splitting.method design).belongs (g.S.Splitting.method design).lawful c' c.args.state.now c.requires

pub returns-clause-probability : goal.returns-clause-probability
returns-clause-probability g c =
    let design = c.args.design.now in
    probability_is_value (g.S.Splitting.method design).tree (g.S.Splitting.method design).belongs (g.S.Splitting.method design).lawful c.args.state.now c.requires
