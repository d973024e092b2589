use Rattle.smp_stratcube.proofs.Ahead.{filled_front}
use Rattle.smp_stratcube.proofs.fronts.front_of.Goals as goal

pub returns : goal.returns
returns c = filled_front c.args.values.now c.args.front.now c.standing.result c.filled.result c.requires c.standing.ensures c.filled.ensures
