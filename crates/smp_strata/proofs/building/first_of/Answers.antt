use Rattle.smp_strata.proofs.FirstUnits.{built_first}
use Rattle.smp_strata.proofs.building.first_of.Goals as goal

pub returns-clause-misfit : goal.returns-clause-misfit
returns-clause-misfit c = c.in_ok-second.ensures.misfit

pub returns-clause-built : goal.returns-clause-built
returns-clause-built c = built_first c.args.design.now c.args.units.now c.args.rows.now c.requires.frame c.requires.points c.requires.rows c.requires.small c.in_ok-second.ensures.request
