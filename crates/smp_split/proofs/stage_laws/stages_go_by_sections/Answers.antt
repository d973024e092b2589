use Rattle.smp_split.proofs.StageSections.{staged_sectioned}
use Rattle.smp_split.specs.Methods.{owns, trees}
use Rattle.smp_split.proofs.stage_laws.stages_go_by_sections.Goals as goal

pub returns : goal.returns
returns g c = staged_sectioned (trees g.D.Splitting.method) (owns g.D.Splitting.method) c.args.stages.now.stages.items c.args.stages.now.seats.items c.args.stages.now.staged
