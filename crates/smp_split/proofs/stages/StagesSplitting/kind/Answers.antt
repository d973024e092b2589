use Rattle.smp_split.proofs.Stepped.{goes_on}
use Rattle.smp_split.specs.Methods.{owns, trees}
use Rattle.smp_split.proofs.stages.StagesSplitting.kind.Goals as goal

pub kind_of-requires-clause-stage : goal.kind_of-requires-clause-stage
kind_of-requires-clause-stage g c = (goes_on (trees g.D.Splitting.method) (owns g.D.Splitting.method) c.args.self.now.stages.items c.args.self.now.seats.items c.state.view_is c.requires.state c.requires.going).within

pub kind_of-requires-clause-waits : goal.kind_of-requires-clause-waits
kind_of-requires-clause-waits g c = rw c.as_slice.ensures.value (goes_on (trees g.D.Splitting.method) (owns g.D.Splitting.method) c.args.self.now.stages.items c.args.self.now.seats.items c.state.view_is c.requires.state c.requires.going).waits
