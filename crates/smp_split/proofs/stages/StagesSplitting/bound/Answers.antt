use Rattle.std.proofs.Common.{sym, ◌∙◌}
use Rattle.smp_split.proofs.Stepped.{goes_on, bound_inside}
use Rattle.smp_split.specs.Methods.{owns, trees}
use Rattle.smp_split.proofs.stages.StagesSplitting.bound.Goals as goal

pub bound_of-requires-clause-stage : goal.bound_of-requires-clause-stage
bound_of-requires-clause-stage g c = (goes_on (trees g.D.Splitting.method) (owns g.D.Splitting.method) c.args.self.now.stages.items c.args.self.now.seats.items c.state.view_is c.requires.state c.requires.going).within

pub bound_of-requires-clause-waits : goal.bound_of-requires-clause-waits
bound_of-requires-clause-waits g c = rw c.as_slice.ensures.value (goes_on (trees g.D.Splitting.method) (owns g.D.Splitting.method) c.args.self.now.stages.items c.args.self.now.seats.items c.state.view_is c.requires.state c.requires.going).waits

pub returns : goal.returns
returns g c = (rw c.as_slice.ensures.value at c.bound_of.ensures) ∙ sym (bound_inside (trees g.D.Splitting.method) (owns g.D.Splitting.method) c.args.self.now.stages.items c.args.self.now.seats.items c.state.view_is)
