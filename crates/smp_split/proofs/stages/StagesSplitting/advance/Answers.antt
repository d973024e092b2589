use Rattle.std.proofs.Common.{◌≡◌, ℕ, ◌<◌, ap, subst, ◌∙◌}
use Rattle.smp_split.specs.{Stages.{Progress, progress, next_stage}, Methods.{owns, trees}}
use Rattle.smp_split.proofs.Stepped.{goes_on, bound_inside, stepped_inside}
use Rattle.smp_split.proofs.stages.StagesSplitting.advance.Goals as goal

pub step-requires-clause-waits : goal.step-requires-clause-waits
step-requires-clause-waits g c = (goes_on (trees g.D.Splitting.method) (owns g.D.Splitting.method) c.args.self.now.stages.items c.args.self.now.seats.items c.state.view_is c.requires.state c.requires.going).waits

pub step-requires-clause-within : goal.step-requires-clause-within
step-requires-clause-within g c = subst (λ (n : ℕ). c.args.draw < n) (bound_inside (trees g.D.Splitting.method) (owns g.D.Splitting.method) c.args.self.now.stages.items c.args.self.now.seats.items c.state.view_is) c.requires.within

pub next_from-state-inside-requires-clause-each : goal.next_from-state-inside-requires-clause-each
next_from-state-inside-requires-clause-each g c = rw c.as_slice.ensures.value (stepped_inside (trees g.D.Splitting.method) (owns g.D.Splitting.method) c.args.self.now.stages.items c.args.self.now.seats.items (λ d. (g.D.Splitting.method d).lawful) c.args.self.now.staged c.state.view_is c.requires.state c.requires.going
    c.args.draw c.requires.within c.step.new.states.items c.step.ensures).0.each

pub next_from-state-inside-requires-clause-passed : goal.next_from-state-inside-requires-clause-passed
next_from-state-inside-requires-clause-passed g c = rw c.as_slice.ensures.value (stepped_inside (trees g.D.Splitting.method) (owns g.D.Splitting.method) c.args.self.now.stages.items c.args.self.now.seats.items (λ d. (g.D.Splitting.method d).lawful) c.args.self.now.staged c.state.view_is c.requires.state c.requires.going
    c.args.draw c.requires.within c.step.new.states.items c.step.ensures).0.passed

pub returns : goal.returns
returns g c =
    let next : c.next_from-state-inside.result ≡ next_stage (trees g.D.Splitting.method) c.args.self.now.stages.items c.step.new.states.items = rw c.as_slice.ensures.value at c.next_from-state-inside.ensures in
    let now : Progress g.row.D-State.Denot = record { states = c.step.new.states.items; at = c.next_from-state-inside.result } in
    let is : now ≡ progress (trees g.D.Splitting.method) c.args.self.now.stages.items c.step.new.states.items = ap (λ at. record { states = c.step.new.states.items; at = at }) next in
    is ∙ (stepped_inside (trees g.D.Splitting.method) (owns g.D.Splitting.method) c.args.self.now.stages.items c.args.self.now.seats.items (λ d. (g.D.Splitting.method d).lawful) c.args.self.now.staged c.state.view_is c.requires.state c.requires.going
    c.args.draw c.requires.within c.step.new.states.items c.step.ensures).1
