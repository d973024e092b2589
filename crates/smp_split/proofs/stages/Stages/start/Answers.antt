use Rattle.std.proofs.Common.{◌≡◌, ap}
use Rattle.smp_split.specs.{Stages.{Progress, next_stage, progress}, Methods.{owns, trees}}
use Rattle.smp_split.proofs.StageStarts.{starts_in_stages}
use Rattle.smp_split.proofs.stages.Stages.start.Goals as goal

pub returns-clause-starts : goal.returns-clause-starts
returns-clause-starts g c =
    let at : c.next_from-at.result ≡ next_stage (trees g.D.Splitting.method) c.args.self.now.stages.items c.args.states.items = rw c.as_slice.ensures.value at c.next_from-at.ensures in
    let start : Progress g.row.D-State.Denot = record { states = c.args.states.items; at = c.next_from-at.result } in
    let is : start ≡ progress (trees g.D.Splitting.method) c.args.self.now.stages.items c.args.states.items = ap (λ at. record { states = c.args.states.items; at = at }) at in
    starts_in_stages (trees g.D.Splitting.method) (owns g.D.Splitting.method) (λ d. (g.D.Splitting.method d).lawful) c.args.self.now.stages.items c.args.self.now.seats.items c.args.self.now.staged c.args.states.items c.requires start is
