use Rattle.std.proofs.Common.{◌≡◌, None, Some, sym, ◌∙◌}
use Rattle.std.specs.List.{slice_get}
use Rattle.smp_split.specs.{Stages.{within_of}, Methods.{trees}}
use Rattle.smp_split.proofs.{Scans.{within_read, drawn_read, unit_inside, first_done}, stages.Stages.is_drawn.Goals.{In-Some}}
use Rattle.smp_split.proofs.stages.Stages.is_drawn.Goals as goal
use Rattle.smp_split.proofs.stages.Stages.is_drawn.Given.{Over}

within : (g : Over) (c : In-Some g) → within_of (slice_get c.args.self.now.stages.items c.args.number) ≡ Some c.in-Some.place
within g c = within_read (trees g.D.Splitting.method) c.args.self.now.stages.items c.args.number c.index-stage.result.now (Some c.in-Some.place) c.requires.stage c.index-stage.ensures c.in-Some.is

pub selects-requires-clause-unit : goal.selects-requires-clause-unit
selects-requires-clause-unit g c =
    unit_inside (trees g.D.Splitting.method) c.args.self.now.stages.items c.args.self.now.seats.items c.args.self.now.staged c.args.states.now c.args.number c.in-Some.place (within g c)

pub selects-requires-clause-done : goal.selects-requires-clause-done
selects-requires-clause-done g c =
    first_done (trees g.D.Splitting.method) c.args.self.now.stages.items c.args.self.now.seats.items c.args.self.now.staged c.args.states.now c.args.number c.in-Some.place (within g c) c.requires.passed

pub returns-in-None : goal.returns-in-None
returns-in-None g c =
    sym (drawn_read (trees g.D.Splitting.method) c.args.self.now.stages.items c.args.states.now c.args.number None
    (within_read (trees g.D.Splitting.method) c.args.self.now.stages.items c.args.number c.index-stage.result.now None c.requires.stage c.index-stage.ensures c.in-None.is))

pub returns-in-Some : goal.returns-in-Some
returns-in-Some g c =
    c.selects.ensures ∙ sym (drawn_read (trees g.D.Splitting.method) c.args.self.now.stages.items c.args.states.now c.args.number (Some c.in-Some.place)
    (within_read (trees g.D.Splitting.method) c.args.self.now.stages.items c.args.number c.index-stage.result.now (Some c.in-Some.place) c.requires.stage c.index-stage.ensures c.in-Some.is))
