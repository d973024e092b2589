use Rattle.std.proofs.{Common.{◌≡◌, ◌<◌, true, length, arith, sym, ◌∙◌}, lemmas.Option.{slice_get_within}}
use Rattle.std.specs.List.{slice_get}
use Rattle.smp_split.specs.{Stages.{Progress, is_drawn}, Laws.Staged.{some_stage}, Laws.Turns.{done_where_drawn}, Methods.{owns, trees}}
use Rattle.smp_split.proofs.Stepped.{none_waits_inside}
use Rattle.smp_split.proofs.stages.Stages.is_selected_in.Goals as goal

pub is_drawn-requires-clause-passed : goal.is_drawn-requires-clause-passed
is_drawn-requires-clause-passed g c i less =
    let s : Progress g.row.D-State.Denot = record { states = c.state.inside.states.items; at = c.state.inside.at } in
    let stage = some_stage (trees g.D.Splitting.method) (owns g.D.Splitting.method) (slice_get c.args.self.now.stages.items c.args.place.stage) c.args.place.unit c.requires.unit in
    let within : c.args.place.stage < length c.args.self.now.stages.items = slice_get_within c.args.self.now.stages.items c.args.place.stage stage.0 stage.1 in
    rw c.as_slice-states.ensures.value (none_waits_inside (trees g.D.Splitting.method) (owns g.D.Splitting.method) c.args.self.now.stages.items c.args.self.now.seats.items (λ d. (g.D.Splitting.method d).lawful) c.args.self.now.staged s c.args.state.now c.state.view_is c.requires.state c.requires.done i (omega arith))

pub selects-requires-clause-done : goal.selects-requires-clause-done
selects-requires-clause-done g c =
    let s : Progress g.row.D-State.Denot = record { states = c.state.inside.states.items; at = c.state.inside.at } in
    let stage = some_stage (trees g.D.Splitting.method) (owns g.D.Splitting.method) (slice_get c.args.self.now.stages.items c.args.place.stage) c.args.place.unit c.requires.unit in
    let within : c.args.place.stage < length c.args.self.now.stages.items = slice_get_within c.args.self.now.stages.items c.args.place.stage stage.0 stage.1 in
    let passed = none_waits_inside (trees g.D.Splitting.method) (owns g.D.Splitting.method) c.args.self.now.stages.items c.args.self.now.seats.items (λ d. (g.D.Splitting.method d).lawful) c.args.self.now.staged s c.args.state.now c.state.view_is c.requires.state c.requires.done c.args.place.stage within in
    let is : c.is_drawn.result ≡ is_drawn (trees g.D.Splitting.method) c.args.self.now.stages.items s.states c.args.place.stage = rw c.as_slice-states.ensures.value at c.is_drawn.ensures in
    let was : c.is_drawn.result ≡ true = c.if-is_drawn.true in
    rw c.as_slice-states.ensures.value (done_where_drawn (trees g.D.Splitting.method) c.args.self.now.stages.items s.states c.args.place.stage (sym is ∙ was) passed)
