use Rattle.std.proofs.Common.{◌≡◌, Some, sym, ap, subst, ◌∙◌}
use Rattle.std.specs.List.{slice_get}
use Rattle.smp_split.specs.{Stages.{Progress, seat_selected, unit_selected}, Methods.{owns, trees}}
use Rattle.smp_split.proofs.{Scans.{read_at}, Stepped.{none_waits_inside}}
use Rattle.smp_split.proofs.stages.StagesSplitting.selected.Goals as goal

pub selects_seat-requires-clause-ended : goal.selects_seat-requires-clause-ended
selects_seat-requires-clause-ended g c =
    let s : Progress g.row.D-State.Denot = record { states = c.state.inside.states.items; at = c.state.inside.at } in
    rw c.as_slice.ensures.value (none_waits_inside (trees g.D.Splitting.method) (owns g.D.Splitting.method) c.args.self.now.stages.items c.args.self.now.seats.items (λ d. (g.D.Splitting.method d).lawful) c.args.self.now.staged s c.args.state.now c.state.view_is c.requires.state c.requires.done)

pub selects_seat-requires-clause-first : goal.selects_seat-requires-clause-first
selects_seat-requires-clause-first g c place is =
    c.args.self.now.staged.first c.args.unit place (read_at c.args.self.now.seats.items c.args.unit c.index.result.now c.requires.unit c.index.ensures ∙ ap Some is)

pub selects_seat-requires-clause-second : goal.selects_seat-requires-clause-second
selects_seat-requires-clause-second g c first second is =
    c.args.self.now.staged.second c.args.unit first second (read_at c.args.self.now.seats.items c.args.unit c.index.result.now c.requires.unit c.index.ensures ∙ ap Some is)

pub returns : goal.returns
returns g c =
    let s : Progress g.row.D-State.Denot = record { states = c.state.inside.states.items; at = c.state.inside.at } in
    let answer : c.selects_seat.result ≡ seat_selected (unit_selected (trees g.D.Splitting.method) c.args.self.now.stages.items s.states) (Some c.index.result.now) =
    c.selects_seat.ensures ∙ ap (λ states. seat_selected (unit_selected (trees g.D.Splitting.method) c.args.self.now.stages.items states) (Some c.index.result.now)) c.as_slice.ensures.value in
    let seat : slice_get c.args.self.now.seats.items c.args.unit ≡ Some c.index.result.now = read_at c.args.self.now.seats.items c.args.unit c.index.result.now c.requires.unit c.index.ensures in
    subst (λ (t : Progress g.row.D-State.Denot). c.selects_seat.result ≡ seat_selected (unit_selected (trees g.D.Splitting.method) c.args.self.now.stages.items t.states) (slice_get c.args.self.now.seats.items c.args.unit)) c.state.view_is
    (answer ∙ ap (seat_selected (unit_selected (trees g.D.Splitting.method) c.args.self.now.stages.items s.states)) (sym seat))
