use Rattle.std.proofs.Common.{sym, ◌∙◌}
use Rattle.smp_split.proofs.Scans.{first_of, first_ended, second_ended}
use Rattle.smp_split.specs.Methods.{owns, trees}
use Rattle.smp_split.proofs.stages.Stages.selects_seat.Goals as goal

pub selects-requires-in-Second-clause-unit : goal.selects-requires-in-Second-clause-unit
selects-requires-in-Second-clause-unit g c = (first_of (trees g.D.Splitting.method) c.args.self.now.stages.items (owns g.D.Splitting.method) c.args.self.now.seats.items c.args.self.now.staged c.args.states.now c.requires.ended c.in-Second.first c.in-Second.second (c.requires.second c.in-Second.first c.in-Second.second c.in-Second.is)).unit

pub selects-requires-in-Second-clause-done : goal.selects-requires-in-Second-clause-done
selects-requires-in-Second-clause-done g c = first_ended (trees g.D.Splitting.method) c.args.self.now.stages.items (owns g.D.Splitting.method) c.args.self.now.seats.items c.args.self.now.staged c.args.states.now c.requires.ended c.in-Second.first c.in-Second.second (c.requires.second c.in-Second.first c.in-Second.second c.in-Second.is)

pub selects-requires-then-selects-clause-unit : goal.selects-requires-then-selects-clause-unit
selects-requires-then-selects-clause-unit g c = (c.requires.second c.in-Second.first c.in-Second.second c.in-Second.is).unit

pub selects-requires-then-selects-clause-done : goal.selects-requires-then-selects-clause-done
selects-requires-then-selects-clause-done g c =
    second_ended (trees g.D.Splitting.method) c.args.self.now.stages.items (owns g.D.Splitting.method) c.args.self.now.seats.items c.args.self.now.staged c.args.states.now c.requires.ended c.in-Second.first c.in-Second.second (c.requires.second c.in-Second.first c.in-Second.second c.in-Second.is) (sym c.selects-in-Second.ensures ∙ c.if-selects.true)
