use Rattle.std.proofs.Common.{ap}
use Rattle.smp_flight.specs.declared.states.FlightState.TheInside.{Inside}
use Rattle.smp_flight.proofs.Cells.{cells_others, cells_size, cells_window}
use Rattle.smp_flight.proofs.states.FlightState.cells.Goals as goal

pub returns-clause-size : goal.returns-clause-size
returns-clause-size c = cells_size c.self.inside.of.value c.self.inside.values c.self.inside.rows _ _ (ap (λ (s : Inside). s.values.numer) c.self-inside.view_is) c.self.view_is

pub returns-clause-window : goal.returns-clause-window
returns-clause-window c = cells_window c.self.inside.of.value c.self.inside.values c.self.inside.rows _ _ (ap (λ (s : Inside). s.values.numer) c.self-inside.view_is) c.self.view_is

pub returns-clause-others : goal.returns-clause-others
returns-clause-others c = cells_others c.self.inside.of.value c.self.inside.values c.self.inside.rows _ _ (ap (λ (s : Inside). s.values.numer) c.self-inside.view_is) c.self.view_is c.self.invariant.first
