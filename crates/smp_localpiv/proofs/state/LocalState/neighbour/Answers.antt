use Rattle.smp_localpiv.proofs.Steps.{points_kept, never_alone}
use Rattle.smp_localpiv.specs.Kept.States.{chosen_unit}
use Rattle.smp_localpiv.proofs.state.LocalState.neighbour.Goals as goal

pub unreachable-requires : goal.unreachable-requires
unreachable-requires g c =
    never_alone c.self.inside.points c.args.self.now c.args.unit
    (points_kept c.self.inside.points c.self.inside.values (chosen_unit c.self.inside.chosen) c.args.self.now c.self.view_is c.self.invariant.weighed.alive)
    c.requires c.in-None.ensures.nearest
