use Rattle.std.proofs.Common.{lit<}
use Rattle.smp_localpiv.proofs.Starts.{first_weighed}
use Rattle.smp_localpiv.proofs.design.first_state.Goals as goal

pub new-requires : goal.new-requires
new-requires g c =
    (lit< tt, (lit< tt, rw (c.in_ok-points.ensures, c.in_ok-copy.ensures, c.in_ok-weights.ensures, c.len.ensures) (first_weighed g.row.K c.args.coords.now c.args.values.now c.requires)))
