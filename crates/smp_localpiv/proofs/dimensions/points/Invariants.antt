use Rattle.std.proofs.Common.{◌≡◌, ◌++◌, drop}
use Rattle.smp_localpiv.specs.Coordinates.{points_of}
use Rattle.smp_localpiv.proofs.dimensions.points.Given as goal

abbrev pub invariant-loop-unit : goal.invariant-loop-unit
invariant-loop-unit g l = l.points.items ++ points_of g.row.K (drop l.unit-index l.values) ≡ points_of g.row.K l.values
