use Rattle.std.proofs.Common.{◌<◌, length, arith}
use Rattle.smp_near.proofs.Building.{enclosed_all}
use Rattle.smp_places.proofs.Roots.{no_root}
use Rattle.smp_near.proofs.regions.+enclose.Goals as goal

pub returns-else-low-high-clause-enclosed : goal.returns-else-low-high-clause-enclosed
returns-else-low-high-clause-enclosed g t c = no_root _ c.args.low c.args.high (omega arith)

pub returns-then-low-high-clause-enclosed : goal.returns-then-low-high-clause-enclosed
returns-then-low-high-clause-enclosed g t c =
    let within : c.middle_of-root.result < length c.enclose-then-low-high.new.regions = omega arith in
    enclosed_all g.row.K c.args.coords.now c.args.order.now c.enclose.new.regions c.enclose-then-low-high.new.regions c.region_of.result c.args.low c.middle_of-root.result c.args.high
    c.middle_of-root.ensures.is c.if-low-high.true within c.enclose-then-low-high.ensures.before c.region_of.ensures c.enclose.ensures.enclosed c.enclose-then-low-high.ensures.enclosed
