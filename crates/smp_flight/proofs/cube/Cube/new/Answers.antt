use Rattle.smp_flight.proofs.CubeStarts.{starts_requested}
use Rattle.smp_flight.proofs.cube.Cube.new.Goals as goal

pub returns-clause-requested : goal.returns-clause-requested
returns-clause-requested c = rw c.in_ok-new.ensures (starts_requested c.args.request.now c.args.xs.now c.requires.request)
