use Rattle.smp_localpiv.proofs.Starts.{starts_open, starts_requested}
use Rattle.smp_localpiv.proofs.design.LocalPivotal.new.Goals as goal

pub invariant_of-result : goal.invariant_of-result
invariant_of-result g c = rw (c.in_ok-from_slice.ensures.items, c.in_ok-requested.ensures) (starts_open c.args.request.now c.requires.request c.args.coords.now g.row.K c.requires.dimensions c.requires.placed)

pub returns-clause-requested : goal.returns-clause-requested
returns-clause-requested g c = rw (c.in_ok-from_slice.ensures.items, c.in_ok-requested.ensures) (starts_requested c.args.request.now c.requires.request c.args.coords.now)
