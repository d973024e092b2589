use Rattle.std.proofs.Common.{◌≡◌, ◌∙◌}
use Rattle.smp_brewer.proofs.Starts.{starts_requested}
use Rattle.smp_brewer.proofs.design.Brewer.new.Goals as goal

pub returns-clause-requested : goal.returns-clause-requested
returns-clause-requested c =
    let sizes_are : c.in_ok-sizes.sizes ≡ c.args.request.now.shape = c.in_ok-sizes.ensures ∙ c.as_slice.ensures in
    rw (sizes_are, c.draws-draws.ensures) (starts_requested c.args.request.now c.requires.request c.requires.whole)
