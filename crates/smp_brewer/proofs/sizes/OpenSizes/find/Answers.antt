use Rattle.std.proofs.Common.{sym}
use Rattle.smp_brewer.proofs.Passing.{passing_is}
use Rattle.smp_brewer.proofs.sizes.OpenSizes.find.Goals as goal

pub returns : goal.returns
returns c = rw (← c.self.view_is) (sym (passing_is c.self.inside.sizes c.args.draw c.find.result c.find.ensures.from c.find.ensures.passes))
