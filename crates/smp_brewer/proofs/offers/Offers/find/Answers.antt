use Rattle.std.proofs.Common.{ap, ◌∙◌, arith}
use Rattle.smp_brewer.specs.{Brewer.{offering, offered}, Laws.Offers.{weight_sum-offers}}
use Rattle.smp_brewer.proofs.Offered.{picked_offer}
use Rattle.smp_brewer.proofs.offers.Offers.find.Goals as goal

pub find-requires : goal.find-requires
find-requires c = omega (arith, weight_sum-offers c.args.self.now, c.requires)

pub returns : goal.returns
returns c = ap (offered c.args.self.now) c.find.ensures ∙ picked_offer c.args.self.now (offering c.args.self.now) c.args.draw c.requires
