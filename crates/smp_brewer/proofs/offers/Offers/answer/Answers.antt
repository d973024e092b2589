use Rattle.std.proofs.Common.{arith, length}
use Rattle.smp_brewer.specs.Laws.Answers.{heaviest}
use Rattle.smp_brewer.proofs.offers.Offers.answer.Goals as goal

pub weight-requires-clause-light : goal.weight-requires-clause-light
weight-requires-clause-light c =
    omega (arith, heaviest (length c.args.self.now.sizes) c.args.self.now c.requires.offered.offers c.requires.offered.going)
