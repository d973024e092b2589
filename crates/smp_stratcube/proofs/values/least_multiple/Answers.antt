use Rattle.smp_frac.specs.Laws.Coprime.{divisor_positive}
use Rattle.smp_stratcube.proofs.values.least_multiple.Goals as goal

pub quotient-requires : goal.quotient-requires
quotient-requires c = divisor_positive c.args.a c.args.b c.gcd.result c.requires.b c.gcd.ensures.divides
