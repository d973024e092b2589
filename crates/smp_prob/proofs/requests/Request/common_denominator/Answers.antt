use Rattle.std.proofs.Common.{arith}
use Rattle.smp_prob.proofs.Fractions.{denominator_is, numerator_is_free_fraction}
use Rattle.smp_prob.proofs.requests.Request.common_denominator.Goals as goal

pub returns-clause-probabilities : goal.returns-clause-probabilities
returns-clause-probabilities c i here =
    rw c.common_divisor.ensures (rw (denominator_is c.args.self.now c.requires (omega (arith, here))) at (numerator_is_free_fraction c.args.self.now c.requires i here))
