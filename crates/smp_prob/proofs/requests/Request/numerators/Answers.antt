use Rattle.std.proofs.{Common.{arith}, lemmas.Grind.{common_steps}}
use Rattle.smp_prob.proofs.Fractions.{numerator_is_free_fraction}
use Rattle.smp_prob.proofs.requests.Request.numerators.Goals as goal

pub returns-clause-value : goal.returns-clause-value
returns-clause-value c = grind (arith, common_steps)

pub returns-clause-probabilities : goal.returns-clause-probabilities
returns-clause-probabilities c i here = rw (returns-clause-value c) (numerator_is_free_fraction c.args.self.now c.requires i here)
