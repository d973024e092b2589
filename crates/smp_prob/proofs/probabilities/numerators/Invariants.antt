use Rattle.std.proofs.Common.{◌≡◌, map, take}
use Rattle.smp_prob.specs.Given.{numerator_over}
use Rattle.smp_prob.proofs.probabilities.numerators.Given as goal

abbrev pub invariant-loop-prob : goal.invariant-loop-prob
invariant-loop-prob l = l.list.items ≡ map (numerator_over l.multiple) (take l.prob-index l.probs)
