use Rattle.smp_pivotal.proofs.Sampling.{IsSampling}
use Rattle.smp_pivotal.proofs.sample.take_sample.Given as goal

-- the values after the draw, as far as the pass has come
abbrev pub invariant-loop-place : goal.invariant-loop-place
invariant-loop-place l = IsSampling l.fn.values l.draw l.values l.gap l.place
