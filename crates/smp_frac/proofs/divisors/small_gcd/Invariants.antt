use Rattle.std.proofs.Common.{ℕ}
use Rattle.std.specs.Int.{IsGcd}
use Rattle.smp_frac.proofs.divisors.small_gcd.Given as goal

-- a divisor of what is left is the divisor asked for
abbrev pub invariant-loop-right : goal.invariant-loop-right
invariant-loop-right l = (g : ℕ) → IsGcd l.left l.right g → IsGcd l.fn.a l.fn.b g

abbrev pub decreases-loop-right : goal.decreases-loop-right
decreases-loop-right l = l.right
