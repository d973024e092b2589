-- The joint inclusion probability of two units of a request (Särndal, Swensson and Wretman 1992), where the free ones are drawn
-- systematically in the order of the frame.
use Rattle.std.specs.Prelude.{ℕ}
use Rattle.smp_frac.specs.Fractions.{Fraction, whole, over}
use Rattle.smp_prob.specs.declared.requests.Request.{Request}
use Rattle.smp_prob.specs.declared.inclusions.Inclusion.{Inclusion}
use Rattle.smp_prob.specs.declared.inclusions.Inclusion.TheVariants.{Certain, Free}
use Rattle.smp_prob.specs.Shares.{shares_of, common_denominator}
use Rattle.smp_prob.specs.Inclusions.{fraction_at, inclusion}
use Rattle.smp_joint.specs.Both.{both_of}

-- the joint probability of two units of a request that stand so: the other one's where one is certain, 0 where one is never selected, and
-- of two free units the share of the draws that select both
abbrev pub joint_at : Request → Inclusion → Inclusion → Fraction
joint_at request Certain other = fraction_at request other
joint_at request other Certain = fraction_at request other
joint_at request (Free i) (Free j) =
    over (both_of (shares_of request) i j) (common_denominator request)
joint_at request one other = whole 0

-- the joint probability of two units of a request by their numbers
abbrev pub joint_of : Request → ℕ → ℕ → Fraction
joint_of request i j = joint_at request (inclusion request i) (inclusion request j)
