-- The joint inclusion probability of two rows by a plan that draws systematically, in the order of the frame and in one stage.
use Rattle.std.specs.Prelude.{◌≡◌, ℕ, ◌-◌, ◌<◌, cond, nat_eq, if◌then◌else◌, List, length, slice_get, Option, Some, None}
use Rattle.smp_frac.specs.Fractions.{Fraction, Same, whole, times, sum_below}
use Rattle.smp_prob.specs.declared.orders.Order.TheVariants.{Frame}
use Rattle.smp_prob.specs.Inclusions.{asked_fraction}
use Rattle.smp_split.specs.Means.{joint_probability}
use Rattle.smp_design.specs.declared.method.Method.TheVariants.{Systematic}
use Rattle.smp_strata.specs.Draws.{expected_firsts}
use Rattle.smp_strata.specs.Plans.{Plan}
use Rattle.smp_strata.specs.Seats.{first_fraction}
use Rattle.smp_strata.specs.declared.strata.Seat as seat
use Rattle.smp_strata.specs.declared.strata.Stratum as stratum
use Rattle.smp_twostage.specs.Selections.{place_of, start_of, whole_tree}
use Rattle.smp_joint.specs.Joints.{joint_of}

-- the joint probability of two first stage units of a stratum
abbrev pub joint_in : Option stratum.Stratum → ℕ → ℕ → Fraction
joint_in (Some s) j k = joint_of s.request j k
joint_in None j k = whole 0

-- the joint probability of the rows at two seats: of one stratum, or of two strata, which are drawn apart
abbrev pub joint_at_seats : List stratum.Stratum → seat.Seat → seat.Seat → Fraction
joint_at_seats strata a b =
    if nat_eq a.stratum b.stratum
    then joint_in (slice_get strata a.stratum) a.unit b.unit
    else times (first_fraction strata a.stratum a.unit) (first_fraction strata b.stratum b.unit)

-- the joint probability of two rows
abbrev pub joint_fraction : Plan → ℕ → ℕ → Fraction
joint_fraction plan j k =
    joint_at_seats plan.strata (place_of plan.strata j) (place_of plan.strata k)

-- the plan draws systematically, in the order of the frame and in one stage
pub record IsSystematicPlan (plan : Plan) : Type 0 where
  pub method : plan.procedure.method ≡ Systematic
  pub order : plan.procedure.order ≡ Frame
  pub second : plan.second ≡ None

-- the joint probability of a unit with another unit of its stratum, and 0 with itself
abbrev pub with_other : stratum.Stratum → ℕ → ℕ → Fraction
with_other s unit other = cond (nat_eq other unit) (whole 0) (joint_of s.request unit other)

-- what holds of the joint probabilities of a plan
pub record HasJoints (plan : Plan) : Type 0 where
  -- Over draws that are uniform below each bound and independent of those before, two rows are both selected with exactly their joint
  -- fraction: that is the mean over the whole draw tree of the number that is 1 where both are selected, and 0 elsewhere.
  pub joint : (j k : ℕ) → j < plan.rows → k < plan.rows
      → Same (joint_probability (whole_tree plan) (start_of plan) j k) (joint_fraction plan j k)
  -- Where the probabilities of a stratum's units add up to n, the joint probabilities of a unit with all others of the stratum add up to
  -- n - 1 times its own (Särndal, Swensson and Wretman 1992).
  pub sums : (h n : ℕ) (s : stratum.Stratum) → slice_get plan.strata h ≡ Some s
      → Same (expected_firsts s) (whole n) → (unit : ℕ) → unit < length s.units
      → Same (sum_below (length s.units) (with_other s unit))
      (times (whole (n - 1)) (asked_fraction s.request unit))
