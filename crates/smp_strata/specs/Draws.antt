-- How many units a plan draws: the size of the sample is fixed in each stratum, and in each first stage unit (Tillé 2006).
use Rattle.std.specs.Prelude.{◌≡◌, ℕ, List, Option, Some, None, length, slice_get, All, IfSome}
use Rattle.smp_frac.specs.Fractions.{Fraction, Same, whole, sum_below}
use Rattle.smp_prob.specs.Given.{expected_size}
use Rattle.smp_prob.specs.Inclusions.{asked_fraction}
use Rattle.smp_prob.specs.declared.requests.Request.{Request}
use Rattle.smp_values.specs.Starts.{DrawsWhole}
use Rattle.smp_split.specs.Rows.{AddsUpTo}
use Rattle.smp_design.specs.declared.design.Design.{Design}
use Rattle.smp_design.specs.declared.design.Second as second
use Rattle.smp_frame.specs.declared.frame.Unit as unit
use Rattle.smp_strata.specs.Allocations.{IsAllocation}
use Rattle.smp_strata.specs.Plans.{Plan, cluster_counts, first_probs, sample_size, sample_sizes}
use Rattle.smp_strata.specs.declared.strata.Stratum as stratum

-- a request for a whole number of units selects n of so many
pub record IsFor (request : Request) (units n : ℕ) : Type 0 where
  pub whole : DrawsWhole request
  pub fills : AddsUpTo request units n

-- the request of a second stage draws the second stage's n of so many rows, where there is a second stage
abbrev pub SecondDraws : Option second.Second → ℕ → Option Request → Type 0
SecondDraws second rows request = IfSome second (λ s. IfSome request (λ r. IsFor r rows s.n))

-- Where a design asks for n first stage units of all strata together, the sample sizes are an allocation of n by the strata's numbers of
-- first stage units. With a column of probabilities a design asks for no such number.
abbrev pub IsAllocated : Design → List unit.Unit → Type 0
IsAllocated design units =
    IfSome design.n (λ n. IsAllocation n (cluster_counts design units) (sample_sizes design units))

-- So many first stage units are asked of a stratum: its sample size, or with given probabilities their sum, where that is a whole number.
-- = n = n_h, or n = Σ of the given probabilities
-- e.g. 2
abbrev pub AreAsked : Option (List ℕ) → Design → List unit.Unit → ℕ → ℕ → Type 0
AreAsked None design units number n = n ≡ sample_size design units number
AreAsked (Some column) design units number n =
    Same (expected_size (first_probs design units number)) (whole n)

-- how many first stage units are expected of a stratum: the sum of the probabilities that its request gives them
abbrev pub expected_firsts : stratum.Stratum → Fraction
expected_firsts s = sum_below (length s.units) (asked_fraction s.request)

-- a stratum draws as many of its first stage units as are asked of it, and the second stage draws n of the rows of each of these
pub record DrawsInStratum (design : Design) (units : List unit.Unit) (number : ℕ)
    (s : stratum.Stratum) : Type 0 where
  pub firsts : (n : ℕ) → AreAsked design.columns.prob design units number n
      → IsFor s.request (length s.units) n
  pub rows : All (λ f. SecondDraws design.second (length f.rows) f.second) s.units
  -- with given probabilities, as many of its first stage units are expected as these add up to, whole or not
  pub expected : IfSome design.columns.prob (λ column.
      Same (expected_firsts s) (expected_size (first_probs design units number)))

-- every stratum of a plan draws as the design asks
abbrev pub DrawsAsAsked : Design → List unit.Unit → Plan → Type 0
DrawsAsAsked design units plan =
    (number : ℕ) (s : stratum.Stratum) → slice_get plan.strata number ≡ Some s
    → DrawsInStratum design units number s
