use Rattle.std.proofs.Common.{◌≡◌, ◌<◌, ℕ, None, map, nat_lt}
use Rattle.std.specs.List.{range_with_len}
use Rattle.smp_prob.specs.Given.{common_multiple, largest_multiple}
use Rattle.smp_strata.specs.{Clusters.{stratum_name}, Misfits.{first_found, sum_of, when}, Plans.{first_probs, request_by}}
use Rattle.smp_strata.specs.{declared.misfit.Misfit.TheVariants.{Denominator}, Kept.Built.{IsGivenRequest, bare}}
use Rattle.smp_strata.proofs.requests.strata_by_probs.Given as goal

abbrev pub invariant-loop-stratum : goal.invariant-loop-stratum
invariant-loop-stratum l = record {
  bare : l.begun.items ≡ map (bare l.design l.units) (range_with_len 0 l.stratum);
  sums : l.sums.items ≡ map (λ k. sum_of (first_probs l.design l.units k)) (range_with_len 0 l.stratum);
  requests : (k : ℕ) → k < l.stratum → IsGivenRequest (first_probs l.design l.units k) (request_by l.design.columns.prob l.design l.units k);
  none : first_found (λ k. when (nat_lt largest_multiple (common_multiple (first_probs l.design l.units k))) (Denominator (stratum_name l.units k))) (range_with_len 0 l.stratum) ≡ None;
}
