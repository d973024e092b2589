use Rattle.std.proofs.Common.{◌≡◌, ◌<◌, ℕ, None, map}
use Rattle.std.specs.List.{range_with_len}
use Rattle.smp_strata.specs.{Clusters.{stratum_name}, Misfits.{first_found, short}, Plans.{first_sizes, request_by, sample_size}}
use Rattle.smp_strata.specs.Kept.Built.{IsFirstRequest, bare}
use Rattle.smp_strata.proofs.requests.strata_by_sizes.Given as goal

abbrev pub invariant-loop-stratum : goal.invariant-loop-stratum
invariant-loop-stratum l = record {
  bare : l.begun.items ≡ map (bare l.design l.units) (range_with_len 0 l.stratum);
  requests : (k : ℕ) → k < l.stratum → IsFirstRequest l.design l.units k (request_by l.design.columns.prob l.design l.units k);
  none : first_found (λ k. short (stratum_name l.units k) (first_sizes l.design l.units k) (sample_size l.design l.units k)) (range_with_len 0 l.stratum) ≡ None;
}
