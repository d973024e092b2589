use Rattle.std.proofs.Common.{◌≡◌, None, [], get_or}
use Rattle.std.specs.List.{range_with_len}
use Rattle.smp_frac.specs.declared.fractions.Frac.{Frac}
use Rattle.smp_strata.specs.Misfits.{first_found, unwhole}
use Rattle.smp_strata.proofs.requests.all_whole.Given as goal

abbrev pub invariant-loop-stratum : goal.invariant-loop-stratum
invariant-loop-stratum l = (d : Frac)
    → first_found (λ stratum. unwhole (get_or l.names stratum []) (get_or l.sums stratum d)) (range_with_len 0 l.stratum) ≡ None
