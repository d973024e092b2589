use Rattle.std.proofs.Common.{◌≡◌, None, [], nat_eq, get_or}
use Rattle.std.specs.List.{range_with_len}
use Rattle.smp_strata.specs.{Misfits.{first_found, when}, declared.misfit.Misfit.TheVariants.{NoSize}}
use Rattle.smp_strata.proofs.requests.all_have_sizes.Given as goal

abbrev pub invariant-loop-stratum : goal.invariant-loop-stratum
invariant-loop-stratum l =
    first_found (λ stratum. when (nat_eq (get_or l.sizes stratum 0) 0) (NoSize (get_or l.names stratum []))) (range_with_len 0 l.stratum) ≡ None
