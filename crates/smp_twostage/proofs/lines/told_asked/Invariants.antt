use Rattle.std.proofs.Common.{◌≡◌}
use Rattle.smp_frac.specs.LowestTerms.{lowest_terms}
use Rattle.smp_strata.specs.Seats.{first_fraction}
use Rattle.smp_twostage.specs.Kept.Stages.{each_told}
use Rattle.smp_twostage.proofs.lines.told_asked.Given as goal

abbrev pub invariant-loop-number : goal.invariant-loop-number
invariant-loop-number l =
    l.asked.items ≡ each_told (λ p. lowest_terms (first_fraction l.whole.plan.strata p.stratum p.unit)) l.whole l.section l.number
