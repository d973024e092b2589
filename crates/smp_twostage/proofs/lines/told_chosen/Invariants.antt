use Rattle.std.proofs.Common.{◌≡◌}
use Rattle.smp_twostage.specs.{Kept.Stages.{each_told}, Starts.{covered_first}}
use Rattle.smp_twostage.proofs.lines.told_chosen.Given as goal

abbrev pub invariant-loop-number : goal.invariant-loop-number
invariant-loop-number l =
    l.chosen.items ≡ each_told (λ p. covered_first l.whole l.state.states p.stratum p.unit) l.whole l.section l.number
