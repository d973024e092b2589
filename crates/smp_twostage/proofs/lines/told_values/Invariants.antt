use Rattle.std.proofs.Common.{◌≡◌, map}
use Rattle.smp_twostage.specs.{Kept.Stages.{each_told}, Lines.{seat_values}}
use Rattle.smp_twostage.proofs.lines.told_values.Given as goal

abbrev pub invariant-loop-number : goal.invariant-loop-number
invariant-loop-number l =
    map (λ v. v.now) l.values.items ≡ each_told (seat_values l.whole.plan) l.whole l.section l.number
