use Rattle.std.proofs.Common.{◌≡◌, drop, filter}
use Rattle.smp_weights.specs.{Chosen.{chosen_units}, Totals.{has_sign, total_of, with_terms}}
use Rattle.smp_weights.proofs.totals.total.Given as goal

abbrev pub invariant-loop-place : goal.invariant-loop-place
invariant-loop-place l =
    with_terms l.total (filter (λ u. has_sign l.minus u.value) (chosen_units (drop l.place l.values) (drop l.place l.asked) (drop l.place l.chosen)))
    ≡ total_of (filter (λ u. has_sign l.minus u.value) (chosen_units l.values l.asked l.chosen))
