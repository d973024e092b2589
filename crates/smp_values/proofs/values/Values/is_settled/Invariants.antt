use Rattle.std.proofs.Common.{◌≡◌, ℕ, ◌<◌, false}
use Rattle.smp_values.specs.Values.{is_fractional}
use Rattle.smp_values.proofs.values.Values.is_settled.Given as goal

-- none of the units so far is fractional
abbrev pub invariant-loop-unit : goal.invariant-loop-unit
invariant-loop-unit l = (k : ℕ) → k < l.unit → is_fractional l.self k ≡ false
