use Rattle.std.proofs.Common.{◌≡◌, ◌≤◌}
use Rattle.smp_values.proofs.Units.{count_before}
use Rattle.smp_values.proofs.values.Values.fractional_at.Given as goal

-- so many of the units before this one are fractional
abbrev pub invariant-loop-unit : goal.invariant-loop-unit
invariant-loop-unit l = record {
  counted : l.before ≡ count_before l.self l.unit;
  within : l.before ≤ l.place;
}
