use Rattle.std.proofs.Common.{◌≡◌, map, take}
use Rattle.smp_strata.proofs.layout.strata_texts.Given as goal

abbrev pub invariant-loop-unit : goal.invariant-loop-unit
invariant-loop-unit l = map (λ t. t.now) l.texts.items ≡ map (λ u. u.stratum) (take l.unit-index l.units)
