use Rattle.std.proofs.Common.{◌≡◌, ℕ, ◌<◌, [], length, get_or}
use Rattle.smp_stratcube.specs.Kept.Layers.{IsFilledUp}
use Rattle.smp_stratcube.proofs.layers.layer_of.Given as goal

-- the values of the units so far
abbrev pub invariant-loop-unit : goal.invariant-loop-unit
invariant-loop-unit l = record {
  count : length l.values.items ≡ l.unit;
  each : (k : ℕ) → k < l.unit → IsFilledUp (get_or l.xs k []) (get_or l.values.items k []);
}
