use Rattle.std.proofs.Common.{◌≡◌, ◌++◌, drop, map, flat_map, Some, option_map}
use Rattle.smp_weights.specs.{Chosen.{chosen_units}, Sample.{sample_row_of, chosen_unit, sample_text}}
use Rattle.smp_weights.proofs.sample.sample_bytes.Given as goal

abbrev pub invariant-loop-place : goal.invariant-loop-place
invariant-loop-place l =
    option_map (λ text. text ++ flat_map sample_row_of (map chosen_unit (chosen_units (drop l.place l.ids) (drop l.place l.asked) (drop l.place l.chosen)))) l.rows ≡ Some (sample_text l.ids l.asked l.chosen)
