use Rattle.std.proofs.Common.{◌≡◌, ◌<◌, ℕ, [], drop, get_or, map}
use Rattle.smp_strata.specs.{Clusters.{strata_numbers}, Misfits.{first_found}, Kept.Built.{IsBuiltFirst, second_short, so_far}}
use Rattle.smp_strata.specs.Kept.Layouts.{strata_homes}
use Rattle.smp_strata.proofs.building.put_units.Given as goal

abbrev pub invariant-loop-cluster : goal.invariant-loop-cluster
invariant-loop-cluster l = record {
  strata : l.begun.items ≡ map (so_far l.design l.units (strata_homes l.units l.clusters.rows) l.cluster) (strata_numbers l.units);
  firsts : (j : ℕ) → j < l.cluster → IsBuiltFirst l.design l.units (get_or l.clusters.rows j []);
  none : first_found (second_short l.design.second l.units) (drop l.cluster l.clusters.rows) ≡ first_found (second_short l.design.second l.units) l.clusters.rows;
}
