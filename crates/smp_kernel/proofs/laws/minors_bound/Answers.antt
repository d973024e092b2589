use Rattle.smp_kernel.proofs.{Minors.{entry_bound}, MinorSizes.{minor_bound}, TableSizes.{table_fits}, SearchSizes.{not_too_wide}}
use Rattle.smp_kernel.proofs.{CircuitSizes.{circuits_within, denominator_of}, OneRelation.{fewer_rows, without_one}}
use Rattle.smp_kernel.proofs.laws.minors_bound.Goals as goal

pub returns : goal.returns
returns c = record {
  entries = λ q before after column e rows prim short ob oa below off some xs ys x s.
      entry_bound q before after column e rows prim short ob oa below off some xs ys x s;
  small = minor_bound;
  tables = table_fits;
  circuits = circuits_within;
  searches = not_too_wide;
  denominators = denominator_of;
  one_relation = without_one;
  fewer_rows = fewer_rows;
}
