use Rattle.std.proofs.Common.{refl}
use Rattle.smp_stratcube.specs.{Values.{fractional_units}, Steps.{stepping}, Laws.Splits.{tree_lawful}}
use Rattle.smp_stratcube.proofs.{Balances.{strat_balanced}, WholeStrata.{has_counts}, FirstPairs.{each_pair}, OneStep.{one_next}}
use Rattle.smp_stratcube.proofs.laws.strat_law.Goals as goal

pub returns : goal.returns
returns c = record {
  lawful = tree_lawful;
  balanced = strat_balanced;
  next = λ units f ok. stepping.is_next units f (fractional_units f.values) (ok, refl);
  counted = has_counts;
  one = one_next;
  pair = each_pair;
}
