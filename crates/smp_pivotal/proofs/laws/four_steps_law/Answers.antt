use Rattle.smp_pivotal.proofs.Four.{are_four_fractions, are_four_values, is_four_tree}
use Rattle.smp_pivotal.proofs.laws.four_steps_law.Goals as goal

pub returns : goal.returns
returns c = record { tree = is_four_tree; values = are_four_values; fractions = are_four_fractions }
