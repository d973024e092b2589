-- A state of a method's own starts a selection.
use Rattle.smp_split.specs.{Counts.{LeavesSelectAround}, Methods.{HasCount, HasMeans, Method, Starts}}
use Rattle.smp_split.proofs.Counts.{around_select}
use Rattle.smp_split.specs.Laws.Means.{mean_is_value, probability_is_value}

pub has_means : {State : Type 0} (method : Method State) (state : State) → method.belongs state → HasMeans method state
has_means method state here = record {
  member = here;
  mean = λ c. mean_is_value method.tree method.belongs method.lawful c state here;
  probability = probability_is_value method.tree method.belongs method.lawful state here;
}

pub starts : {State : Type 0} (method : Method State) (state : State) → method.belongs state → HasCount method.tree state → Starts method state
starts method state here count = record { means = has_means method state here; count = count }

-- the same, where each leaf selects one of the whole numbers around the sum
pub starts_around : {State : Type 0} (method : Method State) (state : State) → method.belongs state → LeavesSelectAround method.tree state → Starts method state
starts_around method state here around = starts method state here (λ n. around_select method.tree n state around)
