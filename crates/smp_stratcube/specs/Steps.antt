-- One step of the flight, as a function of the state, and the end of a move. They have the properties of `Stepping`, and no other step
-- has: `strat_law` says both. How they are found is no part of what is said.
use Rattle.smp_stratcube.specs.Moves.{Stepping}
use Rattle.smp_stratcube.specs.Laws.Nexts.{each_step}

-- the steps, of which there is only one kind
pub stepping : Stepping
stepping = each_step

-- what holds of the steps that the code finds holds of these
pub of_steps : (P : Stepping → Type 0) → P each_step → P stepping
unfolding stepping
of_steps P holds = holds

pub from_steps : (P : Stepping → Type 0) → P stepping → P each_step
unfolding stepping
from_steps P holds = holds
