-- One step of the flight phase, as a function of the state, and the end of a move. They have the properties of `Stepping`, and no other
-- step has: `step_law` says both. How they are found is no part of what is said.
use Rattle.std.specs.Prelude.{◌≡◌, ℕ, Bool, List}
use Rattle.smp_prob.specs.Shares.{Shares}
use Rattle.smp_values.specs.Values.{fractional_units}
use Rattle.smp_moves.specs.Moves.{IsOrder, Line, Move, Next}
use Rattle.smp_moves.specs.Cubes.{chosen_by}
use Rattle.smp_moves.specs.Ends.{end_of}
use Rattle.smp_flight.specs.States.{Units, Flight, IsFlight}
use Rattle.smp_moves.specs.Steps.{Stepping}
use Rattle.smp_flight.specs.Moves.{setting_of}
use Rattle.smp_moves.specs.Kept.Computed.{next_by}
use Rattle.smp_flight.specs.Laws.Nexts.{each_step}

-- the steps of a state of the flight and any fractional units, of which there is only one kind
pub stepping : Stepping setting_of (λ units s order. IsFlight units s × IsOrder s.values order)
stepping = each_step

-- the step of a state whose search goes through the columns of these units
abbrev pub next_on : Units → List ℕ → Flight → Next
next_on = stepping.next_on

-- the step of a state, whose search goes through the fractional units in the order of the frame
abbrev pub next : Units → Flight → Next
next units s = next_on units (fractional_units s.values) s

-- the state at the end that is chosen
abbrev pub chosen : Units → Flight → Move → Bool → Flight
chosen units = chosen_by (stepping.end_at units)

-- ---- how they are found

pub next_on_is : (units : Units) (order : List ℕ) (s : Flight)
    → next_on units order s ≡ next_by (setting_of units) (end_of units.requested.den) order s
unfolding stepping
next_on_is units order s = λ i. next_by (setting_of units) (end_of units.requested.den) order s

pub end_at_is : (units : Units) (s : Shares) (line : Line) → stepping.end_at units s line ≡ end_of units.requested.den s line
unfolding stepping
end_at_is units s line = λ i. end_of units.requested.den s line
