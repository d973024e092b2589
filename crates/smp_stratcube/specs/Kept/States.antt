-- What the code keeps of a state.
use Rattle.std.specs.Prelude.{◌≡◌, ◌*◌, ◌≤◌, false, length, Option, Some, None}
use Rattle.smp_frac.specs.Limits.{most_rows}
use Rattle.smp_moves.specs.Kept.Phases.{balancing_of}
use Rattle.smp_moves.specs.declared.phases.Phase.{Phase}
use Rattle.smp_moves.specs.declared.phases.Phase.TheVariants.{Flying, Pairing}
use Rattle.smp_stratcube.specs.declared.state.StratCourse.{StratCourse}
use Rattle.smp_stratcube.specs.declared.units.Member.{Member}
use Rattle.smp_stratcube.specs.declared.values.Value.{Value}
use Rattle.smp_stratcube.specs.Units.{Units}
use Rattle.smp_stratcube.specs.States.{Balancing, Flight, IsFlying, IsPairing}
use Rattle.smp_stratcube.specs.Kept.Fronts.{IsFront}
use Rattle.smp_stratcube.specs.Kept.Computed.{flight_of}
use Rattle.smp_stratcube.specs.Kept.Moves.{Answer, IsStep}

-- the value with which a unit starts
abbrev pub requested_value : Member → Value
requested_value m = record { at = m.share; touched = false }

-- as long as the flight goes on, the answer is its next step
abbrev pub IsNextIn : Phase → Units → Flight → Answer → Type 0
IsNextIn Flying units f answer = IsStep units f answer
IsNextIn Pairing units f answer = Unit {0}

-- the state that is seen
abbrev pub seen : StratCourse → Balancing
seen c = balancing_of c.phase (flight_of c.of.value c.values.items c.rows) c.values.items c.left

-- the units can be counted, the first fractional ones are known, and so is the next step of the flight
pub record IsKept (c : StratCourse) : Type 0 where
  pub few : length c.values.items ≤ 15 * most_rows
  pub first : IsFront c.values.items c.front
  pub step : IsNextIn c.phase c.of.value (flight_of c.of.value c.values.items c.rows) c.found.value

-- its next step, in flight
pub record Flies (units : Units) (c : StratCourse) (answer : Answer) : Type 0 where
  pub flying : c.phase ≡ Flying
  pub own : c.of.value ≡ units
  pub flight : IsFlying units (flight_of units c.values.items c.rows)
  pub step : IsStep units (flight_of units c.values.items c.rows) answer
  pub few : length c.values.items ≤ 15 * most_rows
  pub first : IsFront c.values.items c.front

-- its next step, where that is a pivotal one
pub record Pairs (units : Units) (c : StratCourse) : Type 0 where
  pub pairing : c.phase ≡ Pairing
  pub state : IsPairing units c.values.items
  pub few : length c.values.items ≤ 15 * most_rows
  pub first : IsFront c.values.items c.front

-- what is found of its next step
abbrev pub Finds : Units → StratCourse → Option Answer → Type 0
Finds units c (Some answer) = Flies units c answer
Finds units c None = Pairs units c
