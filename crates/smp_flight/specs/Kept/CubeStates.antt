-- What the code keeps of a state of the cube.
use Rattle.std.specs.Prelude.{◌≡◌, length, Option, Some, None}
use Rattle.smp_prob.specs.Shares.{Shares}
use Rattle.smp_flight.specs.States.{AreFirst, IsFlight, Tracked, Units}
use Rattle.smp_flight.specs.Steps.{next}
use Rattle.smp_flight.specs.Answers.{Allows, Answer, IsFirstMove, answer_of}
use Rattle.smp_flight.specs.Landings.{HasRoom}
use Rattle.smp_flight.specs.declared.landing.Landing.{Landing}
use Rattle.smp_moves.specs.declared.phases.Phase.{Phase}
use Rattle.smp_moves.specs.declared.phases.Phase.TheVariants.{Flying, Pairing}

-- as long as it flies, there is room for the values of the pivotal steps, and the window is among the first fractional units
abbrev pub IsKept : Phase → Tracked → Shares → Type 0
IsKept Flying f room = HasRoom (length f.flight.values.numer) room × AreFirst f.flight f.window
IsKept Pairing f room = Unit {0}

-- its next step, in flight
pub record Flies (units : Units) (l : Landing) (answer : Answer) : Type 0 where
  pub flying : l.phase ≡ Flying
  pub flight : IsFlight units l.flight.flight
  pub room : HasRoom (length l.flight.flight.values.numer) l.room
  pub first : AreFirst l.flight.flight l.flight.window
  pub is : answer_of answer ≡ next units l.flight.flight
  pub allows : Allows (IsFirstMove units l.flight) units l.flight answer

-- what is found of its next step
abbrev pub Finds : Units → Landing → Option Answer → Type 0
Finds units l (Some answer) = Flies units l answer
Finds units l None = l.phase ≡ Pairing
