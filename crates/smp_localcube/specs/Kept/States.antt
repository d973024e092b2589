-- What the code keeps of a design and of a state.
use Rattle.std.specs.Prelude.{◌≡◌, ℕ, ◌≤◌, Bool, not, nat_eq, ◌&&◌, if◌then◌else◌, List, ℤ, length, drop}
use Rattle.std.specs.Prelude.{map, take, Option, Some, None, IfSome, option_map}
use Rattle.std.specs.Int.RustNames.{unsigned_abs}
use Rattle.std.specs.List.{filter}
use Rattle.smp_near.specs.Nearest.{LivingPoints, is_living}
use Rattle.smp_prob.specs.Shares.{Shares}
use Rattle.smp_values.specs.Values.{AllFractional, fractional_units}
use Rattle.smp_moves.specs.Moves.{Line, entry_of, Next}
use Rattle.smp_flight.specs.States.{Flight, IsFlight, Tracked, Units}
use Rattle.smp_moves.specs.Cubes.{flying}
use Rattle.smp_flight.specs.Landings.{HasRoom, balancing_in}
use Rattle.smp_flight.specs.Answers.{Allows, Answer, IsMoveOf, answer_of}
use Rattle.smp_flight.specs.declared.landing.Landing.{Landing}
use Rattle.smp_flight.specs.Steps.{next_on}
use Rattle.smp_localcube.specs.Local.{IsCarried, IsLocal, Local, head_of, is_one_of, order_around, untouched}
use Rattle.smp_localcube.specs.declared.orders.Order.{Order}
use Rattle.smp_moves.specs.declared.phases.Phase.{Phase}
use Rattle.smp_moves.specs.declared.phases.Phase.TheVariants.{Flying, Pairing}

-- of a design: each unit has a point and may be selected or not
pub record IsPlaced (dimensions : ℕ) (units : Units) (coords : List (List ℤ)) (count : ℕ) : Type 0 where
  pub few : (1 ≤ dimensions) × (dimensions ≤ 4)
  pub count_is : count ≡ length units.sizes
  pub placed : length coords ≡ length units.sizes
  pub open_at : AllFractional units.requested

-- the units in the first places of an array
abbrev pub order_units : Order → List ℕ
order_units order = take order.number order.units

-- the touched units, in the order of the frame
abbrev pub touched_in : Tracked → List ℕ
touched_in f = filter (is_one_of f.window) (fractional_units f.flight.values)

-- the next step of a flight with these touched units and this head
abbrev pub next_around : Units → List (List ℤ) → Flight → List ℕ → ℕ → Next
next_around units coords f touched head = next_on units (order_around coords f.values touched head) f

-- whether a line changes a unit
abbrev pub is_changed : Line → ℕ → Bool
is_changed line k = not (nat_eq (unsigned_abs (entry_of line k)) 0)

-- the rest of a line, from a place on
abbrev pub line_from : Line → ℕ → Line
line_from line place = record { units = drop place line.units; entries = drop place line.entries }

-- the units that a line changes are living no more, but for those that the rest of it changes
pub record AreTouched (before : LivingPoints) (line rest : Line) (now : LivingPoints) : Type 0 where
  pub coords : now.coords ≡ before.coords
  pub count : length now.living ≡ length before.living
  pub living : (k : ℕ) → (is_living now k && not (is_changed rest k)) ≡ (is_living before k && not (is_changed line k))

-- a state by its flight and landing, its points, and the unit that is chosen
abbrev pub state_of : Landing → LivingPoints → Option ℕ → Local
state_of l points chosen = record {
  coords = points.coords;
  at = balancing_in l;
  touched = touched_in l.flight;
  chosen = chosen;
}

-- the weight of each unit in a choice: 1 where its point is living
abbrev pub weights_of : List Bool → List ℕ
weights_of living = map (λ alive. if alive then 1 else 0) living

-- As long as it flies, there is room for the values of the pivotal steps, each unit has a point, the points of those that no move has
-- changed are living, and these have the weight 1.
pub record IsReady (f : Tracked) (values : Shares) (points : LivingPoints) (weights : List ℕ) : Type 0 where
  pub room : HasRoom (length f.flight.values.numer) values
  pub placed : length points.coords ≡ length f.flight.values.numer
  pub living : points.living ≡ (untouched points.coords f.flight.values (touched_in f)).living
  pub weighed : weights ≡ weights_of points.living

-- A flight that can be searched: it is one of these units, the touched units and the chosen one are carried, each unit has a point, and
-- the points of those that no move has changed are living.
pub record IsSearchable (units : Units) (f : Tracked) (points : LivingPoints) (chosen : Option ℕ) : Type 0 where
  pub flight : IsFlight units f.flight
  pub carried : IsCarried f.flight.values (touched_in f) chosen
  pub placed : length points.coords ≡ length f.flight.values.numer
  pub living : points.living ≡ (untouched points.coords f.flight.values (touched_in f)).living

-- the next step of a flight, none where a unit is to be chosen first
pub record IsSearched (units : Units) (f : Tracked) (coords : List (List ℤ)) (chosen : Option ℕ) (found : Option Answer) : Type 0 where
  pub is : option_map answer_of found ≡ option_map (next_around units coords f.flight (touched_in f)) (head_of (touched_in f) chosen)
  pub allows : IfSome found (Allows (IsMoveOf units f) units f)

-- and the step that is kept is the next one
pub record IsFlownOn (f : Tracked) (room : Shares) (points : LivingPoints) (weights : List ℕ)
    (chosen : Option ℕ) (found : Option Answer) : Type 0 where
  pub ready : IsReady f room points weights
  pub searched : IsSearched f.flight.fixed f points.coords chosen found

-- of the steps of a state, as long as it flies
abbrev pub IsKeptIn : Phase → Landing → LivingPoints → List ℕ → Option ℕ → Option Answer → Type 0
IsKeptIn Flying l points weights chosen found = IsFlownOn l.flight l.room points weights chosen found
IsKeptIn Pairing l points weights chosen found = Unit {0}

abbrev pub IsKept : Landing → LivingPoints → List ℕ → Option ℕ → Option Answer → Type 0
IsKept l = IsKeptIn l.phase l

-- a state in flight
abbrev pub in_flight : Tracked → ℕ → LivingPoints → Option ℕ → Local
in_flight f left points chosen = record { coords = points.coords; at = flying f.flight left; touched = touched_in f; chosen = chosen }

-- What holds of a state in flight: what it is, what is kept of it, and that this is its next step.
pub record Standing (units : Units) (l : Landing) (points : LivingPoints) (weights : List ℕ) (chosen : Option ℕ)
    (found : Option Answer) : Type 0 where
  pub flying : l.phase ≡ Flying
  pub here : IsLocal units (in_flight l.flight l.left points chosen)
  pub ready : IsReady l.flight l.room points weights
  pub searched : IsSearched units l.flight points.coords chosen found

-- what is found of its next step
abbrev pub Finds : Units → Landing → LivingPoints → List ℕ → Option ℕ → Option Answer → Type 0
Finds units l points weights chosen (Some answer) = Standing units l points weights chosen (Some answer)
Finds units l points weights chosen None = l.phase ≡ Flying → Standing units l points weights chosen None
