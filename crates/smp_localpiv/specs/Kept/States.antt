-- What the code keeps of a state, and of a design.
use Rattle.std.specs.Prelude.{◌≡◌, ℕ, ◌≤◌, ◌<◌, ◌^◌, Bool, if◌then◌else◌, List, ℤ, Option, Some, None, length}
use Rattle.std.specs.Prelude.{map}
use Rattle.smp_frac.specs.Limits.{most_denominator}
use Rattle.smp_near.specs.Nearest.{LivingPoints}
use Rattle.smp_prob.specs.Shares.{Shares}
use Rattle.smp_values.specs.Values.{AllFractional, IsValues, fractional}
use Rattle.smp_localpiv.specs.Local.{located_values, neighbour}

-- the weight of each unit in a choice: 1 where it is fractional
abbrev pub weights_of : Shares → List ℕ
weights_of s = map (λ a. if fractional s.den a then 1 else 0) s.numer

-- the points of the fractional units are living, and the weights are known
pub record IsWeighed (living : List Bool) (values : Shares) (weights : List ℕ) : Type 0 where
  pub alive : living ≡ map (fractional values.den) values.numer
  pub weights_are : weights ≡ weights_of values

-- the unit that is chosen, of it and its neighbour
abbrev pub chosen_unit : Option (ℕ × ℕ) → Option ℕ
chosen_unit None = None
chosen_unit (Some pair) = Some pair.0

-- the second of a chosen pair is the neighbour of the first
abbrev pub IsPaired : List (List ℤ) → Shares → Option (ℕ × ℕ) → Type 0
IsPaired coords values None = Unit {0}
IsPaired coords values (Some pair) = pair.1 ≡ neighbour (located_values coords values) pair.0

-- in a state
pub record IsKept (points : LivingPoints) (values : Shares) (weights : List ℕ)
    (chosen : Option (ℕ × ℕ)) : Type 0 where
  pub weighed : IsWeighed points.living values weights
  pub paired : IsPaired points.coords values chosen

-- in a design: each value is fractional, and each unit has a point
pub record IsOpen (dimensions : ℕ) (coords : List (List ℤ)) (s : Shares) : Type 0 where
  pub few : (1 ≤ dimensions) × (dimensions ≤ 4)
  pub values : IsValues (length s.numer) most_denominator s
  pub narrow : length s.numer < 2 ^ 64
  pub placed : length coords ≡ length s.numer
  pub open_at : AllFractional s
