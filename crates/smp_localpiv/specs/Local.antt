-- Local pivotal selection, by the local pivotal method 2 of Grafström, Lundström and Schelin (2012). Each unit lies at a point.
-- As long as two or more units are fractional, each of them may be chosen, with equal weights, and the chosen one meets the
-- nearest of the others in a pivotal step (Deville and Tillé 1998). A unit that is left alone is settled by itself.
use Rattle.std.specs.Prelude.{◌≡◌, ℕ, ◌+◌, ◌*◌, ◌^◌, ◌<◌, true, nat_lt, if◌then◌else◌, ℤ, List, length, map}
use Rattle.std.specs.Prelude.{Option, Some, None, is_some, unwrap_or}
use Rattle.smp_frac.specs.Limits.{most_denominator}
use Rattle.smp_near.specs.Nearest.{LivingPoints, nearest}
use Rattle.smp_prob.specs.Shares.{Shares}
use Rattle.smp_split.specs.Parts.{equal_parts, moved}
use Rattle.smp_split.specs.Trees.{Part, Tree}
use Rattle.smp_split.specs.declared.kind.Kind.TheVariants.{Pivot, Lone, Choose}
use Rattle.smp_values.specs.Steps.{pair_parts, lone_parts}
use Rattle.smp_values.specs.Values.{IsValues, fractional, fractional_at, fractional_count, is_fractional, is_one, is_settled, value_at}

-- where the units lie, their values, and the unit that meets its neighbour next, once it is chosen
pub record Local : Type 0 where
  pub coords : List (List ℤ)
  pub state : Shares
  pub chosen : Option ℕ

-- values of units that lie at these points, with none chosen
abbrev pub located_values : List (List ℤ) → Shares → Local
located_values coords values = record { coords = coords; state = values; chosen = None }

-- the units at their points, of which the fractional ones are living
abbrev pub points_of : Local → LivingPoints
points_of s = record { coords = s.coords; living = map (fractional s.state.den) s.state.numer }

-- The nearest of the other fractional units, the first of them in the frame where several are equally near. There is one as
-- long as two units are fractional.
abbrev pub neighbour : Local → ℕ → ℕ
neighbour s unit = unwrap_or (nearest (points_of s) unit) unit

-- ---- the steps

-- a state with this unit chosen
abbrev pub choosing : Local → ℕ → Local
choosing s unit = record { coords = s.coords; state = s.state; chosen = Some unit }

-- the chosen unit meets its neighbour in a pivotal step
abbrev pub meeting : Local → ℕ → List (Part Local)
meeting s unit = moved (located_values s.coords) (pair_parts s.state unit (neighbour s unit))

-- each fractional unit is chosen with the weight 1, in the order of the frame
abbrev pub choice : Local → List (Part Local)
choice s =
    equal_parts (fractional_count s.state) (λ place. choosing s (fractional_at s.state place))

-- the only fractional unit is settled by itself
abbrev pub settling : Local → List (Part Local)
settling s = moved (located_values s.coords) (lone_parts s.state (fractional_at s.state 0))

-- the parts of a state in which this unit is chosen, or none
abbrev pub parts_from : Local → Option ℕ → List (Part Local)
parts_from s (Some unit) = meeting s unit
parts_from s None = if nat_lt 1 (fractional_count s.state) then choice s else settling s

-- The draw tree over so many units. It is done where no unit is fractional, and selects the units of value 1.
abbrev pub local_tree : ℕ → Tree Local
local_tree units = record {
  units = units;
  done = λ s. is_settled s.state;
  kind = λ s.
      if is_some s.chosen then Pivot else if nat_lt 1 (fractional_count s.state) then Choose else Lone;
  parts = λ s. parts_from s s.chosen;
  rank = λ s. 2 * fractional_count s.state + (if is_some s.chosen then 0 else 1);
  value = λ s unit. value_at s.state unit;
  selected = λ s unit. is_one s.state unit;
}

-- ---- the states of a selection

-- a unit that may meet its neighbour: it is fractional, and another one is
pub record MayMeet (s : Shares) (unit : ℕ) : Type 0 where
  pub open_at : is_fractional s unit ≡ true
  pub another : 1 < fractional_count s

-- a unit that is chosen may meet its neighbour
abbrev pub IsChosen : Shares → Option ℕ → Type 0
IsChosen s None = Unit {0}
IsChosen s (Some unit) = MayMeet s unit

-- a state of a selection of so many units
pub record IsLocal (units : ℕ) (s : Local) : Type 0 where
  pub values : IsValues units most_denominator s.state
  pub few : units < 2 ^ 64
  pub placed : length s.coords ≡ units
  pub meets : IsChosen s.state s.chosen
