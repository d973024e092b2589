-- The local cube, a method of this project's own: a selection by flight and landing (Deville and Tillé 2004) in which the neighbours
-- of one unit fly together. Each unit lies at a point. The units that a move has changed and left fractional are carried on by the
-- next one. Where there are none, each fractional unit may be chosen, with equal weights, and its nearest neighbours fly with it.
use Rattle.std.specs.Prelude.{◌≡◌, ℕ, ◌+◌, ◌*◌, true, Bool, not, nat_eq, ◌&&◌, ◌||◌, if◌then◌else◌}
use Rattle.std.specs.Prelude.{List, [], ◌∷◌, ◌++◌, ℤ, length, map, Option, Some, None, IfSome, is_some, option_map, unwrap_or}
use Rattle.std.specs.Int.RustNames.{unsigned_abs}
use Rattle.std.specs.List.{filter, list_any, range_with_len}
use Rattle.smp_near.specs.Nearest.{LivingPoints, neighbours}
use Rattle.smp_prob.specs.Shares.{Shares}
use Rattle.smp_split.specs.Parts.{equal_parts, moved}
use Rattle.smp_split.specs.Trees.{Part, Tree}
use Rattle.smp_split.specs.declared.kind.Kind.{Kind}
use Rattle.smp_split.specs.declared.kind.Kind.TheVariants as kind
use Rattle.smp_values.specs.Steps.{pivotal_kind, pivotal_parts}
use Rattle.smp_values.specs.Values.{fractional_at, fractional_count, fractional_units, is_fractional, is_one, is_settled, value_at}
use Rattle.smp_moves.specs.Moves.{entry_of, Next, move, independent, wide}
use Rattle.smp_moves.specs.Cubes.{flying, pairing, flight_kind, flight_parts, rank_in, values_in}
use Rattle.smp_flight.specs.Selections.{Balancing, IsBalancing, Selection, shares_cube}
use Rattle.smp_flight.specs.States.{Flight, Units}
use Rattle.smp_flight.specs.Steps.{next_on}

-- A state: where the units lie; the state of flight or landing; the fractional units that moves have changed, in the order of the
-- frame; and the unit that was chosen since the last move.
pub record Local : Type 0 where
  pub coords : List (List ℤ)
  pub at : Balancing
  pub touched : List ℕ
  pub chosen : Option ℕ

-- ---- the order of a search

-- whether a unit is one of these
abbrev pub is_one_of : List ℕ → ℕ → Bool
is_one_of units k = list_any (λ unit. nat_eq unit k) units

-- the head of a search: the first touched unit, or else the one that was chosen
abbrev pub head_of : List ℕ → Option ℕ → Option ℕ
head_of [] chosen = chosen
head_of (unit ∷ touched) chosen = Some unit

-- the touched units, or the head alone where there are none
abbrev pub front_of : List ℕ → ℕ → List ℕ
front_of [] head = head ∷ []
front_of (unit ∷ touched) head = unit ∷ touched

-- the units at their points, of which the untouched ones are living: those that are fractional and that no move has changed
abbrev pub untouched : List (List ℤ) → Shares → List ℕ → LivingPoints
untouched coords s touched = record {
  coords = coords;
  living = map (λ k. is_fractional s k && not (is_one_of touched k)) (range_with_len 0 (length s.numer));
}

-- what a search with this head goes through: the touched units in the order of the frame, or the head alone, and then the other
-- untouched ones, by their squared distance to the head, ties in the order of the frame
abbrev pub order_around : List (List ℤ) → Shares → List ℕ → ℕ → List ℕ
order_around coords s touched head = front_of touched head ++ neighbours (untouched coords s touched) head

-- ---- the steps

-- The state after a step of flight or landing. After a move the touched units are the fractional ones among them and among those that it
-- changes, and the chosen unit is let go.
abbrev pub after : Local → Next → Balancing → Local
after s (move m) t = record {
  coords = s.coords;
  at = t;
  touched =
      filter (λ k. is_one_of s.touched k || not (nat_eq (unsigned_abs (entry_of m.direction k)) 0)) (fractional_units (values_in t));
  chosen = None;
}
after s independent t = record s { at = t }
after s wide t = record s { at = t }

-- the next step of a state in flight, none where a unit is to be chosen first
abbrev pub next_from : Units → Local → Flight → Option Next
next_from units s f =
    option_map (λ head. next_on units (order_around s.coords f.values s.touched head) f) (head_of s.touched s.chosen)

-- the parts of a state in flight, by its next step: where there is none, each fractional unit is chosen with the weight 1, in the order of
-- the frame
abbrev pub parts_in_flight : Units → Local → Flight → ℕ → Option Next → List (Part Local)
parts_in_flight units s f left None =
    equal_parts (fractional_count f.values) (λ place. record s { chosen = Some (fractional_at f.values place) })
parts_in_flight units s f left (Some next) = moved (after s next) (flight_parts (shares_cube units) f left next)

-- the parts of a state's step
abbrev pub parts_from : Units → Local → Balancing → List (Part Local)
parts_from units s (flying f left) = parts_in_flight units s f left (next_from units s f)
parts_from units s (pairing t left) = moved (λ (v : Shares). record s { at = pairing v left }) (pivotal_parts t)

-- the kind of a state's step
abbrev pub kind_from : Units → Local → Balancing → Kind
kind_from units s (flying f left) = unwrap_or (option_map flight_kind (next_from units s f)) kind.Choose
kind_from units s (pairing t left) = pivotal_kind t

-- ---- the design

-- The draw tree of the local cube. It is done where no unit is fractional, and selects the units of value 1. Its rank is twice that in
-- flight and landing, and one more where no unit is chosen: a choice lasts until the next move.
abbrev pub local_tree : Units → Tree Local
local_tree units = record {
  units = length units.sizes;
  done = λ s. is_settled (values_in s.at);
  kind = λ s. kind_from units s s.at;
  parts = λ s. parts_from units s s.at;
  rank = λ s. 2 * rank_in fractional_count s.at + (if is_some s.chosen then 0 else 1);
  value = λ s unit. value_at (values_in s.at) unit;
  selected = λ s unit. is_one (values_in s.at) unit;
}

-- what the search of a state goes through: the fractional units in frame order where it has no head, and in pivotal steps
abbrev pub order_from : Local → Balancing → List ℕ
order_from s (flying f left) =
    unwrap_or (option_map (order_around s.coords f.values s.touched) (head_of s.touched s.chosen)) (fractional_units f.values)
order_from s (pairing t left) = fractional_units t

-- the local cube as a selection
abbrev pub local_of : Units → Selection Local
local_of units = record { units = units; tree = local_tree units; seen = λ s. s.at; order = λ s. order_from s s.at }

-- ---- the states of a selection

-- In flight, the touched units are fractional and in the order of the frame, and so is a unit that is chosen.
pub record IsCarried (s : Shares) (touched : List ℕ) (chosen : Option ℕ) : Type 0 where
  pub touched_are : touched ≡ filter (is_one_of touched) (fractional_units s)
  pub chosen_is : IfSome chosen (λ unit. is_fractional s unit ≡ true)

-- of a state in flight, that the touched units and the chosen one are carried (`IsCarried`); of one in pivotal steps nothing
abbrev pub AreCarried : Balancing → List ℕ → Option ℕ → Type 0
AreCarried (flying f left) touched chosen = IsCarried f.values touched chosen
AreCarried (pairing t left) touched chosen = Unit {0}

-- a state of a selection of these units
pub record IsLocal (units : Units) (s : Local) : Type 0 where
  pub state : IsBalancing units s.at
  pub carried : AreCarried s.at s.touched s.chosen
