-- Units that stand in an order, which may be drawn first. A design over places settles what stands at each place.
use Rattle.std.specs.Prelude.{◌≡◌, ℕ, ◌+◌, ◌-◌, ◌^◌, ◌≤◌, ◌<◌, nat_eq, ◌&&◌, if◌then◌else◌, List}
use Rattle.std.specs.Prelude.{length, map, slice_index}
use Rattle.std.specs.List.{range_with_len}
use Rattle.std.specs.List.Sorted.{IsPermutation}
use Rattle.smp_split.specs.declared.kind.Kind.TheVariants.{Order}
use Rattle.smp_split.specs.Trees.{Part, Tree}
use Rattle.smp_split.specs.Parts.{equal_parts, moved}

-- at one of two places the other one, and at any other place that place
abbrev pub exchange : ℕ → ℕ → ℕ → ℕ
exchange i j place = if nat_eq place i then j else if nat_eq place j then i else place

-- the place of each unit in the order, and how many steps of the order are left
pub record Placing : Type 0 where
  pub places : List ℕ
  pub left : ℕ

-- the units as they stand in the frame
abbrev pub frame_order : ℕ → Placing
frame_order units = record { places = range_with_len 0 units; left = 0 }

-- the units as they stand in the frame, before an order is drawn by one step less than there are units
abbrev pub undrawn_order : ℕ → Placing
undrawn_order units = record { places = range_with_len 0 units; left = units - 1 }

-- The place that the next step decides: 0 at the first step, 1 at the next, and so on.
abbrev pub next_place : Placing → ℕ
next_place order = length order.places - 1 - order.left

-- an order with one step less, and the units at two places exchanged
abbrev pub exchanged_order : Placing → ℕ → ℕ → Placing
exchanged_order order i j =
    record { places = map (exchange i j) order.places; left = order.left - 1 }

-- where the units stand, and a state of the design over places
pub record Ordered (State : Type 0) : Type 0 where
  pub order : Placing
  pub state : State

-- what stands at two places exchanged, where `exchanged` does so with states over places
abbrev pub exchanged_at : {State : Type 0} → (ℕ → ℕ → State → State) → Ordered State → ℕ → ℕ
    → Ordered State
exchanged_at exchanged s i j =
    record { order = exchanged_order s.order i j; state = exchanged i j s.state }

-- a step of the order: each draw v, with weight 1, exchanges what stands at the next place and v places on
abbrev pub order_parts : {State : Type 0} → (ℕ → ℕ → State → State) → Ordered State
    → List (Part (Ordered State))
order_parts exchanged s =
    equal_parts (s.order.left + 1)
    (λ v. exchanged_at exchanged s (next_place s.order) (next_place s.order + v))

-- a state over places, in this order
abbrev pub in_order : {State : Type 0} → Placing → State → Ordered State
in_order order state = record { order = order; state = state }

-- The design over places, once the order is drawn. A unit has the value of its place, and is selected where its place is.
abbrev pub ordered_tree : {State : Type 0} → Tree State → (ℕ → ℕ → State → State)
    → Tree (Ordered State)
ordered_tree tree exchanged = record {
  units = tree.units;
  done = λ s. nat_eq s.order.left 0 && tree.done s.state;
  kind = λ s. if nat_eq s.order.left 0 then tree.kind s.state else Order;
  parts = λ s.
      if nat_eq s.order.left 0 then moved (in_order s.order) (tree.parts s.state)
      else order_parts exchanged s;
  rank = λ s. s.order.left + tree.rank s.state;
  value = λ s unit. tree.value s.state (slice_index s.order.places unit);
  selected = λ s unit. tree.selected s.state (slice_index s.order.places unit);
}

-- ---- what the law of such a design rests on

-- each of so many units has a place of its own
pub record IsPlacing (units : ℕ) (order : Placing) : Type 0 where
  pub permuted : IsPermutation (range_with_len 0 units) order.places
  pub few : units < 2 ^ 64
  pub fewer : order.left ≤ units - 1

-- and what stands at the places is a state of the design over places
pub record IsInOrder {State : Type 0} (units : ℕ) (belongs : State → Type 0)
    (s : Ordered State) : Type 0 where
  pub order : IsPlacing units s.order
  pub state : belongs s.state

-- an exchange of two places leads to a state of the design, and moves their values alone
pub record IsExchange {State : Type 0} (tree : Tree State) (belongs : State → Type 0)
    (exchanged : ℕ → ℕ → State → State) : Type 0 where
  pub member : (i j : ℕ) (s : State) → i < tree.units → j < tree.units → belongs s
      → belongs (exchanged i j s)
  pub rank : (i j : ℕ) (s : State) → i < tree.units → j < tree.units → belongs s
      → tree.rank (exchanged i j s) ≡ tree.rank s
  pub value : (i j : ℕ) (s : State) → i < tree.units → j < tree.units → belongs s → (place : ℕ)
      → tree.value (exchanged i j s) (exchange i j place) ≡ tree.value s place

-- ---- what the code keeps of an order

-- the place of each unit, and the unit at each place
pub record IsMirrored (places units : List ℕ) (left : ℕ) : Type 0 where
  pub same : length units ≡ length places
  pub unit_at : (unit : ℕ) → unit < length places → (slice_index places unit < length places)
      × (slice_index units (slice_index places unit) ≡ unit)
  pub place_of : (place : ℕ) → place < length places → (slice_index units place < length places)
      × (slice_index places (slice_index units place) ≡ place)
  pub fewer : left ≤ length places - 1
