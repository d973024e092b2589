-- A selection in stages: in each stage units are selected by a design of its own, one stage after another. A second stage selects within a
-- unit of a first stage, and is drawn where that unit was selected (Särndal, Swensson and Wretman 1992).
use Rattle.std.specs.Prelude.{◌≡◌, ℕ, zero, suc, ◌+◌, ◌<◌, Bool, true, false, not, ◌&&◌, nat_eq, if◌then◌else◌}
use Rattle.std.specs.Prelude.{List, [], ◌∷◌, length, set, Option, Some, None}
use Rattle.std.specs.List.{slice_get}
use Rattle.smp_frac.specs.Fractions.{Fraction, whole, times}
use Rattle.smp_split.specs.Methods.{Method, owns, trees}
use Rattle.smp_split.specs.Parts.{moved}
use Rattle.smp_split.specs.Trees.{Part, Tree}
use Rattle.smp_split.specs.declared.kind.Kind.{Kind}
use Rattle.smp_split.specs.declared.kind.Kind.TheVariants.{Pivot}
use Rattle.smp_split.specs.declared.places.Place.{Place}
use Rattle.smp_split.specs.declared.places.Seat.{Seat}
use Rattle.smp_split.specs.declared.places.Seat.TheVariants.{First, Second}
use Rattle.smp_split.specs.declared.places.Stage.{Stage}

-- the states of the stages, and the number of the stage that is under way, or the number of stages where none is
pub record Progress (State : Type 0) : Type 0 where
  pub states : List State
  pub at : ℕ

-- the first of n numbers from i on that passes a test, or the number after them
abbrev pub first_among : (ℕ → Bool) → ℕ → ℕ → ℕ
first_among test zero i = i
first_among test (suc n) i = if test i then i else first_among test n (i + 1)

-- the unit within which a stage selects
abbrev pub within_of : {Design : Type 0} → Option (Stage Design) → Option Place
within_of (Some stage) = stage.within
within_of None = None

-- The value of a row, where the units of the stages have these values: that of its unit in the first stage, times that of its unit in the
-- second stage where it is in one. A row that has no seat has the value 0.
abbrev pub seat_value : (Place → Fraction) → Option Seat → Fraction
seat_value value (Some (First place)) = value place
seat_value value (Some (Second first second)) = times (value first) (value second)
seat_value value other = whole 0

-- a row is selected where its units are
abbrev pub seat_selected : (Place → Bool) → Option Seat → Bool
seat_selected selected (Some (First place)) = selected place
seat_selected selected (Some (Second first second)) = selected first && selected second
seat_selected selected other = false

module _ {Design State : Type 0} (tree_of : Design → Tree State) where
  -- ---- a stage in its state

  -- what the stage's tree says of its state, and `none` where there is no such stage
  abbrev pub read : {R : Type 0} → R → (Tree State → State → R) → Option (Stage Design) → Option State → R
  read none says (Some stage) (Some state) = says (tree_of stage.design) state
  read none says stage state = none

  abbrev pub units_of : Option (Stage Design) → ℕ
  units_of (Some stage) = (tree_of stage.design).units
  units_of None = 0

  -- the ranks of the stages' states, added up
  abbrev pub rank_sum : List (Stage Design) → List State → ℕ
  rank_sum (stage ∷ stages) (state ∷ states) = (tree_of stage.design).rank state + rank_sum stages states
  rank_sum stages states = 0

  module _ (stages : List (Stage Design)) where
    -- whether a stage is done
    abbrev pub stage_done : List State → ℕ → Bool
    stage_done states i = read true (λ tree state. tree.done state) (slice_get stages i) (slice_get states i)

    -- the kind of a stage's next step
    abbrev pub stage_kind : List State → ℕ → Kind
    stage_kind states i = read Pivot (λ tree state. tree.kind state) (slice_get stages i) (slice_get states i)

    -- the parts of a stage's next step
    abbrev pub stage_parts : List State → ℕ → List (Part State)
    stage_parts states i = read [] (λ tree state. tree.parts state) (slice_get stages i) (slice_get states i)

    -- the value of a unit in its own stage
    abbrev pub unit_value : List State → Place → Fraction
    unit_value states place = read (whole 0) (λ tree state. tree.value state place.unit)
        (slice_get stages place.stage) (slice_get states place.stage)

    -- whether a unit is selected in its own stage
    abbrev pub unit_selected : List State → Place → Bool
    unit_selected states place = read false (λ tree state. tree.selected state place.unit)
        (slice_get stages place.stage) (slice_get states place.stage)

    -- ---- which stage comes next

    -- whether a stage is drawn by what it selects within: a first stage is, and a second stage where that unit is selected
    abbrev pub drawn_within : List State → Option Place → Bool
    drawn_within states None = true
    drawn_within states (Some place) = unit_selected states place

    -- whether a stage is drawn, by its number
    abbrev pub is_drawn : List State → ℕ → Bool
    is_drawn states i = drawn_within states (within_of (slice_get stages i))

    -- whether a unit is selected in its stage, which selects none where it isn't drawn
    abbrev pub selected_in : List State → Place → Bool
    selected_in states place = is_drawn states place.stage && unit_selected states place

    -- the stage is to be drawn and is not done
    abbrev pub waits : List State → ℕ → Bool
    waits states i = is_drawn states i && not (stage_done states i)

    -- no stage before this one waits
    abbrev pub NoneWaits : List State → ℕ → Type 0
    NoneWaits states number = (i : ℕ) → i < number → waits states i ≡ false

    -- the first stage that waits, or the number of stages
    abbrev pub next_stage : List State → ℕ
    next_stage states = first_among (waits states) (length stages) 0

    -- the selection with its stages in these states
    abbrev pub progress : List State → Progress State
    progress states = record { states = states; at = next_stage states }

  -- ---- the whole selection, whose units are the rows that have these seats

  -- The draw tree of the selection. Its units are the rows, by their seats, and its next step is that of the stage that is under way.
  abbrev pub staged_tree : List (Stage Design) → List Seat → Tree (Progress State)
  staged_tree stages seats = record {
    units = length seats;
    done = λ s. nat_eq s.at (length stages);
    kind = λ s. stage_kind stages s.states s.at;
    parts = λ s. moved (λ state. progress stages (set s.states s.at state)) (stage_parts stages s.states s.at);
    rank = λ s. rank_sum stages s.states;
    value = λ s row. seat_value (unit_value stages s.states) (slice_get seats row);
    selected = λ s row. seat_selected (unit_selected stages s.states) (slice_get seats row);
  }

  -- ---- what the stages and the seats have to be

  -- a unit of a first stage
  pub record IsFirstUnit (stages : List (Stage Design)) (place : Place) : Type 0 where
    pub unit : place.unit < units_of (slice_get stages place.stage)
    pub first : within_of (slice_get stages place.stage) ≡ None

  -- stage i selects within a unit of a first stage that comes before it
  pub record IsAfter (stages : List (Stage Design)) (i : ℕ) (place : Place) : Type 0 where
    pub earlier : place.stage < i
    pub unit : IsFirstUnit stages place

  -- a unit of the second stage within this unit of a first stage
  pub record IsUnitWithin (stages : List (Stage Design)) (first second : Place) : Type 0 where
    pub unit : second.unit < units_of (slice_get stages second.stage)
    pub within : within_of (slice_get stages second.stage) ≡ Some first

  -- the stages in their order, and a seat for each row
  pub record IsStaged (stages : List (Stage Design)) (seats : List Seat) : Type 0 where
    pub within : (i : ℕ) (place : Place) → within_of (slice_get stages i) ≡ Some place → IsAfter stages i place
    pub first : (row : ℕ) (place : Place) → slice_get seats row ≡ Some (First place) → IsFirstUnit stages place
    pub second : (row : ℕ) (first second : Place) → slice_get seats row ≡ Some (Second first second)
        → IsUnitWithin stages first second

  -- ---- which states are the selection's

  module _ (belongs : Design → State → Type 0) where
    -- there is a state for each stage, of its design
    pub record EachBelongs (stages : List (Stage Design)) (states : List State) : Type 0 where
      pub paired : length states ≡ length stages
      pub each : (i : ℕ) (stage : Stage Design) (state : State) → slice_get stages i ≡ Some stage
          → slice_get states i ≡ Some state → belongs stage.design state

    -- and the first stage that waits is under way
    pub record IsUnderWay (stages : List (Stage Design)) (s : Progress State) : Type 0 where
      pub states : EachBelongs stages s.states
      pub at : s.at ≡ next_stage stages s.states

-- there is a state for each stage, of its design's own method
abbrev pub AreOwn : {Design : Type 0} → {State : Type 0} → (Design → Method State) → List (Stage Design) → List State → Type 0
AreOwn method = EachBelongs (trees method) (owns method)
