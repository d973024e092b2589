-- What a look at the stages in turn comes to.
use Rattle.std.proofs.Common.{◌≡◌, ℕ, ◌<◌, true, false, List, length, get_or, Option, Some, refl, ap, ◌∙◌}
use Rattle.std.specs.List.{slice_get}
use Rattle.std.proofs.lemmas.Option.{slice_get_read, slice_get_within}
use Rattle.smp_split.specs.{Trees.{Tree}, declared.places.Place.{Place}, declared.places.Seat.{Seat}, declared.places.Stage.{Stage}}
use Rattle.smp_split.specs.Stages.{units_of, within_of, stage_done, is_drawn, drawn_within, unit_selected, waits, IsFirstUnit, IsUnitWithin, IsStaged}
use Rattle.smp_split.specs.{Laws.Staged.{some_stage}, Laws.Turns.{done_where_drawn, first_drawn}}

-- an element that was read
pub read_at : {X : Type 0} (xs : List X) (i : ℕ) (x : X) → i < length xs → x ≡ get_or xs i x → slice_get xs i ≡ Some x
read_at xs i x within is = slice_get_read xs (length xs) i x refl within is

module _ {Design State : Type 0} (tree_of : Design → Tree State) (stages : List (Stage Design)) where
  pub within_read : (i : ℕ) (stage : Stage Design) (within : Option Place) → i < length stages → stage ≡ get_or stages i stage → stage.within ≡ within → within_of (slice_get stages i) ≡ within
  within_read i stage within inside is selects = ap within_of (read_at stages i stage inside is) ∙ selects

  pub drawn_read : (states : List State) (i : ℕ) (within : Option Place) → within_of (slice_get stages i) ≡ within → is_drawn tree_of stages states i ≡ drawn_within tree_of stages states within
  drawn_read states i within is = ap (drawn_within tree_of stages states) is

  module _ (seats : List Seat) (staged : IsStaged tree_of stages seats) (states : List State) (i : ℕ) (place : Place) (within : within_of (slice_get stages i) ≡ Some place) where
    -- the unit within which a stage selects is one of a first stage
    pub unit_inside : place.unit < units_of tree_of (slice_get stages place.stage)
    unit_inside = (staged.within i place within).unit.unit

    -- which is done, where no stage before waits
    pub first_done : ((j : ℕ) → j < i → waits tree_of stages states j ≡ false) → stage_done tree_of stages states place.stage ≡ true
    first_done passed =
        let after = staged.within i place within in
        done_where_drawn tree_of stages states place.stage (first_drawn tree_of stages states place after.unit) (passed place.stage after.earlier)

  -- where no stage waits
  module _ (belongs : Design → State → Type 0) (seats : List Seat) (staged : IsStaged tree_of stages seats) (states : List State) (ended : (i : ℕ) → i < length stages → waits tree_of stages states i ≡ false) where
    stage_ended : (place : Place) → place.unit < units_of tree_of (slice_get stages place.stage) → is_drawn tree_of stages states place.stage ≡ true → stage_done tree_of stages states place.stage ≡ true
    stage_ended place unit drawn =
        let stage = some_stage tree_of belongs (slice_get stages place.stage) place.unit unit in
        done_where_drawn tree_of stages states place.stage drawn (ended place.stage (slice_get_within stages place.stage stage.0 stage.1))

    pub first_of : (first second : Place) → IsUnitWithin tree_of stages first second → IsFirstUnit tree_of stages first
    first_of first second is = (staged.within second.stage first is.within).unit

    pub first_ended : (first second : Place) → IsUnitWithin tree_of stages first second → stage_done tree_of stages states first.stage ≡ true
    first_ended first second is = stage_ended first (first_of first second is).unit (first_drawn tree_of stages states first (first_of first second is))

    pub second_ended : (first second : Place) → IsUnitWithin tree_of stages first second → unit_selected tree_of stages states first ≡ true → stage_done tree_of stages states second.stage ≡ true
    second_ended first second is selected = stage_ended second is.unit (rw is.within selected)
