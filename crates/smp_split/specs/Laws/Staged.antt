-- A selection in stages is a lawful design where each stage is.
use Rattle.std.proofs.Common.{◌≡◌, ℕ, ◌<◌, Bool, true, false, not, ◌&&◌, cond, List, length, set, Option, Some, None, arith}
use Rattle.std.proofs.Common.{refl, sym, ap, subst, ◌∙◌, inl, inr}
use Rattle.std.specs.List.{slice_get}
use Rattle.std.proofs.lemmas.Bool.{cases_eq, and_parts, not-true, eqb-true, eqb-false}
use Rattle.std.proofs.lemmas.List.{length-set}
use Rattle.std.proofs.lemmas.Option.{slice_get_within, same_Some}
use Rattle.smp_frac.specs.Fractions.{Fraction, Same, whole, times}
use Rattle.smp_frac.proofs.Arithmetic.{same_refl, same_trans, times_same, one-times, zero-times}
use Rattle.smp_split.specs.Methods.{Method, owns, trees}
use Rattle.smp_split.specs.Trees.{Tree, LawfulSplit, Lawful}
use Rattle.smp_split.specs.Laws.Lenses.{split_through}
use Rattle.smp_split.specs.declared.places.Place.{Place}
use Rattle.smp_split.specs.declared.places.Seat.{Seat}
use Rattle.smp_split.specs.declared.places.Seat.TheVariants.{Nowhere, First, Second}
use Rattle.smp_split.specs.declared.places.Stage.{Stage}
use Rattle.smp_split.specs.Stages.{Progress, units_of, seat_value, seat_selected, stage_done, unit_value, unit_selected, is_drawn, waits}
use Rattle.smp_split.specs.Stages.{next_stage, progress, staged_tree, IsFirstUnit, IsUnitWithin, IsStaged, EachBelongs, IsUnderWay}
use Rattle.smp_split.specs.Laws.Reads.{slice_get-set_same, slice_get-set_other, set_self, some_within}
use Rattle.smp_split.specs.Laws.Turns.{read_is, done_where_drawn, first_drawn, next_passed, next_waits, next_within}
use Rattle.smp_split.specs.Laws.StageLenses.{put, view, stage_lens}

-- a row is selected where both of its units are
both : (x y : Bool) (a b : Fraction) → Same a (whole (cond x 1 0)) → (x ≡ true → Same b (whole (cond y 1 0)))
    → Same (times a b) (whole (cond (x && y) 1 0))
both true y a b first second = same_trans (times_same first (second refl)) (one-times (whole (cond y 1 0)))
both false y a b first second = same_trans (times_same first (same_refl b)) (zero-times b)

module _ {Design State : Type 0} (tree_of : Design → Tree State) (belongs : Design → State → Type 0) where
  -- a stage that has a unit is there
  pub some_stage : (at : Option (Stage Design)) (unit : ℕ) → unit < units_of tree_of at → (stage : Stage Design)
      × (at ≡ Some stage)
  some_stage (Some stage) unit h = (stage, refl)
  some_stage None unit h = absurd (omega arith)

  pub each_set : (stages : List (Stage Design)) (states : List State) (i : ℕ) (stage : Stage Design) (state : State)
      → EachBelongs tree_of belongs stages states → slice_get stages i ≡ Some stage → belongs stage.design state
      → EachBelongs tree_of belongs stages (set states i state)
  each_set stages states i stage state each is member = record {
    paired = length-set states i state ∙ each.paired;
    each = λ j other stands at_stage at_state. elim (cases_eq j i) [
      | inl same ↦
          (let within : i < length states = omega (arith, each.paired, slice_get_within stages i stage is) in
          let here : slice_get (set states i state) i ≡ Some state = slice_get-set_same states i state within in
          let same_state : state ≡ stands = same_Some state stands
          (sym here ∙ ap (slice_get (set states i state)) (sym same) ∙ at_state) in
          let same_stage : stage ≡ other = same_Some stage other (sym is ∙ ap (slice_get stages) (sym same) ∙ at_stage) in
          let Q : Stage Design → Type 0 = λ s. belongs s.design stands in
          subst Q same_stage (subst (belongs stage.design) same_state member))
      | inr differ ↦ each.each j other stands at_stage (sym (slice_get-set_other states i j state differ) ∙ at_state)
    ];
  }

  pub under_way : (stages : List (Stage Design)) (s : Progress State) → IsUnderWay tree_of belongs stages s
      → s ≡ progress tree_of stages s.states
  under_way stages s here = ap (λ at. record { states = s.states; at = at }) here.at

  module _ (stages : List (Stage Design)) (states : List State) (each : EachBelongs tree_of belongs stages states) where
    -- a stage in its state
    pub record Stands (i : ℕ) : Type 0 where
      pub stage : Stage Design
      pub state : State
      pub is_stage : slice_get stages i ≡ Some stage
      pub is_state : slice_get states i ≡ Some state
      pub member : belongs stage.design state

    pub stands : (i : ℕ) → i < length stages → Stands i
    stands i within =
        let stage = some_within stages i within in
        let state = some_within states i (omega (arith, each.paired)) in
        record {
          stage = stage.0;
          state = state.0;
          is_stage = stage.1;
          is_state = state.1;
          member = each.each i stage.0 state.0 stage.1 state.1;
        }

    -- a stage that waits is drawn, and its design goes on
    pub record Waiting (i : ℕ) : Type 0 where
      pub here : Stands i
      pub drawn : is_drawn tree_of stages states i ≡ true
      pub going : (tree_of here.stage.design).done here.state ≡ false

    pub waiting : (i : ℕ) → i < length stages → waits tree_of stages states i ≡ true → Waiting i
    waiting i within is =
        let parts = and_parts (is_drawn tree_of stages states i) (not (stage_done tree_of stages states i)) is in
        let here : Stands i = stands i within in
        record {
          here = here;
          drawn = parts.0;
          going = sym (read_is tree_of true (λ tree t. tree.done t) (slice_get stages i) (slice_get states i)
              here.stage here.state here.is_stage here.is_state)
              ∙ not-true (stage_done tree_of stages states i) parts.1;
        }

  module _ (lawful : (design : Design) → Lawful (tree_of design) (belongs design)) (stages : List (Stage Design))
      (seats : List Seat) (staged : IsStaged tree_of stages seats) where
    abbrev outer : Tree (Progress State)
    outer = staged_tree tree_of stages seats

    split_at : (states : List State) → EachBelongs tree_of belongs stages states
        → next_stage tree_of stages states < length stages
        → LawfulSplit outer (IsUnderWay tree_of belongs stages) (progress tree_of stages states)
    split_at states each within =
        let i : ℕ = next_stage tree_of stages states in
        let w : Waiting stages states each i = waiting stages states each i within (next_waits tree_of stages states within) in
        let paired : i < length states = omega (arith, each.paired) in
        let passed = next_passed tree_of stages states in
        let stage : Stage Design = w.here.stage in
        let P : List State → Type 0 = λ qs. LawfulSplit outer (IsUnderWay tree_of belongs stages) (progress tree_of stages qs) in
        subst P (set_self states i w.here.state w.here.is_state)
        (split_through (tree_of stage.design) (belongs stage.design) outer
        (put tree_of stages seats staged states i stage w.here.is_stage paired w.drawn passed)
        (view tree_of stages seats staged states i stage w.here.is_stage paired w.drawn passed)
        (stage_lens tree_of stages seats staged states i stage w.here.is_stage paired w.drawn passed
        (belongs stage.design)) (IsUnderWay tree_of belongs stages)
        (λ t member. record { states = each_set stages states i stage t each w.here.is_stage member; at = refl })
        w.here.state w.here.member w.going
        ((lawful stage.design).split w.here.state w.here.member w.going))

    -- ---- where no stage waits

    module _ (states : List State) (each : EachBelongs tree_of belongs stages states)
        (none : (i : ℕ) → i < length stages → waits tree_of stages states i ≡ false) where
      unit_end : (place : Place) → is_drawn tree_of stages states place.stage ≡ true
          → place.unit < units_of tree_of (slice_get stages place.stage)
          → Same (unit_value tree_of stages states place)
          (whole (cond (unit_selected tree_of stages states place) 1 0))
      unit_end place drawn unit =
          let some = some_stage (slice_get stages place.stage) place.unit unit in
          let here : Stands stages states each place.stage =
          stands stages states each place.stage (slice_get_within stages place.stage some.0 some.1) in
          let within : place.unit < (tree_of here.stage.design).units = rw here.is_stage at unit in
          let done : (tree_of here.stage.design).done here.state ≡ true =
          sym (read_is tree_of true (λ tree t. tree.done t) (slice_get stages place.stage)
          (slice_get states place.stage) here.stage here.state here.is_stage here.is_state)
          ∙ done_where_drawn tree_of stages states place.stage drawn
          (none place.stage (slice_get_within stages place.stage some.0 some.1)) in
          rw (here.is_stage, here.is_state) ((lawful here.stage.design).end here.state here.member done place.unit within)

      row_end : (at : Option Seat) → ((place : Place) → at ≡ Some (First place) → IsFirstUnit tree_of stages place)
          → ((first second : Place) → at ≡ Some (Second first second) → IsUnitWithin tree_of stages first second)
          → Same (seat_value (unit_value tree_of stages states) at)
          (whole (cond (seat_selected (unit_selected tree_of stages states) at) 1 0))
      row_end None h k = same_refl (whole 0)
      row_end (Some Nowhere) h k = same_refl (whole 0)
      row_end (Some (First place)) h k = unit_end place (first_drawn tree_of stages states place (h place refl)) (h place refl).unit
      row_end (Some (Second first second)) h k =
          let is : IsUnitWithin tree_of stages first second = k first second refl in
          let unit : IsFirstUnit tree_of stages first = (staged.within second.stage first is.within).unit in
          both (unit_selected tree_of stages states first) (unit_selected tree_of stages states second)
          (unit_value tree_of stages states first) (unit_value tree_of stages states second)
          (unit_end first (first_drawn tree_of stages states first unit) unit.unit)
          (λ selected. unit_end second (rw is.within selected) is.unit)

    -- no stage waits where the selection is done
    pub none_waits : (s : Progress State) → IsUnderWay tree_of belongs stages s → outer.done s ≡ true → (i : ℕ)
        → i < length stages → waits tree_of stages s.states i ≡ false
    none_waits s here done i within =
        next_passed tree_of stages s.states i (omega (arith, here.at, eqb-true s.at (length stages) done))

    pub staged_lawful : Lawful outer (IsUnderWay tree_of belongs stages)
    staged_lawful = record {
      split = λ s here going.
          (let within : next_stage tree_of stages s.states < length stages =
          omega (arith, here.at, eqb-false s.at (length stages) going, next_within tree_of stages s.states) in
          subst (LawfulSplit outer (IsUnderWay tree_of belongs stages)) (sym (under_way stages s here))
          (split_at s.states here.states within));
      end = λ s here done row _. row_end s.states here.states (none_waits s here done) (slice_get seats row)
          (staged.first row) (staged.second row);
    }

-- the method that draws these seats by stages, each by its own method
abbrev pub staged_method : {Design State : Type 0} (method : Design → Method State) (stages : List (Stage Design)) (seats : List Seat)
    → IsStaged (trees method) stages seats → Method (Progress State)
staged_method method stages seats staged = record {
  tree = staged_tree (trees method) stages seats;
  belongs = IsUnderWay (trees method) (owns method) stages;
  lawful = staged_lawful (trees method) (owns method) (λ d. (method d).lawful) stages seats staged;
}
