-- Which stage comes next, where earlier stages stay in their states.
use Rattle.std.proofs.Common.{◌≡◌, ℕ, ◌<◌, ◌≤◌, true, false, not, List, length, Option, Some, None, arith, refl, ap, inl}
use Rattle.std.proofs.Common.{inr}
use Rattle.std.specs.List.{slice_get}
use Rattle.std.proofs.lemmas.Bool.{and_cases, not-false}
use Rattle.smp_split.specs.Trees.{Tree}
use Rattle.smp_split.specs.declared.places.Place.{Place}
use Rattle.smp_split.specs.declared.places.Seat.{Seat}
use Rattle.smp_split.specs.declared.places.Stage.{Stage}
use Rattle.smp_split.specs.Stages.{read, within_of, stage_done, is_drawn, drawn_within, waits, next_stage, IsFirstUnit, IsAfter, IsStaged}
use Rattle.smp_split.specs.Laws.Firsts.{first_is, first_unique}

module _ {Design State : Type 0} (tree_of : Design → Tree State) where
  -- what is read of a stage that is there
  pub read_is : {R : Type 0} (none : R) (says : Tree State → State → R) (at : Option (Stage Design))
      (stands : Option State) (stage : Stage Design) (state : State) → at ≡ Some stage → stands ≡ Some state
      → read tree_of none says at stands ≡ says (tree_of stage.design) state
  read_is none says at stands stage state is_stage is_state = rw (is_stage, is_state) refl

  module _ (stages : List (Stage Design)) (seats : List Seat) (staged : IsStaged tree_of stages seats) where
    drawn_within_same : (i : ℕ) (states others : List State)
        → ((j : ℕ) → j < i → slice_get states j ≡ slice_get others j) → (within : Option Place)
        → ((place : Place) → within ≡ Some place → IsAfter tree_of stages i place)
        → drawn_within tree_of stages states within ≡ drawn_within tree_of stages others within
    drawn_within_same i states others same None later = refl
    drawn_within_same i states others same (Some place) later =
        ap (λ stands. read tree_of false (λ tree state. tree.selected state place.unit)
        (slice_get stages place.stage) stands) (same place.stage (later place refl).earlier)

    -- whether a stage is drawn is settled by the stages before it
    pub drawn_same : (i : ℕ) (states others : List State)
        → ((j : ℕ) → j < i → slice_get states j ≡ slice_get others j)
        → is_drawn tree_of stages states i ≡ is_drawn tree_of stages others i
    drawn_same i states others same = drawn_within_same i states others same (within_of (slice_get stages i)) (staged.within i)

    pub waits_same : (i : ℕ) (states others : List State)
        → ((j : ℕ) → j ≤ i → slice_get states j ≡ slice_get others j)
        → waits tree_of stages states i ≡ waits tree_of stages others i
    waits_same i states others same =
        rw (drawn_same i states others (λ j l. same j (omega arith)), same i (omega arith)) refl

  module _ (stages : List (Stage Design)) (states : List State) where
    -- a stage that is drawn and doesn't wait is done
    pub done_where_drawn : (i : ℕ) → is_drawn tree_of stages states i ≡ true → waits tree_of stages states i ≡ false
        → stage_done tree_of stages states i ≡ true
    done_where_drawn i drawn passed =
        elim (and_cases (is_drawn tree_of stages states i) (not (stage_done tree_of stages states i)) passed) [
          | inl off ↦ absurd (cc)
          | inr done ↦ not-false (stage_done tree_of stages states i) done
        ]

    pub first_drawn : (place : Place) → IsFirstUnit tree_of stages place → is_drawn tree_of stages states place.stage ≡ true
    first_drawn place is = rw is.first refl

    pub next_is : (i : ℕ) → i ≤ length stages → ((j : ℕ) → j < i → waits tree_of stages states j ≡ false)
        → (i < length stages → waits tree_of stages states i ≡ true) → next_stage tree_of stages states ≡ i
    next_is i within passed here =
        first_unique (waits tree_of stages states) 0 (length stages) (next_stage tree_of stages states) i
        (first_is (waits tree_of stages states) (length stages) 0)
        (record { above = omega arith; within = omega arith; passed = λ j _ l. passed j l; here = λ l. here (omega arith) })

    pub next_passed : (j : ℕ) → j < next_stage tree_of stages states → waits tree_of stages states j ≡ false
    next_passed j l = (first_is (waits tree_of stages states) (length stages) 0).passed j (omega arith) l

    pub next_waits : next_stage tree_of stages states < length stages
        → waits tree_of stages states (next_stage tree_of stages states) ≡ true
    next_waits l = (first_is (waits tree_of stages states) (length stages) 0).here (omega arith)

    pub next_within : next_stage tree_of stages states ≤ length stages
    next_within = omega (arith, (first_is (waits tree_of stages states) (length stages) 0).within)
