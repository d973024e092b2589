-- While one stage is under way, the rows see it through a lens.
use Rattle.std.proofs.Common.{◌≡◌, ◌≢◌, ℕ, zero, suc, ◌<◌, true, false, cond, nat_eq, List, [], ◌∷◌, length, set}
use Rattle.std.proofs.Common.{Option, Some, None, arith, refl, ap, subst, ◌∙◌, inl, inr}
use Rattle.std.specs.List.{slice_get}
use Rattle.std.proofs.lemmas.Bool.{cases_Bool, eqb-true, eqb-false, ne_eqb}
use Rattle.std.proofs.lemmas.List.{set-set}
use Rattle.std.proofs.lemmas.Option.{slice_get_within}
use Rattle.smp_frac.specs.Fractions.{Same, whole, times}
use Rattle.smp_frac.proofs.Arithmetic.{same_refl, times_comm}
use Rattle.smp_split.specs.Lenses.{OuterUnit, fixed, as_unit, as_share, seen, Within, Lens}
use Rattle.smp_split.specs.Parts.{moved}
use Rattle.smp_split.specs.Trees.{Part, Tree}
use Rattle.smp_split.specs.declared.places.Place.{Place}
use Rattle.smp_split.specs.declared.places.Seat.{Seat}
use Rattle.smp_split.specs.declared.places.Seat.TheVariants.{Nowhere, First, Second}
use Rattle.smp_split.specs.declared.places.Stage.{Stage}
use Rattle.smp_split.specs.Stages.{Progress, read, units_of, seat_value, rank_sum, stage_done, stage_kind, stage_parts, unit_value}
use Rattle.smp_split.specs.Stages.{is_drawn, waits, next_stage, progress, staged_tree, IsFirstUnit, IsUnitWithin, IsStaged}
use Rattle.smp_split.specs.Laws.Reads.{slice_get-set_same, slice_get-set_other}
use Rattle.smp_split.specs.Laws.Turns.{read_is, drawn_same, waits_same, next_is}

moved_alike : {Inner Outer : Type 0} (f g : Inner → Outer) → ((i : Inner) → f i ≡ g i) → (ps : List (Part Inner))
    → moved f ps ≡ moved g ps
moved_alike f g same [] = refl
moved_alike {Inner} {Outer} f g same (p ∷ ps) =
    let Q : Outer → Type 0 = λ s. moved f (p ∷ ps) ≡ record { weight = p.weight; state = s } ∷ moved g ps in
    subst Q (same p.state) (ap (λ rest. record { weight = p.weight; state = f p.state } ∷ rest) (moved_alike f g same ps))

module _ {Design State : Type 0} (tree_of : Design → Tree State) where
  -- a step of one stage makes the sum of the ranks fall
  pub rank_falls : (stages : List (Stage Design)) (states : List State) (i : ℕ) (stage : Stage Design)
      (from to : State) → slice_get stages i ≡ Some stage → i < length states
      → (tree_of stage.design).rank to < (tree_of stage.design).rank from
      → rank_sum tree_of stages (set states i to) < rank_sum tree_of stages (set states i from)
  rank_falls [] states i stage from to is within falls = absurd (cc)
  rank_falls (d ∷ ds) [] i stage from to is within falls = absurd (omega arith)
  rank_falls (d ∷ ds) (q ∷ qs) zero stage from to is within falls =
      let same : d ≡ stage = cc in
      let here : (tree_of d.design).rank to < (tree_of d.design).rank from = rw same falls in
      omega arith
  rank_falls (d ∷ ds) (q ∷ qs) (suc i) stage from to is within falls =
      let rest : rank_sum tree_of ds (set qs i to) < rank_sum tree_of ds (set qs i from) =
      rank_falls ds qs i stage from to is (omega arith) falls in
      omega arith

  -- stage i is drawn, and no stage before it waits
  module _ (stages : List (Stage Design)) (seats : List Seat) (staged : IsStaged tree_of stages seats)
      (states : List State) (i : ℕ) (stage : Stage Design) (is : slice_get stages i ≡ Some stage)
      (paired : i < length states)
      (drawn : is_drawn tree_of stages states i ≡ true) (passed : (j : ℕ) → j < i → waits tree_of stages states j ≡ false) where
    abbrev inner : Tree State
    inner = tree_of stage.design

    abbrev outer : Tree (Progress State)
    outer = staged_tree tree_of stages seats

    abbrev pub put : State → Progress State
    put state = progress tree_of stages (set states i state)

    i_within : i < length stages
    i_within = slice_get_within stages i stage is

    here : (state : State) → slice_get (set states i state) i ≡ Some state
    here state = slice_get-set_same states i state paired

    before : (state : State) (j : ℕ) → j < i → slice_get (set states i state) j ≡ slice_get states j
    before state j l = slice_get-set_other states i j state (λ e. omega arith)

    drawn_in : (state : State) → is_drawn tree_of stages (set states i state) i ≡ true
    drawn_in state = drawn_same tree_of stages seats staged i (set states i state) states (before state) ∙ drawn

    passed_in : (state : State) (j : ℕ) → j < i → waits tree_of stages (set states i state) j ≡ false
    passed_in state j l = waits_same tree_of stages seats staged j (set states i state) states
        (λ k m. before state k (omega arith)) ∙ passed j l

    done_in : (state : State) → stage_done tree_of stages (set states i state) i ≡ inner.done state
    done_in state = read_is tree_of true (λ tree t. tree.done t) (slice_get stages i)
        (slice_get (set states i state) i) stage state is (here state)

    waits_in : (state : State) → inner.done state ≡ false → waits tree_of stages (set states i state) i ≡ true
    waits_in state going = rw (drawn_in state, done_in state, going) refl

    -- the stage stays under way
    pub stays : (state : State) → inner.done state ≡ false → next_stage tree_of stages (set states i state) ≡ i
    stays state going = next_is tree_of stages (set states i state) i (omega (arith, i_within)) (passed_in state)
        (λ _. waits_in state going)

    -- ---- what the rows see

    abbrev first_view : Place → OuterUnit
    first_view place = cond (nat_eq place.stage i) (as_unit place.unit) (fixed (unit_value tree_of stages states place))

    abbrev second_view : Place → Place → OuterUnit
    second_view first second =
        cond (nat_eq second.stage i) (as_share (unit_value tree_of stages states first) second.unit)
        (cond (nat_eq first.stage i) (as_share (unit_value tree_of stages states second) first.unit)
        (fixed (times (unit_value tree_of stages states first) (unit_value tree_of stages states second))))

    abbrev view_at : Option Seat → OuterUnit
    view_at (Some (First place)) = first_view place
    view_at (Some (Second first second)) = second_view first second
    view_at other = fixed (whole 0)

    abbrev pub view : ℕ → OuterUnit
    view row = view_at (slice_get seats row)

    in_inner : (place : Place) → place.stage ≡ i → place.unit < units_of tree_of (slice_get stages place.stage)
        → place.unit < inner.units
    in_inner place same within =
        let at : slice_get stages place.stage ≡ Some stage = ap (slice_get stages) same ∙ is in
        rw at at within

    value_here : (state : State) (place : Place) → place.stage ≡ i
        → unit_value tree_of stages (set states i state) place ≡ inner.value state place.unit
    value_here state place same =
        read_is tree_of (whole 0) (λ tree t. tree.value t place.unit) (slice_get stages place.stage)
        (slice_get (set states i state) place.stage) stage state (ap (slice_get stages) same ∙ is)
        (ap (slice_get (set states i state)) same ∙ here state)

    value_other : (state : State) (place : Place) → place.stage ≢ i
        → unit_value tree_of stages (set states i state) place ≡ unit_value tree_of stages states place
    value_other state place other =
        ap (λ stands. read tree_of (whole 0) (λ tree t. tree.value t place.unit) (slice_get stages place.stage)
        stands) (slice_get-set_other states i place.stage state other)

    within_first : (place : Place) → place.unit < units_of tree_of (slice_get stages place.stage)
        → Within inner.units (first_view place)
    within_first place h = elim (cases_Bool (nat_eq place.stage i))
        [ inl e ↦ rw e (in_inner place (eqb-true place.stage i e) h) | inr e ↦ rw e tt ]

    within_second : (first second : Place) → first.unit < units_of tree_of (slice_get stages first.stage)
        → second.unit < units_of tree_of (slice_get stages second.stage)
        → Within inner.units (second_view first second)
    within_second first second h k =
        elim (cases_Bool (nat_eq second.stage i)) [
          | inl e ↦ rw e (in_inner second (eqb-true second.stage i e) k)
          | inr e ↦ elim (cases_Bool (nat_eq first.stage i))
              [ inl f ↦ rw (e, f) (in_inner first (eqb-true first.stage i f) h) | inr f ↦ rw (e, f) tt ]
        ]

    within_at : (at : Option Seat) → ((place : Place) → at ≡ Some (First place) → IsFirstUnit tree_of stages place)
        → ((first second : Place) → at ≡ Some (Second first second) → IsUnitWithin tree_of stages first second)
        → Within inner.units (view_at at)
    within_at None h k = tt
    within_at (Some Nowhere) h k = tt
    within_at (Some (First place)) h k = within_first place (h place refl).unit
    within_at (Some (Second first second)) h k =
        within_second first second (staged.within second.stage first (k first second refl).within).unit.unit
        (k first second refl).unit

    value_first : (state : State) (place : Place)
        → Same (unit_value tree_of stages (set states i state) place) (seen (first_view place) (inner.value state))
    value_first state place =
        elim (cases_Bool (nat_eq place.stage i)) [
          | inl e ↦ rw (e, value_here state place (eqb-true place.stage i e)) (same_refl (inner.value state place.unit))
          | inr e ↦ rw (e, value_other state place (eqb-false place.stage i e)) (same_refl (unit_value tree_of stages states place))
        ]

    value_second : (state : State) (first second : Place) → first.stage < second.stage
        → Same (times (unit_value tree_of stages (set states i state) first)
        (unit_value tree_of stages (set states i state) second))
        (seen (second_view first second) (inner.value state))
    value_second state first second before_it =
        elim (cases_Bool (nat_eq second.stage i)) [
          | inl e ↦
              (let same : second.stage ≡ i = eqb-true second.stage i e in
              let other : first.stage ≢ i = λ f. omega arith in
              rw (e, value_other state first other, value_here state second same)
              (same_refl (times (unit_value tree_of stages states first) (inner.value state second.unit))))
          | inr e ↦
              (let other : second.stage ≢ i = eqb-false second.stage i e in
              elim (cases_Bool (nat_eq first.stage i)) [
                | inl f ↦ rw (
                  e,
                  f,
                  value_here state first (eqb-true first.stage i f),
                  value_other state second other,
                ) (times_comm (inner.value state first.unit)
                    (unit_value tree_of stages states second))
                | inr f ↦ rw (
                  e,
                  f,
                  value_other state first (eqb-false first.stage i f),
                  value_other state second other,
                ) (same_refl
                    (times (unit_value tree_of stages states first) (unit_value tree_of stages states second)))
              ])
        ]

    value_at : (state : State) (at : Option Seat)
        → ((first second : Place) → at ≡ Some (Second first second) → IsUnitWithin tree_of stages first second)
        → Same (seat_value (unit_value tree_of stages (set states i state)) at)
        (seen (view_at at) (inner.value state))
    value_at state None h = same_refl (whole 0)
    value_at state (Some Nowhere) h = same_refl (whole 0)
    value_at state (Some (First place)) h = value_first state place
    value_at state (Some (Second first second)) h =
        value_second state first second (staged.within second.stage first (h first second refl).within).earlier

    -- ---- the lens

    kind_in : (state : State) → inner.done state ≡ false → outer.kind (put state) ≡ inner.kind state
    kind_in state going =
        ap (stage_kind tree_of stages (set states i state)) (stays state going)
        ∙ read_is tree_of _ (λ tree t. tree.kind t) (slice_get stages i) (slice_get (set states i state) i) stage state is (here state)

    parts_in : (state : State) → inner.done state ≡ false → outer.parts (put state) ≡ moved put (inner.parts state)
    parts_in state going =
        let at : outer.parts (put state) ≡ moved (λ t. progress tree_of stages (set (set states i state) i t))
        (stage_parts tree_of stages (set states i state) i) =
        ap (λ at. moved (λ t. progress tree_of stages (set (set states i state) at t))
        (stage_parts tree_of stages (set states i state) at)) (stays state going) in
        let parts : stage_parts tree_of stages (set states i state) i ≡ inner.parts state =
        read_is tree_of [] (λ tree t. tree.parts t) (slice_get stages i) (slice_get (set states i state) i) stage state is (here state) in
        at ∙ ap (λ ps. moved (λ t. progress tree_of stages (set (set states i state) i t)) ps) parts
        ∙ moved_alike (λ t. progress tree_of stages (set (set states i state) i t)) put
        (λ t. ap (progress tree_of stages) (set-set states i state t)) (inner.parts state)

    going_in : (state : State) → inner.done state ≡ false → outer.done (put state) ≡ false
    going_in state going = ne_eqb (next_stage tree_of stages (set states i state)) (length stages)
        (λ e. omega (arith, stays state going, i_within))

    pub stage_lens : (belongs : State → Type 0) → Lens inner belongs outer put view
    stage_lens belongs = record {
      within = λ row _. within_at (slice_get seats row) (staged.first row) (staged.second row);
      going = going_in;
      kind = kind_in;
      parts = parts_in;
      falls = λ from to less. rank_falls stages states i stage from to is paired less;
      value = λ state _ row _. value_at state (slice_get seats row) (staged.second row);
    }
