-- Stages of their own go along with the whole: while one of them is under way both make its step, and otherwise they stay as they are.
use Rattle.std.proofs.Common.{◌≡◌, ◌≢◌, ℕ, zero, suc, ◌+◌, ◌<◌, ◌≤◌, Bool, true, false, not, ◌&&◌, List, [], ◌∷◌, length, take, drop, set, Option, Some, None, option_map, arith, refl, sym, ap, subst, ◌∙◌, inl, inr, ◌⊎◌}
use Rattle.std.specs.List.{slice_get}
use Rattle.std.proofs.{lemmas.Bool.{cases_Bool, cases_lt, eqb-false, eq-eqb, ne_eqb}, lemmas.Option.{slice_get_within, slice_get-map}}
use Rattle.std.proofs.{lemmas.List.{length-take, length-drop, drop-set-lt, drop-set-add, take-set-le}, Math.Seq.{take-set-lt}}
use Rattle.smp_split.specs.{Parts.{moved}, Sectioning.{IsPartOf}, Trees.{Part, Tree, weight_sum, picked}, Laws.Parts.{picked-moved}}
use Rattle.smp_split.specs.{declared.places.Place.{Place}, declared.places.Seat.{Seat}, declared.places.Stage.{Stage}}
use Rattle.smp_split.specs.{declared.places.Seat.TheVariants.{Nowhere, First, Second}, Laws.Reads.{set_self, some_within}}
use Rattle.smp_split.specs.Stages.{Progress, read, within_of, units_of, seat_selected, stage_done, stage_parts, unit_selected, drawn_within, is_drawn, waits, next_stage, progress, staged_tree, IsFirstUnit, IsUnitWithin, IsStaged, IsUnderWay}
use Rattle.smp_split.specs.OwnStages.{later, stage_later, seat_later, run_of, AreTheirOwn, own_progress, sections_by, AreSections}
use Rattle.smp_split.specs.{Laws.Staged.{some_stage, under_way, stands}, Laws.Turns.{next_is, next_passed, next_waits}}
use Rattle.smp_split.proofs.StageSections.{section, begins_before, ends_before, ends_behind, section_behind, section_other, at_most}
use Rattle.smp_split.proofs.Stepped.{bound_is}

-- ---- an element of a part of a list

difference : (m n : ℕ) → m ≤ n → (k : ℕ) × (n ≡ m + k)
difference zero n l = (n, omega arith)
difference (suc m) zero l = absurd (omega arith)
difference (suc m) (suc n) l = let rest = difference m n (omega arith) in (rest.0, omega (arith, rest.1))

module _ {X : Type 0} where
  get_taken : (xs : List X) (n i : ℕ) → i < n → slice_get (take n xs) i ≡ slice_get xs i
  get_taken xs zero i l = absurd (omega arith)
  get_taken [] (suc n) i l = refl
  get_taken (x ∷ xs) (suc n) zero l = refl
  get_taken (x ∷ xs) (suc n) (suc i) l = get_taken xs n i (omega arith)

  get_dropped : (xs : List X) (before i : ℕ) → slice_get (drop before xs) i ≡ slice_get xs (before + i)
  get_dropped xs zero i = let same : i ≡ 0 + i = omega arith in ap (slice_get xs) same
  get_dropped [] (suc before) i = refl
  get_dropped (x ∷ xs) (suc before) i = let same : suc (before + i) ≡ suc before + i = omega arith in get_dropped xs before i ∙ ap (slice_get (x ∷ xs)) same

  pub run_at : (xs : List X) (before n i : ℕ) → i < n → slice_get (run_of before n xs) i ≡ slice_get xs (before + i)
  run_at xs before n i l = get_taken (drop before xs) n i l ∙ get_dropped xs before i

  -- an element within it is replaced
  run_set : (xs : List X) (before n i : ℕ) (x : X) → i < n → run_of before n (set xs (before + i) x) ≡ set (run_of before n xs) i x
  run_set xs before n i x l = ap (take n) (drop-set-add before xs i x) ∙ take-set-lt n (drop before xs) i x l

  -- or one that comes before it or behind it
  run_before : (xs : List X) (before n i : ℕ) (x : X) → i < before → run_of before n (set xs i x) ≡ run_of before n xs
  run_before xs before n i x l = ap (take n) (drop-set-lt before xs i x l)

  run_behind : (xs : List X) (before n i : ℕ) (x : X) → before + n ≤ i → run_of before n (set xs i x) ≡ run_of before n xs
  run_behind xs before n i x l =
      let (j, is) = difference before i (omega (arith, l)) in
      subst (λ (k : ℕ). run_of before n (set xs k x) ≡ run_of before n xs) (sym is)
      (ap (take n) (drop-set-add before xs j x) ∙ take-set-le n (drop before xs) j x (omega (arith, l, is)))

  -- as many as of another list that is as long
  run_length : {Y : Type 0} (xs : List X) (ys : List Y) (before n : ℕ) → length xs ≡ length ys → length (run_of before n xs) ≡ length (run_of before n ys)
  run_length xs ys before n same = simp (length-take, length-drop) (omega (arith, same))

-- ---- a stage of its own is that of the whole

module _ {Design State : Type 0} (tree_of : Design → Tree State) (stages : List (Stage Design)) (seats : List Seat) (before : ℕ) (part : List (Stage Design)) (part_seats : List Seat) (own : ℕ → Bool)
    (are : AreTheirOwn stages seats before part part_seats own) (staged : IsStaged tree_of part part_seats) where
  abbrev states_of : List State → List State
  states_of states = run_of before (length part) states

  stage_at : (i : ℕ) → i < length part → slice_get stages (before + i) ≡ option_map (stage_later before) (slice_get part i)
  stage_at i l =
      sym (run_at stages before (length part) i l) ∙ ap (λ (all : List (Stage Design)). slice_get all i) are.run ∙ slice_get-map (stage_later before) part i

  read_later : {R : Type 0} (none : R) (says : Tree State → State → R) (stage : Option (Stage Design)) (state : Option State) → read tree_of none says (option_map (stage_later before) stage) state ≡ read tree_of none says stage state
  read_later none says (Some stage) (Some state) = refl
  read_later none says (Some stage) None = refl
  read_later none says None state = refl

  -- what its tree says of it
  pub read_own : {R : Type 0} (none : R) (says : Tree State → State → R) (states : List State) (i : ℕ) → i < length part
      → read tree_of none says (slice_get part i) (slice_get (states_of states) i) ≡ read tree_of none says (slice_get stages (before + i)) (slice_get states (before + i))
  read_own none says states i l =
      ap (read tree_of none says (slice_get part i)) (run_at states before (length part) i l)
      ∙ sym (read_later none says (slice_get part i) (slice_get states (before + i)))
      ∙ ap (λ (at : Option (Stage Design)). read tree_of none says at (slice_get states (before + i))) (sym (stage_at i l))

  within_later : (stage : Option (Stage Design)) → within_of (option_map (stage_later before) stage) ≡ option_map (later before) (within_of stage)
  within_later (Some stage) = refl
  within_later None = refl

  within_at : (i : ℕ) → i < length part → within_of (slice_get stages (before + i)) ≡ option_map (later before) (within_of (slice_get part i))
  within_at i l = ap (λ (at : Option (Stage Design)). within_of at) (stage_at i l) ∙ within_later (slice_get part i)

  module _ (states : List State) where
    drawn_by : (within : Option Place) → ((place : Place) → within ≡ Some place → place.stage < length part) → drawn_within tree_of part (states_of states) within ≡ drawn_within tree_of stages states (option_map (later before) within)
    drawn_by None inside = refl
    drawn_by (Some place) inside = read_own false (λ tree state. tree.selected state place.unit) states place.stage (inside place refl)

    drawn_own : (i : ℕ) → i < length part → is_drawn tree_of part (states_of states) i ≡ is_drawn tree_of stages states (before + i)
    drawn_own i l =
        drawn_by (within_of (slice_get part i)) (λ place is. omega (arith, (staged.within i place is).earlier))
        ∙ ap (drawn_within tree_of stages states) (sym (within_at i l))

    pub waits_own : (i : ℕ) → i < length part → waits tree_of part (states_of states) i ≡ waits tree_of stages states (before + i)
    waits_own i l =
        ap (λ b. b && not (stage_done tree_of part (states_of states) i)) (drawn_own i l)
        ∙ ap (λ b. is_drawn tree_of stages states (before + i) && not b) (read_own true (λ tree state. tree.done state) states i l)

  -- ---- a row of its own

  inside_part : (place : Place) → place.unit < units_of tree_of (slice_get part place.stage) → place.stage < length part
  inside_part place unit = let some = some_stage tree_of (λ _ _. Unit {0}) (slice_get part place.stage) place.unit unit in slice_get_within part place.stage some.0 some.1

  module _ (states : List State) where
    unit_selected_own : (place : Place) → place.stage < length part → unit_selected tree_of part (states_of states) place ≡ unit_selected tree_of stages states (later before place)
    unit_selected_own place l = read_own false (λ tree state. tree.selected state place.unit) states place.stage l

    seat_selected_own : (at : Option Seat) → ((place : Place) → at ≡ Some (First place) → IsFirstUnit tree_of part place) → ((one two : Place) → at ≡ Some (Second one two) → IsUnitWithin tree_of part one two)
        → seat_selected (unit_selected tree_of part (states_of states)) at ≡ seat_selected (unit_selected tree_of stages states) (option_map (seat_later before) at)
    seat_selected_own None first second = refl
    seat_selected_own (Some Nowhere) first second = refl
    seat_selected_own (Some (First place)) first second = unit_selected_own place (inside_part place (first place refl).unit)
    seat_selected_own (Some (Second one two)) first second =
        let is : IsUnitWithin tree_of part one two = second one two refl in
        ap (λ b. b && unit_selected tree_of part (states_of states) two) (unit_selected_own one (inside_part one (staged.within two.stage one is.within).unit.unit))
        ∙ ap (λ b. unit_selected tree_of stages states (later before one) && b) (unit_selected_own two (inside_part two is.unit))

    -- its own rows are selected as in the whole, and no others
    pub row_selected : (row : ℕ) → row < length seats → seat_selected (unit_selected tree_of part (states_of states)) (slice_get part_seats row) ≡ (own row && seat_selected (unit_selected tree_of stages states) (slice_get seats row))
    row_selected row l =
        elim (cases_Bool (own row)) [
          | inl its ↦
              rw its (seat_selected_own (slice_get part_seats row) (staged.first row) (staged.second row)
              ∙ ap (seat_selected (unit_selected tree_of stages states)) (sym (are.seated row l its)))
          | inr other ↦ rw other (ap (seat_selected (unit_selected tree_of part (states_of states))) (are.others row l other))
        ]

  -- ---- which of them is under way

  module _ (belongs : Design → State → Type 0) (s : Progress State) (here : IsUnderWay tree_of belongs stages s) where
    passed_own : (i : ℕ) → i < length part → before + i < s.at → waits tree_of part (states_of s.states) i ≡ false
    passed_own i l m = waits_own s.states i l ∙ next_passed tree_of stages s.states (before + i) (omega (arith, here.at, m))

    pub under_way_own : (i : ℕ) → i < length part → s.at ≡ before + i → next_stage tree_of part (states_of s.states) ≡ i
    under_way_own i l is =
        next_is tree_of part (states_of s.states) i (omega (arith, l)) (λ j m. passed_own j (omega (arith, l, m)) (omega (arith, is, m)))
        (λ _.
        (let some = some_within part i l in
        let there : slice_get stages (before + i) ≡ Some (stage_later before some.0) = stage_at i l ∙ ap (option_map (stage_later before)) some.1 in
        let next : before + i ≡ next_stage tree_of stages s.states = omega (arith, here.at, is) in
        let within : next_stage tree_of stages s.states < length stages = omega (arith, next, slice_get_within stages (before + i) (stage_later before some.0) there) in
        waits_own s.states i l ∙ subst (λ (k : ℕ). waits tree_of stages s.states k ≡ true) (sym next) (next_waits tree_of stages s.states within)))

    pub over_own : before + length part ≤ s.at → next_stage tree_of part (states_of s.states) ≡ length part
    over_own l =
        next_is tree_of part (states_of s.states) (length part) (omega arith) (λ j m. passed_own j m (omega (arith, l, m))) (λ m. absurd (omega (arith, m)))

-- ---- a step

module _ {Design State : Type 0} (tree_of : Design → Tree State) (stages : List (Stage Design)) (seats : List Seat) where
  -- a step of the stage that is under way
  moves : (states : List State) (i : ℕ) (state : State) (draw : ℕ) → next_stage tree_of stages states ≡ i → slice_get states i ≡ Some state
      → picked (progress tree_of stages states) ((staged_tree tree_of stages seats).parts (progress tree_of stages states)) draw
      ≡ progress tree_of stages (set states i (picked state (stage_parts tree_of stages states i) draw))
  moves states i state draw at is =
      let Moves : ℕ → Type 0 = λ k. picked (progress tree_of stages states) (moved (λ t. progress tree_of stages (set states k t)) (stage_parts tree_of stages states k)) draw ≡ progress tree_of stages (set states i (picked state (stage_parts tree_of stages states i) draw)) in
      let put : State → Progress State = λ t. progress tree_of stages (set states i t) in
      let now : progress tree_of stages states ≡ put state = ap (progress tree_of stages) (sym (set_self states i state is)) in
      subst Moves (sym at) (ap (λ t. picked t (moved put (stage_parts tree_of stages states i)) draw) now ∙ picked-moved put state (stage_parts tree_of stages states i) draw)

  -- the same of a state that isn't done
  pub record Steps (s : Progress State) (draw : ℕ) : Type 0 where
    pub state : State
    pub is_state : slice_get s.states s.at ≡ Some state
    pub is : picked s ((staged_tree tree_of stages seats).parts s) draw ≡ progress tree_of stages (set s.states s.at (picked state (stage_parts tree_of stages s.states s.at) draw))

  steps : (belongs : Design → State → Type 0) (s : Progress State) → IsUnderWay tree_of belongs stages s → s.at < length stages → (draw : ℕ) → Steps s draw
  steps belongs s here within draw =
      let there = stands tree_of belongs stages s.states here.states s.at within in
      let same = under_way tree_of belongs stages s here in
      record {
        state = there.state;
        is_state = there.is_state;
        is =
            ap (λ (t : Progress State). picked t ((staged_tree tree_of stages seats).parts t) draw) same
            ∙ moves s.states s.at there.state draw (sym here.at) there.is_state;
      }

-- ---- stages of their own are part of the whole

module _ {Design State : Type 0} (tree_of : Design → Tree State) (belongs : Design → State → Type 0) (stages : List (Stage Design)) (seats : List Seat) (before : ℕ) (part : List (Stage Design)) (part_seats : List Seat) (own : ℕ → Bool)
    (are : AreTheirOwn stages seats before part part_seats own) (staged : IsStaged tree_of part part_seats) (s : Progress State) (here : IsUnderWay tree_of belongs stages s) where
  abbrev outer : Tree (Progress State)
  outer = staged_tree tree_of stages seats

  abbrev inner : Tree (Progress State)
  inner = staged_tree tree_of part part_seats

  abbrev at : Progress State → Progress State
  at = own_progress tree_of before part

  module _ (i : ℕ) (l : i < length part) (is : s.at ≡ before + i) where
    next : (at s).at ≡ i
    next = under_way_own tree_of stages seats before part part_seats own are staged belongs s here i l is

    part_going : inner.done (at s) ≡ false
    part_going = ne_eqb (at s).at (length part) (λ e. omega (arith, next, e, l))

    read_here : {R : Type 0} (none : R) (says : Tree State → State → R) → read tree_of none says (slice_get part (at s).at) (slice_get (at s).states (at s).at) ≡ read tree_of none says (slice_get stages s.at) (slice_get s.states s.at)
    read_here none says =
        ap (λ (k : ℕ). read tree_of none says (slice_get part k) (slice_get (at s).states k)) next
        ∙ read_own tree_of stages seats before part part_seats own are staged none says s.states i l
        ∙ ap (λ (k : ℕ). read tree_of none says (slice_get stages k) (slice_get s.states k)) (sym is)

    part_kind : inner.kind (at s) ≡ outer.kind s
    part_kind = read_here _ (λ tree state. tree.kind state)

    part_bound : weight_sum (inner.parts (at s)) ≡ weight_sum (outer.parts s)
    part_bound =
        bound_is tree_of belongs part part_seats (at s)
        ∙ ap (λ (ps : List (Part State)). weight_sum ps) (read_here [] (λ tree state. tree.parts state))
        ∙ sym (bound_is tree_of belongs stages seats s)

    part_step : s.at < length stages → (draw : ℕ) → at (picked s (outer.parts s) draw) ≡ picked (at s) (inner.parts (at s)) draw
    part_step within draw =
        let step : Steps tree_of stages seats s draw = steps tree_of stages seats belongs s here within draw in
        let there : slice_get (at s).states i ≡ Some step.state = run_at s.states before (length part) i l ∙ ap (slice_get s.states) (sym is) ∙ step.is_state in
        let parts : stage_parts tree_of part (at s).states i ≡ stage_parts tree_of stages s.states s.at =
        read_own tree_of stages seats before part part_seats own are staged [] (λ tree state. tree.parts state) s.states i l ∙ ap (stage_parts tree_of stages s.states) (sym is) in
        let next_state : State = picked step.state (stage_parts tree_of stages s.states s.at) draw in
        ap at step.is
        ∙ ap (λ (k : ℕ). progress tree_of part (run_of before (length part) (set s.states k next_state))) is
        ∙ ap (progress tree_of part) (run_set s.states before (length part) i next_state l)
        ∙ ap (λ (ps : List (Part State)). progress tree_of part (set (at s).states i (picked step.state ps draw))) (sym parts)
        ∙ sym (moves tree_of part part_seats (at s).states i step.state draw next there)

  part_stays : s.at < length stages → (s.at < before) ⊎ (before + length part ≤ s.at) → (draw : ℕ) → at (picked s (outer.parts s) draw) ≡ at s
  part_stays within outside draw =
      let step : Steps tree_of stages seats s draw = steps tree_of stages seats belongs s here within draw in
      let next_state : State = picked step.state (stage_parts tree_of stages s.states s.at) draw in
      ap at step.is
      ∙ ap (progress tree_of part)
      (elim outside [
        | inl less ↦ run_before s.states before (length part) s.at next_state less
        | inr more ↦ run_behind s.states before (length part) s.at next_state more
      ])

  part_done : before + length part ≤ s.at → inner.done (at s) ≡ true
  part_done l = eq-eqb (at s).at (length part) (over_own tree_of stages seats before part part_seats own are staged belongs s here l)

module _ {Design State : Type 0} (tree_of : Design → Tree State) (belongs : Design → State → Type 0) (stages : List (Stage Design)) (seats : List Seat) where
  -- the stages of a section, where they select within one another alone
  pub is_part : (belongs_to : Progress State → Type 0) → ((s : Progress State) → belongs_to s → IsUnderWay tree_of belongs stages s)
      → (bounds : ℕ → ℕ) (n : ℕ) → AreSections stages bounds n → (h : ℕ) → h < n
      → (part : List (Stage Design)) (part_seats : List Seat) (own : ℕ → Bool) → AreTheirOwn stages seats (bounds h) part part_seats own → IsStaged tree_of part part_seats → bounds (suc h) ≡ bounds h + length part
      → IsPartOf (staged_tree tree_of stages seats) belongs_to (sections_by bounds n) h (staged_tree tree_of part part_seats) (own_progress tree_of (bounds h) part) own
  is_part belongs_to under bounds n all h within part part_seats own are staged size = record {
    going = λ s here is. let i = inside s is in part_going tree_of belongs stages seats (bounds h) part part_seats own are staged s (under s here) i.0 i.1 i.2;
    kind = λ s here is. let i = inside s is in part_kind tree_of belongs stages seats (bounds h) part part_seats own are staged s (under s here) i.0 i.1 i.2;
    bound = λ s here is. let i = inside s is in part_bound tree_of belongs stages seats (bounds h) part part_seats own are staged s (under s here) i.0 i.1 i.2;
    step = λ s v here is _.
        (let i = inside s is in
        part_step tree_of belongs stages seats (bounds h) part part_seats own are staged s (under s here) i.0 i.1 i.2 (stage_within s is) v);
    elsewhere = λ s v here going other _.
        (let at_stage = stage_of s (under s here) going in
        part_stays tree_of belongs stages seats (bounds h) part part_seats own are staged s (under s here) at_stage (outside s at_stage other) v);
    done = λ s here behind. part_done tree_of belongs stages seats (bounds h) part part_seats own are staged s (under s here) (omega (arith, size, ends_before bounds n s.at h behind));
    selected = λ s here done row l. row_selected tree_of stages seats (bounds h) part part_seats own are staged s.states row l;
  }
    where
      inside : (s : Progress State) → section bounds n s.at ≡ h → (i : ℕ) × (i < length part) × (s.at ≡ bounds h + i)
      inside s is =
          let from : bounds h ≤ s.at = begins_before bounds n s.at all.first h is in
          let to : s.at < bounds (suc h) = subst (λ (k : ℕ). s.at < bounds (suc k)) is (ends_behind bounds n s.at (omega (arith, is, within))) in
          let i = difference (bounds h) s.at from in
          (i.0, omega (arith, i.1, to, size), i.1)

      stage_of : (s : Progress State) → IsUnderWay tree_of belongs stages s → (staged_tree tree_of stages seats).done s ≡ false → s.at < length stages
      stage_of s here going = omega (arith, at_most tree_of belongs stages seats s here, eqb-false s.at (length stages) going)

      stage_within : (s : Progress State) → section bounds n s.at ≡ h → s.at < length stages
      stage_within s is =
          elim (cases_lt s.at (length stages)) [
            | inl less ↦ less
            | inr more ↦ absurd (omega (arith, section_behind stages bounds n all s.at more, is, within))
          ]

      outside : (s : Progress State) → s.at < length stages → section bounds n s.at ≢ h → (s.at < bounds h) ⊎ (bounds h + length part ≤ s.at)
      outside s l other =
          elim (section_other stages bounds n all s.at h l within other) [
            | inl less ↦ inl less
            | inr more ↦ inr (omega (arith, more, size))
          ]
