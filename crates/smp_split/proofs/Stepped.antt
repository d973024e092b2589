-- A step of the stage that is under way.
use Rattle.std.proofs.Common.{◌≡◌, ℕ, ◌<◌, ◌≤◌, true, false, List, [], ◌∷◌, length, set, Some, arith, sym, ap, subst, ◌∙◌, inl, inr}
use Rattle.std.specs.List.{slice_get}
use Rattle.std.proofs.lemmas.Bool.{eqb-false, cases_lt}
use Rattle.smp_split.specs.{Parts.{moved}, Trees.{Part, Tree, EachPart, Lawful, weight_sum, picked}, Laws.Steps.{picked_belongs}}
use Rattle.smp_split.specs.{Laws.Parts.{weight_sum-moved, picked-moved}, declared.places.Seat.{Seat}, declared.places.Stage.{Stage}}
use Rattle.smp_split.specs.Stages.{Progress, stage_parts, waits, next_stage, progress, staged_tree, IsStaged, EachBelongs, IsUnderWay}
use Rattle.smp_split.specs.{Laws.Reads.{slice_get-set_other, set_self}, Laws.Staged.{each_set, under_way, waiting, none_waits}}
use Rattle.smp_split.specs.Laws.Turns.{read_is, waits_same, next_passed, next_waits, next_within}

module _ {Design State : Type 0} (tree_of : Design → Tree State) (belongs : Design → State → Type 0) (stages : List (Stage Design)) (seats : List Seat) where
  module _ (s : Progress State) (here : IsUnderWay tree_of belongs stages s) (going : (staged_tree tree_of stages seats).done s ≡ false) where
    going_within : s.at < length stages
    going_within = omega (arith, here.at, eqb-false s.at (length stages) going, next_within tree_of stages s.states)

    going_waits : waits tree_of stages s.states s.at ≡ true
    going_waits =
        let within : next_stage tree_of stages s.states < length stages = omega (arith, here.at, going_within) in
        subst (λ (i : ℕ). waits tree_of stages s.states i ≡ true) (sym here.at) (next_waits tree_of stages s.states within)

  -- a state that is seen as another goes on as it does
  pub record GoesOn (s : Progress State) : Type 0 where
    pub here : IsUnderWay tree_of belongs stages s
    pub going : (staged_tree tree_of stages seats).done s ≡ false
    pub within : s.at < length stages
    pub waits : waits tree_of stages s.states s.at ≡ true

  pub goes_on : {inside s : Progress State} → inside ≡ s → IsUnderWay tree_of belongs stages s → (staged_tree tree_of stages seats).done s ≡ false → GoesOn inside
  goes_on {inside = inside} {s = s} is here going =
      let here_in : IsUnderWay tree_of belongs stages inside = subst (IsUnderWay tree_of belongs stages) (sym is) here in
      let going_in : (staged_tree tree_of stages seats).done inside ≡ false = subst (λ t. (staged_tree tree_of stages seats).done t ≡ false) (sym is) going in
      record { here = here_in; going = going_in; within = going_within inside here_in going_in; waits = going_waits inside here_in going_in }

  -- the bound of its next step is that of the stage that is under way
  pub bound_is : (s : Progress State) → weight_sum ((staged_tree tree_of stages seats).parts s) ≡ weight_sum (stage_parts tree_of stages s.states s.at)
  bound_is s = weight_sum-moved (λ state. progress tree_of stages (set s.states s.at state)) (stage_parts tree_of stages s.states s.at)

  pub bound_inside : {inside s : Progress State} → inside ≡ s → weight_sum ((staged_tree tree_of stages seats).parts s) ≡ weight_sum (stage_parts tree_of stages inside.states inside.at)
  bound_inside {inside = inside} is = ap (λ t. weight_sum ((staged_tree tree_of stages seats).parts t)) (sym is) ∙ bound_is inside

  -- what a step comes to
  pub record Stepped (s : Progress State) (draw : ℕ) (new : List State) : Type 0 where
    pub each : EachBelongs tree_of belongs stages new
    pub passed : (i : ℕ) → i < s.at → waits tree_of stages new i ≡ false
    pub is : progress tree_of stages new ≡ picked s ((staged_tree tree_of stages seats).parts s) draw

  pub stepped : ((design : Design) → Lawful (tree_of design) (belongs design)) → IsStaged tree_of stages seats → (s : Progress State) → IsUnderWay tree_of belongs stages s → (staged_tree tree_of stages seats).done s ≡ false
      → (draw : ℕ) → draw < weight_sum (stage_parts tree_of stages s.states s.at) → (new : List State)
      → ((state : State) → slice_get s.states s.at ≡ Some state → new ≡ set s.states s.at (picked state (stage_parts tree_of stages s.states s.at) draw))
      → Stepped s draw new
  stepped lawful staged s here going draw within new made =
      let w = waiting tree_of belongs stages s.states here.states s.at (going_within s here going) (going_waits s here going) in
      let stage : Stage Design = w.here.stage in
      let state : State = w.here.state in
      let next : State = picked state (stage_parts tree_of stages s.states s.at) draw in
      let is : new ≡ set s.states s.at next = made state w.here.is_state in
      let parts : stage_parts tree_of stages s.states s.at ≡ (tree_of stage.design).parts state =
      read_is tree_of _ (λ tree t. tree.parts t) (slice_get stages s.at) (slice_get s.states s.at) stage state w.here.is_stage w.here.is_state in
      let below : draw < weight_sum ((tree_of stage.design).parts state) = subst (λ ps. draw < weight_sum ps) parts within in
      let member : belongs stage.design next =
      picked_belongs (tree_of stage.design) (belongs stage.design) (lawful stage.design) state next draw w.here.member w.going below (ap (λ ps. picked state ps draw) parts) in
      let put : State → Progress State = λ t. progress tree_of stages (set s.states s.at t) in
      let now : s ≡ put state = under_way tree_of belongs stages s here ∙ ap (progress tree_of stages) (sym (set_self s.states s.at state w.here.is_state)) in
      let moves : picked s (moved put (stage_parts tree_of stages s.states s.at)) draw ≡ put next =
      ap (λ t. picked t (moved put (stage_parts tree_of stages s.states s.at)) draw) now ∙ picked-moved put state (stage_parts tree_of stages s.states s.at) draw in
      record {
        each = subst (EachBelongs tree_of belongs stages) (sym is) (each_set tree_of belongs stages s.states s.at stage next here.states w.here.is_stage member);
        passed = λ i l. subst (λ qs. waits tree_of stages qs i ≡ false) (sym is)
            (waits_same tree_of stages seats staged i (set s.states s.at next) s.states (λ j m. slice_get-set_other s.states s.at j next (λ e. omega arith))
            ∙ next_passed tree_of stages s.states i (omega (arith, here.at)));
        is = ap (progress tree_of stages) is ∙ sym moves;
      }

  -- the same of a state that is seen as another
  pub stepped_inside : ((design : Design) → Lawful (tree_of design) (belongs design)) → IsStaged tree_of stages seats → {inside s : Progress State} → inside ≡ s → IsUnderWay tree_of belongs stages s → (staged_tree tree_of stages seats).done s ≡ false
      → (draw : ℕ) → draw < weight_sum ((staged_tree tree_of stages seats).parts s) → (new : List State)
      → ((state : State) → slice_get inside.states inside.at ≡ Some state → new ≡ set inside.states inside.at (picked state (stage_parts tree_of stages inside.states inside.at) draw))
      → Stepped inside draw new × (progress tree_of stages new ≡ picked s ((staged_tree tree_of stages seats).parts s) draw)
  stepped_inside lawful staged {inside = inside} is here going draw within new made =
      let on : GoesOn inside = goes_on is here going in
      let step : Stepped inside draw new = stepped lawful staged inside on.here on.going draw (subst (λ (n : ℕ). draw < n) (bound_inside is) within) new made in
      (step, subst (λ t. progress tree_of stages new ≡ picked t ((staged_tree tree_of stages seats).parts t) draw) is step.is)

  -- ---- where the selection is done

  pub none_waits_inside : ((design : Design) → Lawful (tree_of design) (belongs design)) → IsStaged tree_of stages seats → (inside s : Progress State) → inside ≡ s → IsUnderWay tree_of belongs stages s → (staged_tree tree_of stages seats).done s ≡ true
      → (i : ℕ) → i < length stages → waits tree_of stages inside.states i ≡ false
  none_waits_inside lawful staged inside s is here done =
      subst (λ (t : Progress State). (i : ℕ) → i < length stages → waits tree_of stages t.states i ≡ false) (sym is) (none_waits tree_of belongs lawful stages seats staged s here done)

  pub each_inside : (inside s : Progress State) → inside ≡ s → IsUnderWay tree_of belongs stages s → EachBelongs tree_of belongs stages inside.states
  each_inside inside s is here = subst (λ (t : Progress State). EachBelongs tree_of belongs stages t.states) (sym is) here.states

  -- ---- the stage that is under way never falls back

  pub at_rises : IsStaged tree_of stages seats → (s : Progress State) → IsUnderWay tree_of belongs stages s → (state : State) → s.at ≤ next_stage tree_of stages (set s.states s.at state)
  at_rises staged s here state =
      let new : List State = set s.states s.at state in
      let next : ℕ = next_stage tree_of stages new in
      elim (cases_lt next s.at) [
        | inl less ↦ absurd (
            let is : waits tree_of stages new next ≡ true = next_waits tree_of stages new (omega (arith, here.at, next_within tree_of stages s.states)) in
            let same : waits tree_of stages new next ≡ waits tree_of stages s.states next =
            waits_same tree_of stages seats staged next new s.states (λ j l. slice_get-set_other s.states s.at j state (λ e. omega arith)) in
            let passed : waits tree_of stages s.states next ≡ false = next_passed tree_of stages s.states next (omega (arith, here.at)) in
            cc)
        | inr most ↦ most
      ]

  rises_in : IsStaged tree_of stages seats → (s : Progress State) → IsUnderWay tree_of belongs stages s → (parts : List (Part State)) → EachPart (λ p. s.at ≤ p.state.at) (moved (λ state. progress tree_of stages (set s.states s.at state)) parts)
  rises_in staged s here [] = tt
  rises_in staged s here (p ∷ ps) = (at_rises staged s here p.state, rises_in staged s here ps)

  pub parts_rise : IsStaged tree_of stages seats → (s : Progress State) → IsUnderWay tree_of belongs stages s → EachPart (λ p. s.at ≤ p.state.at) ((staged_tree tree_of stages seats).parts s)
  parts_rise staged s here = rises_in staged s here (stage_parts tree_of stages s.states s.at)
