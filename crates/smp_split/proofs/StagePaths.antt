-- The stages' own paths, one after another, are a path to a leaf.
use Rattle.std.proofs.Common.{◌≡◌, ℕ, zero, suc, ◌<◌, ◌≤◌, true, false, List, [], ◌∷◌, length, set, Some, arith, refl, sym, ap, subst, ◌∙◌, inl, inr}
use Rattle.std.specs.List.{slice_get}
use Rattle.std.proofs.{lemmas.Bool.{cases_Bool, cases_eq, cases_lt, eq-eqb}, lemmas.List.{length-set}}
use Rattle.std.proofs.lemmas.Option.{same_Some, slice_get_past}
use Rattle.smp_split.specs.{Paths.{Entry, Leads}, Trees.{Tree}, Laws.Lenses.{leads_through}, declared.places.Seat.{Seat}}
use Rattle.smp_split.proofs.Paths.{leads_join}
use Rattle.smp_split.specs.{declared.places.Stage.{Stage}, StagePaths.{IsStagePath, joined, GoesByStages}}
use Rattle.smp_split.specs.Stages.{Progress, stage_done, is_drawn, waits, next_stage, progress, staged_tree, IsStaged}
use Rattle.smp_split.specs.Laws.Reads.{slice_get-set_same, slice_get-set_other, set_self, some_within}
use Rattle.smp_split.specs.{Laws.Turns.{read_is, drawn_same, next_is}, Laws.StageLenses.{put, view, stage_lens}}

-- lists with the same elements
same_elements : {X : Type 0} (xs ys : List X) → length xs ≡ length ys → ((i : ℕ) → slice_get xs i ≡ slice_get ys i) → xs ≡ ys
same_elements [] [] count same = refl
same_elements [] (y ∷ ys) count same = absurd (omega arith)
same_elements (x ∷ xs) [] count same = absurd (omega arith)
same_elements (x ∷ xs) (y ∷ ys) count same =
    rw (same_Some x y (same 0), same_elements xs ys (omega arith) (λ i. same (suc i))) refl

module _ {Design State : Type 0} (tree_of : Design → Tree State) (belongs : Design → State → Type 0) (stages : List (Stage Design)) (seats : List Seat) (staged : IsStaged tree_of stages seats) (firsts leaves : List State) (path : List Entry)
    (paired : length firsts ≡ length stages) (goes : GoesByStages tree_of stages firsts path leaves) where
  abbrev outer : Tree (Progress State)
  outer = staged_tree tree_of stages seats

  -- the stages before i at their leaves, the others in their first states
  record Between (i : ℕ) (states : List State) : Type 0 where
    count : length states ≡ length stages
    ended : (j : ℕ) → j < i → slice_get states j ≡ slice_get leaves j
    later : (j : ℕ) → i ≤ j → slice_get states j ≡ slice_get firsts j

  -- after i stages
  record Reached (i : ℕ) : Type 0 where
    states : List State
    between : Between i states
    leads : Leads outer (progress tree_of stages firsts) (joined goes.part i) (progress tree_of stages states)

  -- a stage before i doesn't wait
  ended_passed : (i : ℕ) (states : List State) → Between i states → (j : ℕ) → j < i → j < length stages → waits tree_of stages states j ≡ false
  ended_passed i states between j less within =
      let stage = some_within stages j within in
      let first = some_within firsts j (omega arith) in
      let leaf = some_within leaves j (omega (arith, goes.paired)) in
      let drawn_is : is_drawn tree_of stages states j ≡ is_drawn tree_of stages leaves j = drawn_same tree_of stages seats staged j states leaves (λ k l. between.ended k (omega arith)) in
      let done_is : stage_done tree_of stages states j ≡ (tree_of stage.0.design).done leaf.0 =
      read_is tree_of true (λ tree t. tree.done t) (slice_get stages j) (slice_get states j) stage.0 leaf.0 stage.1 (between.ended j less ∙ leaf.1) in
      let here = goes.each j stage.0 first.0 leaf.0 stage.1 first.1 leaf.1 in
      elim (cases_Bool (is_drawn tree_of stages leaves j)) [
        | inl drawn ↦
            (let done : (tree_of stage.0.design).done leaf.0 ≡ true = (subst (λ b. IsStagePath b (tree_of stage.0.design) first.0 (goes.part j) leaf.0) drawn here).1 in
            rw (drawn_is, drawn, done_is, done) refl)
        | inr off ↦ rw (drawn_is, off) refl
      ]

  -- one stage more
  one_stage : (i : ℕ) → i < length stages → Reached i → Reached (suc i)
  one_stage i within reached =
      let stage = some_within stages i within in
      let first = some_within firsts i (omega arith) in
      let leaf = some_within leaves i (omega (arith, goes.paired)) in
      let now : List State = reached.states in
      let is_now : slice_get now i ≡ Some first.0 = reached.between.later i (omega arith) ∙ first.1 in
      let here = goes.each i stage.0 first.0 leaf.0 stage.1 first.1 leaf.1 in
      let inside : i < length now = omega (arith, reached.between.count) in
      let drawn_is : is_drawn tree_of stages now i ≡ is_drawn tree_of stages leaves i = drawn_same tree_of stages seats staged i now leaves (λ k l. reached.between.ended k l) in
      let made : Between (suc i) (set now i leaf.0) = record {
        count = length-set now i leaf.0 ∙ reached.between.count;
        ended = λ j l. elim (cases_eq j i) [
          | inl same ↦ ap (slice_get (set now i leaf.0)) same ∙ slice_get-set_same now i leaf.0 inside ∙ sym leaf.1 ∙ ap (slice_get leaves) (sym same)
          | inr other ↦ slice_get-set_other now i j leaf.0 other ∙ reached.between.ended j (omega arith)
        ];
        later = λ j l. slice_get-set_other now i j leaf.0 (λ e. omega arith) ∙ reached.between.later j (omega arith);
      } in
      let step : Leads outer (progress tree_of stages now) (goes.part i) (progress tree_of stages (set now i leaf.0)) =
      elim (cases_Bool (is_drawn tree_of stages leaves i)) [
        | inl drawn ↦
            (let own : Leads (tree_of stage.0.design) first.0 (goes.part i) leaf.0 = (subst (λ b. IsStagePath b (tree_of stage.0.design) first.0 (goes.part i) leaf.0) drawn here).0 in
            let drawn_now : is_drawn tree_of stages now i ≡ true = drawn_is ∙ drawn in
            let passed : (j : ℕ) → j < i → waits tree_of stages now j ≡ false = λ j l. ended_passed i now reached.between j l (omega arith) in
            let through = leads_through (tree_of stage.0.design) (belongs stage.0.design) outer (put tree_of stages seats staged now i stage.0 stage.1 inside drawn_now passed) (view tree_of stages seats staged now i stage.0 stage.1 inside drawn_now passed)
            (stage_lens tree_of stages seats staged now i stage.0 stage.1 inside drawn_now passed (belongs stage.0.design)) (goes.part i) first.0 leaf.0 own in
            subst (λ states. Leads outer (progress tree_of stages states) (goes.part i) (progress tree_of stages (set now i leaf.0))) (set_self now i first.0 is_now) through)
        | inr off ↦
            (let none = subst (λ b. IsStagePath b (tree_of stage.0.design) first.0 (goes.part i) leaf.0) off here in
            let stays : set now i leaf.0 ≡ now = set_self now i leaf.0 (is_now ∙ ap Some (sym none.1)) in
            rw (none.0, stays) refl)
      ] in
      record {
        states = set now i leaf.0;
        between = made;
        leads = leads_join outer (joined goes.part i) (goes.part i) (progress tree_of stages firsts) (progress tree_of stages now) (progress tree_of stages (set now i leaf.0)) reached.leads step;
      }

  reached_after : (i : ℕ) → i ≤ length stages → Reached i
  reached_after zero within = record { states = firsts; between = record { count = paired; ended = λ j l. absurd (omega arith); later = λ j l. refl }; leads = refl }
  reached_after (suc i) within = one_stage i (omega arith) (reached_after i (omega arith))

  past_both : (i : ℕ) → length stages ≤ i → slice_get leaves i ≡ slice_get firsts i
  past_both i past = slice_get_past leaves i (omega (arith, goes.paired)) ∙ sym (slice_get_past firsts i (omega arith))

  all_ended : Between (length stages) leaves
  all_ended = record { count = goes.paired; ended = λ j l. refl; later = past_both }

  pub stages_lead : Leads outer (progress tree_of stages firsts) path (progress tree_of stages leaves) × (outer.done (progress tree_of stages leaves) ≡ true)
  stages_lead =
      let reached : Reached (length stages) = reached_after (length stages) (omega arith) in
      let same : reached.states ≡ leaves = same_elements reached.states leaves (reached.between.count ∙ sym goes.paired) (λ i. elim (cases_lt i (length stages)) [
        | inl less ↦ reached.between.ended i less
        | inr past ↦ reached.between.later i past ∙ sym (past_both i past)
      ]) in
      let at_end : next_stage tree_of stages leaves ≡ length stages =
      next_is tree_of stages leaves (length stages) (omega arith) (λ j l. ended_passed (length stages) leaves all_ended j l l) (λ h. absurd (omega arith)) in (
        subst (λ p. Leads outer (progress tree_of stages firsts) p (progress tree_of stages leaves)) (sym goes.whole)
            (subst (λ states. Leads outer (progress tree_of stages firsts) (joined goes.part (length stages)) (progress tree_of stages states)) same reached.leads),
        eq-eqb (next_stage tree_of stages leaves) (length stages) at_end,
      )
