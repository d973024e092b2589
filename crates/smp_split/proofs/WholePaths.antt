-- A path to a leaf is made of the stages' own paths.
use Rattle.std.proofs.Common.{◌≡◌, ◌≢◌, ℕ, zero, suc, ◌<◌, ◌≤◌, true, false, cond, nat_eq, List, [], ◌∷◌, length, set, Some, arith, refl, sym, ap, subst, ◌∙◌, inl, inr}
use Rattle.std.specs.List.{slice_get}
use Rattle.std.proofs.{lemmas.Bool.{cases_Bool, cases_eq, cases_lt, eq-eqb, ne_eqb}, lemmas.Option.{same_Some, slice_get_within}}
use Rattle.smp_split.specs.{Paths.{Entry, IsStep, Leads, AtEachLeaf}, Trees.{Tree, Lawful, weight_sum, picked}, declared.places.Seat.{Seat}}
use Rattle.smp_split.specs.{declared.places.Stage.{Stage}, StagePaths.{IsStagePath, joined, GoesByStages}}
use Rattle.smp_split.specs.Stages.{Progress, stage_parts, is_drawn, waits, next_stage, progress, staged_tree, IsStaged, IsUnderWay}
use Rattle.smp_split.specs.{Laws.Reads.{slice_get-set_same, slice_get-set_other}, Laws.Staged.{waiting, none_waits}}
use Rattle.smp_split.specs.Laws.Turns.{read_is, drawn_same, done_where_drawn, next_waits}
use Rattle.smp_split.proofs.Stepped.{GoesOn, goes_on, bound_is, Stepped, stepped}

-- ---- joining parts

joined_none : (part : ℕ → List Entry) (n : ℕ) → ((i : ℕ) → i < n → part i ≡ []) → joined part n ≡ []
joined_none part zero none = refl
joined_none part (suc n) none = rw (joined_none part n (λ i l. none i (omega arith)), none n (omega arith)) refl

joined_same : (part other : ℕ → List Entry) (n : ℕ) → ((i : ℕ) → i < n → part i ≡ other i) → joined part n ≡ joined other n
joined_same part other zero same = refl
joined_same part other (suc n) same = rw (joined_same part other n (λ i l. same i (omega arith)), same n (omega arith)) refl

-- one more entry in front of the part at k
abbrev put_at : ℕ → Entry → (ℕ → List Entry) → ℕ → List Entry
put_at k entry part i = cond (nat_eq i k) (entry ∷ part i) (part i)

put_here : (k : ℕ) (entry : Entry) (part : ℕ → List Entry) (i : ℕ) → i ≡ k → put_at k entry part i ≡ entry ∷ part i
put_here k entry part i same = rw (eq-eqb i k same) refl

put_other : (k : ℕ) (entry : Entry) (part : ℕ → List Entry) (i : ℕ) → i ≢ k → put_at k entry part i ≡ part i
put_other k entry part i other = rw (ne_eqb i k other) refl

joined_put : (k : ℕ) (entry : Entry) (part : ℕ → List Entry) → ((i : ℕ) → i < k → part i ≡ []) → (n : ℕ) → k < n → joined (put_at k entry part) n ≡ entry ∷ joined part n
joined_put k entry part none zero within = absurd (omega arith)
joined_put k entry part none (suc n) within =
    elim (cases_eq n k) [
      | inl same ↦
          (let before : joined (put_at k entry part) n ≡ [] = joined_none (put_at k entry part) n (λ i l. put_other k entry part i (λ e. omega arith) ∙ none i (omega arith)) in
          let before_part : joined part n ≡ [] = joined_none part n (λ i l. none i (omega arith)) in
          rw (before, before_part, put_here k entry part n same) refl)
      | inr other ↦ rw (joined_put k entry part none n (omega arith), put_other k entry part n other) refl
    ]

module _ {Design State : Type 0} (tree_of : Design → Tree State) (belongs : Design → State → Type 0) (lawful : (design : Design) → Lawful (tree_of design) (belongs design)) (stages : List (Stage Design)) (seats : List Seat) (staged : IsStaged tree_of stages seats) where
  abbrev outer : Tree (Progress State)
  outer = staged_tree tree_of stages seats

  -- a stage that doesn't wait, and makes no step
  still : (states : List State) (i : ℕ) (stage : Stage Design) (first leaf : State) → slice_get stages i ≡ Some stage → slice_get states i ≡ Some first → leaf ≡ first → waits tree_of stages states i ≡ false
      → IsStagePath (is_drawn tree_of stages states i) (tree_of stage.design) first [] leaf
  still states i stage first leaf is_stage is_first same passed =
      elim (cases_Bool (is_drawn tree_of stages states i)) [
        | inl drawn ↦
            (let done : (tree_of stage.design).done first ≡ true =
            sym (read_is tree_of true (λ tree t. tree.done t) (slice_get stages i) (slice_get states i) stage first is_stage is_first) ∙ done_where_drawn tree_of stages states i drawn passed in
            rw drawn (same, subst (λ t. (tree_of stage.design).done t ≡ true) (sym same) done))
        | inr off ↦ rw off (refl, same)
      ]

  -- the parts of a path that is under way: the stages before the one that is under way have none, and stay
  record Going (s : Progress State) (path : List Entry) (leaf : Progress State) : Type 0 where
    goes : GoesByStages tree_of stages s.states path leaf.states
    before : (i : ℕ) → i < s.at → goes.part i ≡ []
    kept : (i : ℕ) → i < s.at → slice_get leaf.states i ≡ slice_get s.states i

  none_left : (s : Progress State) → IsUnderWay tree_of belongs stages s → outer.done s ≡ true → Going s [] s
  none_left s here done = record {
    goes = record {
      paired = here.states.paired;
      part = λ i. [];
      whole = sym (joined_none (λ i. []) (length stages) (λ i l. refl));
      each = λ i stage first leaf is_stage is_first is_leaf.
          still s.states i stage first leaf is_stage is_first (same_Some leaf first (sym is_leaf ∙ is_first)) (none_waits tree_of belongs lawful stages seats staged s here done i (slice_get_within stages i stage is_stage));
    };
    before = λ i l. refl;
    kept = λ i l. refl;
  }

  -- A step of the stage that is under way, in front of a path that is under way after it.
  module _ (s leaf : Progress State) (entry : Entry) (path : List Entry) (here : IsUnderWay tree_of belongs stages s) (step : IsStep outer s entry) where
    on : GoesOn tree_of belongs stages seats s
    on = goes_on tree_of belongs stages seats {inside = s} refl here step.going

    abbrev i : ℕ
    i = s.at

    within : entry.2 < weight_sum (stage_parts tree_of stages s.states s.at)
    within = subst (λ (n : ℕ). entry.2 < n) (step.bound ∙ bound_is tree_of belongs stages seats s) step.value

    module _ (stage : Stage Design) (state : State) (is_stage : slice_get stages s.at ≡ Some stage) (is_state : slice_get s.states s.at ≡ Some state) (drawn : is_drawn tree_of stages s.states s.at ≡ true) (going : (tree_of stage.design).done state ≡ false) where
      parts_is : stage_parts tree_of stages s.states s.at ≡ (tree_of stage.design).parts state
      parts_is = read_is tree_of _ (λ tree t. tree.parts t) (slice_get stages s.at) (slice_get s.states s.at) stage state is_stage is_state

      abbrev next : State
      next = picked state ((tree_of stage.design).parts state) entry.2

      abbrev new : List State
      new = set s.states s.at next

      own_step : IsStep (tree_of stage.design) state entry
      own_step = record {
        going = going;
        kind = step.kind ∙ read_is tree_of _ (λ tree t. tree.kind t) (slice_get stages s.at) (slice_get s.states s.at) stage state is_stage is_state;
        bound = step.bound ∙ bound_is tree_of belongs stages seats s ∙ ap weight_sum parts_is;
        value = step.value;
      }

      stepped_here : Stepped tree_of belongs stages seats s entry.2 new
      stepped_here =
          stepped tree_of belongs stages seats lawful staged s here step.going entry.2 within new
          (λ other is_other. ap (set s.states s.at) (ap (λ t. picked t ((tree_of stage.design).parts state) entry.2) (same_Some state other (sym is_state ∙ is_other)) ∙ ap (λ ps. picked other ps entry.2) (sym parts_is)))

      -- the stage that is under way doesn't fall back
      no_less : s.at ≤ next_stage tree_of stages new
      no_less = elim (cases_lt (next_stage tree_of stages new) s.at) [
        | inl less ↦ absurd (let waiting_is : waits tree_of stages new (next_stage tree_of stages new) ≡ true = next_waits tree_of stages new (omega (arith, on.within)) in
            let passed : waits tree_of stages new (next_stage tree_of stages new) ≡ false = stepped_here.passed (next_stage tree_of stages new) less in cc)
        | inr most ↦ most
      ]

      other_state : (j : ℕ) → j ≢ s.at → slice_get new j ≡ slice_get s.states j
      other_state j other = slice_get-set_other s.states s.at j next other

      module _ (rest : Going (progress tree_of stages new) path leaf) where
        kept_before : (j : ℕ) → j < s.at → slice_get leaf.states j ≡ slice_get s.states j
        kept_before j l = rest.kept j (omega (arith, no_less)) ∙ other_state j (λ e. omega arith)

        part_before : (j : ℕ) → j < s.at → rest.goes.part j ≡ []
        part_before j l = rest.before j (omega (arith, no_less))

        drawn_leaf : is_drawn tree_of stages leaf.states s.at ≡ true
        drawn_leaf = drawn_same tree_of stages seats staged s.at leaf.states s.states kept_before ∙ drawn

        here_path : (end : State) → slice_get leaf.states s.at ≡ Some end → IsStagePath (is_drawn tree_of stages leaf.states s.at) (tree_of stage.design) state (entry ∷ rest.goes.part s.at) end
        here_path end is_end =
            let set_is : slice_get new s.at ≡ Some next = slice_get-set_same s.states s.at next (slice_get_within s.states s.at state is_state) in
            let later = rest.goes.each s.at stage next end is_stage set_is is_end in
            let later_true : IsStagePath true (tree_of stage.design) next (rest.goes.part s.at) end = subst (λ b. IsStagePath b (tree_of stage.design) next (rest.goes.part s.at) end) drawn_leaf later in
            subst (λ b. IsStagePath b (tree_of stage.design) state (entry ∷ rest.goes.part s.at) end) (sym drawn_leaf) ((own_step, later_true.0), later_true.1)

        here_each : (j : ℕ) → j ≡ s.at → (other : Stage Design) (first end : State) → slice_get stages j ≡ Some other → slice_get s.states j ≡ Some first → slice_get leaf.states j ≡ Some end
            → IsStagePath (is_drawn tree_of stages leaf.states j) (tree_of other.design) first (put_at s.at entry rest.goes.part j) end
        here_each j same =
            let Q : ℕ → Type 0 = λ k. (other : Stage Design) (first end : State) → slice_get stages k ≡ Some other → slice_get s.states k ≡ Some first → slice_get leaf.states k ≡ Some end
            → IsStagePath (is_drawn tree_of stages leaf.states k) (tree_of other.design) first (put_at s.at entry rest.goes.part k) end in
            subst Q (sym same) (λ other first end is_other is_first is_end.
            (let here_is : IsStagePath (is_drawn tree_of stages leaf.states s.at) (tree_of stage.design) state (put_at s.at entry rest.goes.part s.at) end =
            subst (λ p. IsStagePath (is_drawn tree_of stages leaf.states s.at) (tree_of stage.design) state p end) (sym (put_here s.at entry rest.goes.part s.at refl)) (here_path end is_end) in
            let same_stage : stage ≡ other = same_Some stage other (sym is_stage ∙ is_other) in
            let same_state : state ≡ first = same_Some state first (sym is_state ∙ is_first) in
            let P : Stage Design → Type 0 = λ t. IsStagePath (is_drawn tree_of stages leaf.states s.at) (tree_of t.design) first (put_at s.at entry rest.goes.part s.at) end in
            subst P same_stage (subst (λ q. IsStagePath (is_drawn tree_of stages leaf.states s.at) (tree_of stage.design) q (put_at s.at entry rest.goes.part s.at) end) same_state here_is)))

        one_more : Going s (entry ∷ path) leaf
        one_more = record {
          goes = record {
            paired = rest.goes.paired;
            part = put_at s.at entry rest.goes.part;
            whole = ap (λ p. entry ∷ p) rest.goes.whole ∙ sym (joined_put s.at entry rest.goes.part part_before (length stages) on.within);
            each = λ j other first end is_other is_first is_end. elim (cases_eq j s.at) [
              | inl same ↦ here_each j same other first end is_other is_first is_end
              | inr differ ↦
                  (let P : List Entry → Type 0 = λ p. IsStagePath (is_drawn tree_of stages leaf.states j) (tree_of other.design) first p end in
                  subst P (sym (put_other s.at entry rest.goes.part j differ)) (rest.goes.each j other first end is_other (other_state j differ ∙ is_first) is_end))
            ];
          };
          before = λ j l. put_other s.at entry rest.goes.part j (λ e. omega arith) ∙ part_before j l;
          kept = kept_before;
        }

  going_along : (path : List Entry) (s leaf : Progress State) → IsUnderWay tree_of belongs stages s → Leads outer s path leaf → outer.done leaf ≡ true → Going s path leaf
  going_along [] s leaf here leads done =
      subst (Going s []) (sym leads) (none_left s here (subst (λ t. outer.done t ≡ true) leads done))
  going_along (entry ∷ path) s leaf here leads done =
      let begun : GoesOn tree_of belongs stages seats s = on s leaf entry path here leads.0 in
      let w = waiting tree_of belongs stages s.states here.states s.at begun.within begun.waits in
      let made : Stepped tree_of belongs stages seats s entry.2 (new s leaf entry path here leads.0 w.here.stage w.here.state w.here.is_stage w.here.is_state w.drawn w.going) =
      stepped_here s leaf entry path here leads.0 w.here.stage w.here.state w.here.is_stage w.here.is_state w.drawn w.going in
      one_more s leaf entry path here leads.0 w.here.stage w.here.state w.here.is_stage w.here.is_state w.drawn w.going
      (going_along path (progress tree_of stages (new s leaf entry path here leads.0 w.here.stage w.here.state w.here.is_stage w.here.is_state w.drawn w.going)) leaf
      (record { states = made.each; at = refl }) (subst (λ t. Leads outer t path leaf) (sym made.is) leads.1) done)

  -- each whole path is made of the stages' own paths
  pub goes_by_stages : (s : Progress State) → IsUnderWay tree_of belongs stages s → AtEachLeaf outer s (λ path leaf. GoesByStages tree_of stages s.states path leaf.states)
  goes_by_stages s here path leaf leads done = (going_along path s leaf here leads done).goes

  -- what holds at each leaf of a stage's own tree holds of the stage wherever it is drawn
  pub holds_of_stage : (firsts leaves : List State) (path : List Entry) (goes : GoesByStages tree_of stages firsts path leaves) (i : ℕ) (stage : Stage Design) (first last : State) → slice_get stages i ≡ Some stage → slice_get firsts i ≡ Some first → slice_get leaves i ≡ Some last
      → is_drawn tree_of stages leaves i ≡ true → (P : List Entry → State → Type 0) → AtEachLeaf (tree_of stage.design) first P → P (goes.part i) last
  holds_of_stage firsts leaves path goes i stage first last is_stage is_first is_last drawn P all =
      let own : IsStagePath true (tree_of stage.design) first (goes.part i) last = subst (λ b. IsStagePath b (tree_of stage.design) first (goes.part i) last) drawn (goes.each i stage first last is_stage is_first is_last) in
      all (goes.part i) last own.0 own.1
