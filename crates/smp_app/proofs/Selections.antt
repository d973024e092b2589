-- What is selected by a tape or by a seed is what the verdict draws, with the requested probabilities.
use Rattle.std.proofs.Common.{◌≡◌, ℕ, ◌<◌, Bool, List, length, Option, Some, None, Result, Ok, Err, true, false, refl, sym, ap, subst, ◌∙◌, arith, inr}
use Rattle.std.specs.{Prelude.{◌^◌, IfOk, IfSome, OnOk, is_some, option_map}, List.{count_by, range_with_len, slice_get}}
use Rattle.std.proofs.{lemmas.List.Elements.{All-get_or}, lemmas.Option.{slice_get_within, get_or_from_slice_get}}
use Rattle.smp_frac.specs.{Bounds.{IsAround}, Fractions.{Fraction, Same, integer, sum_below}}
use Rattle.smp_frac.proofs.{Around.{around_same}, Arithmetic.{same_sym, same_trans}}
use Rattle.smp_split.specs.{Means.{mean, inclusion_probability}, Paths.{Entry, Leads}, Laws.Steps.{reached_lawful}, Sectioning.{Sectioning}}
use Rattle.smp_prob.specs.{declared.requests.Request.{Request}, Given.{expected_size}}
use Rattle.smp_design.specs.Words.{balances, draws_together}
use Rattle.smp_tape.specs.{Sources.{Source}, declared.draws.DrawFault.{DrawFault}}
use Rattle.smp_log.specs.{Answers.{AnswersAs}, Genuine.{DiffersAt, IsFullPath}, declared.fault.ReplayFault.{ReplayFault}}
use Rattle.smp_log.specs.declared.fault.ReplayFault.TheVariants as replays
use Rattle.smp_log.specs.SectionLogs.{ArePlaced, IsAnyGenuine, RiseFrom, placed, sectioned_log_text, sections_text, steps_of}
use Rattle.smp_log.proofs.Placed.{placed_as, placed_rise}
use Rattle.smp_log.specs.{declared.fault.LogFault.{LogFault}, declared.fault.LogFault.TheVariants.{Differs}}
use Rattle.smp_split.specs.{Runs.{Outcome, run, leaf, stopped, IsLeaf, IsStop, IsOutcome}, Trees.{Tree, weight_sum}, Stages.{Progress}}
use Rattle.smp_split.proofs.Runs.{run_is}
use Rattle.smp_design.specs.declared.design.Second as second
use Rattle.smp_methods.specs.declared.any.AnyState.{AnyState}
use Rattle.smp_strata.specs.{Draws.{AreAsked, IsFor, SecondDraws, expected_firsts}, Plans.{Plan, first_probs}}
use Rattle.smp_strata.specs.{declared.strata.FirstUnit.{FirstUnit}, declared.strata.Stratum.{Stratum}}
use Rattle.smp_twostage.specs.Selections as selections
use Rattle.smp_twostage.specs.Selections.{BelongsToCovered, BelongsToWhole, Coverage, all_of, covered_start, covered_tree, one_of, place_of, section_count, strata_sections, whole_tree}
use Rattle.smp_twostage.specs.{Kept.Sides.{section_count_by}, Covered.{StartsAlone}, Plans.{CanBeDrawn}, Laws.Places.{place_is_seat}}
use Rattle.smp_twostage.proofs.Wholes.{whole_starts}
use Rattle.smp_twostage.specs.Starts.{StartsWhole, covered_first, known, row_fraction, second_selected, weighted}
use Rattle.smp_twostage.specs.{Laws.Staged.{seconds_in}, Laws.Wholes.{covered_lawful, strata_sectioned, whole_lawful}}
use Rattle.smp_plan.specs.{declared.plan.FramePlan.{FramePlan}, Planned.{IsPlanned, plan_view}, Stops.{Stop}}
use Rattle.smp_twostage.specs.declared.whole.StartedWhole.{StartedWhole}
use Rattle.smp_app.specs.{declared.selection.Taken.{Taken}, Draws.{IsDrawnBy, HasProbabilities}, Drawn.{tree_of, start_of, Drawn, covered}}
use Rattle.smp_app.specs.declared.selection.Taken.TheVariants as takes
use Rattle.smp_app.specs.Kept.Stages.{EndsAsTold, HasStratum, IsStart, IsWalked, Lines, RefusedAt, StartsOf, drawn_by_taken, end_told, lines_of, only_of, path_by, reading_by}
use Rattle.smp_app.specs.{Kept.Exact.{IsDrawnOf, IsDrawnWhole, IsListed}, Texts.{log_text}, Verdict.{alone, told_by}}
use Rattle.smp_plan.specs.Plans.{Survey, survey_plan, row_probability}
use Rattle.smp_app.proofs.Cubes.{keeps_balance}

-- the entries that were told
pub told_is : {path lines : List Entry} → Some lines ≡ Some path → lines ≡ path
told_is {path} {lines} told = let same : ◌≡◌ {A = Option (List Entry)} (Some lines) (Some path) = told in cc

-- ---- the run of the draws

-- a run in the plan's draw tree from its start
module _ {Rest : Type 0} (source : Source Rest) (plan : Survey) (tree : Tree (Progress AnyState)) (tree_is : tree ≡ tree_of plan) (start : Progress AnyState) (start_is : start ≡ start_of plan) (draws : Rest) where
  abbrev pub ran_by_plan : Outcome (Progress AnyState) Rest
  ran_by_plan = run source (tree_of plan) (start_of plan) draws

  ran_so : (outcome : Outcome (Progress AnyState) Rest) → run source tree start draws ≡ outcome → ran_by_plan ≡ outcome
  ran_so outcome ran =
      subst (λ (t : Tree (Progress AnyState)). run source t (start_of plan) draws ≡ outcome) tree_is
      (subst (λ (s : Progress AnyState). run source tree s draws ≡ outcome) start_is ran)

  -- the walk came to a leaf
  pub ends_at_leaf : (state : Progress AnyState) (lines path : List Entry) (left : Rest) → run source tree start draws ≡ leaf state path left → Some lines ≡ Some path → ran_by_plan ≡ leaf state lines left
  ends_at_leaf state lines path left ran told = ran_so _ ran ∙ ap (λ (p : List Entry). leaf state p left) (sym (told_is told))

  -- a draw was refused
  pub ends_refused : (state : Progress AnyState) (path : List Entry) (fault : DrawFault) (left : Rest) (bound : ℕ) → bound ≡ weight_sum (tree.parts state) → run source tree start draws ≡ stopped state path fault left
      → RefusedAt plan ran_by_plan state fault bound left
  ends_refused state path fault left bound bound_is ran = record {
    path = path;
    ran = ran_so _ ran;
    bound_is = bound_is ∙ ap (λ (t : Tree (Progress AnyState)). weight_sum (t.parts state)) tree_is;
  }

-- ---- what a log tells

-- the end of a replay is what its log tells, which has this path and this reading
module _ (plan : Survey) (only : Option ℕ) (state : Progress AnyState) (stage : Result Drawn Stop) where
  pub ends_told : (told : Result (Unit {0}) ReplayFault) (lines : Lines) (path : List Entry) (reading : Result (Progress AnyState) ℕ) → stage ≡ told_by plan only path reading → AnswersAs told state reading → OnOk told (Some (steps_of lines) ≡ Some path)
      → EndsAsTold plan only stage state (end_told told lines)
  ends_told (Ok done) lines path reading is reads tells =
      is ∙ ap (told_by plan only path) reads ∙ ap (λ (p : List Entry). Ok (record { plan = plan; only = only; leaf = state; path = p })) (sym (told_is tells))
  ends_told (Err (replays.Differs line)) lines path reading is reads tells = is ∙ ap (told_by plan only path) reads
  ends_told (Err replays.NoMemory) lines path reading is reads tells = tt

-- what holds of the lines where all was told
pub told_holds : (told : Result (Unit {0}) ReplayFault) (lines : Lines) (P : Lines → Type 0) → OnOk told (P lines) → IfOk (end_told told lines) P
told_holds (Ok done) lines P p = p
told_holds (Err (replays.Differs line)) lines P p = tt
told_holds (Err replays.NoMemory) lines P p = tt

pub on_both : {A E : Type 0} (result : Result A E) (P Q R : Type 0) → (P → Q → R) → OnOk result P → OnOk result Q → OnOk result R
on_both (Ok x) P Q R f p q = f p q
on_both (Err e) P Q R f p q = tt

pub on_more : {A E : Type 0} (result : Result A E) (P Q : Type 0) → (P → Q) → OnOk result P → OnOk result Q
on_more (Ok x) P Q f p = f p
on_more (Err e) P Q f p = tt

-- what is read in a selection that is seen so is what the plan's draw tree reads
module _ (plan : Survey) (taken : Taken) (log : List ℕ) where
  abbrev tells_by : Coverage → Progress AnyState → Result Drawn Stop
  tells_by c from = told_by plan (only_of taken) (path_by taken c from log) (reading_by taken c from plan.head log)

-- the strata for which it is taken
abbrev taken_of : Taken → Plan → Coverage
taken_of taken plan = record { plan = plan; only = only_of taken }

tells_so : (plan : Survey) (taken : Taken) (log : List ℕ) → drawn_by_taken taken plan log ≡ tells_by plan taken log (taken_of taken (survey_plan plan)) (covered_start (taken_of taken (survey_plan plan)))
tells_so plan takes.Either log = refl
tells_so plan takes.Old log = refl
tells_so plan (takes.Stratum h) log = refl

-- ---- what a run of a selection comes to

module _ {Rest : Type 0} (source : Source Rest) (own : Coverage) (start : Progress AnyState) (here : BelongsToCovered own start) (draws : Rest) where
  comes_to : IsOutcome source (covered_tree own) start draws (run source (covered_tree own) start draws)
  comes_to = run_is source (covered_tree own) (BelongsToCovered own) (covered_lawful own) start draws here

  pub leaf_is : (state : Progress AnyState) (path : List Entry) (end : Rest) → run source (covered_tree own) start draws ≡ leaf state path end → IsLeaf source (covered_tree own) start draws state path end
  leaf_is state path end ran = subst (IsOutcome source (covered_tree own) start draws) ran comes_to

  pub stop_is : (state : Progress AnyState) (path : List Entry) (fault : DrawFault) (end : Rest) → run source (covered_tree own) start draws ≡ stopped state path fault end → IsStop source (covered_tree own) start draws state path fault end
  stop_is state path fault end ran = subst (IsOutcome source (covered_tree own) start draws) ran comes_to

-- ---- what is drawn by a plan

-- the state from which a walk starts is one of the selection
starts_member : (plan : Plan) (only : Option ℕ) (state : Progress AnyState) → StartsOf plan only state → BelongsToCovered (record { plan = plan; only = only }) state
starts_member plan None state starts = starts.member
starts_member plan (Some h) state starts = starts.member

module _ (plan : Plan) (only : Option ℕ) (started : StartedWhole) (start : IsStart plan only started) where
  pub belongs : BelongsToCovered started.whole started.state
  belongs = subst (λ (c : Coverage). BelongsToCovered c started.state) (sym start.whole) (starts_member plan only started.state start.starts)

one_by : (together : Bool) (plan : Plan) (h : ℕ) → section_count_by together (one_of plan h) ≡ 1
one_by true plan h = refl
one_by false plan h = refl

is_one_by : (only : Option ℕ) (plan : Plan) → IfSome only (λ h. (strata_sections (record { plan = plan; only = only })).count ≡ 1)
is_one_by None plan = tt
is_one_by (Some h) plan = one_by (draws_together plan.procedure.method) plan h

-- one section alone is one
pub is_one : (plan : Plan) (only : Option ℕ) (started : StartedWhole) → IsStart plan only started → IfSome only (λ h. (strata_sections started.whole).count ≡ 1)
is_one plan only started start = subst (λ (c : Coverage). IfSome only (λ h. (strata_sections c).count ≡ 1)) (sym start.whole) (is_one_by only plan)

pub has_parts : (plan : Plan) (only : Option ℕ) → HasStratum plan only → IfSome only (λ h. h < section_count (all_of plan)) × IfSome only (λ h. h < 2 ^ 32)
has_parts plan None has = (tt, tt)
has_parts plan (Some h) has = has

pub taken_stage : (plan : FramePlan) → IsPlanned plan → (started : StartedWhole) (taken : Taken) → IsStart plan.plan (only_of taken) started → (log : List ℕ)
    → drawn_by_taken taken (plan_view plan) log ≡ tells_by (plan_view plan) taken log started.whole started.state
taken_stage plan planned started taken start log =
    let view = plan_view plan in
    let by : Plan → Result Drawn Stop = λ p. tells_by view taken log (taken_of taken p) (covered_start (taken_of taken p)) in
    tells_so view taken log ∙ sym
    (ap (tells_by view taken log started.whole) start.state
    ∙ ap (λ (c : Coverage). tells_by view taken log c (covered_start (taken_of taken plan.plan))) start.whole
    ∙ ap by planned.parts_are)

pub start_belongs : (plan : FramePlan) → IsPlanned plan → (only : Option ℕ) (started : StartedWhole) → IsStart plan.plan only started
    → BelongsToCovered (record { plan = survey_plan (plan_view plan); only = only }) (covered_start (record { plan = survey_plan (plan_view plan); only = only }))
start_belongs plan planned only started start =
    subst (λ (p : Plan). BelongsToCovered (record { plan = p; only = only }) (covered_start (record { plan = p; only = only }))) planned.parts_are
    (subst (λ (s : Progress AnyState). BelongsToCovered (record { plan = plan.plan; only = only }) s) start.state (starts_member plan.plan only started.state start.starts))

-- the lines that a walk kept from such a start are those of what it came to
pub lines_so : (plan : FramePlan) → IsPlanned plan → (only : Option ℕ) (started : StartedWhole) → IsStart plan.plan only started → (to : Progress AnyState) (path : List Entry) (lines : Lines)
    → ArePlaced (covered_tree started.whole) (strata_sections started.whole) started.state to lines → steps_of lines ≡ path → lines ≡ lines_of (record { plan = plan_view plan; only = only; leaf = to; path = path })
lines_so plan planned only started start to path lines so told =
    let by : Coverage → Progress AnyState → Lines = λ c s. placed (covered_tree c) (strata_sections c) s path in
    let all : Plan → Coverage = λ p. record { plan = p; only = only } in
    placed_as (covered_tree started.whole) (strata_sections started.whole) started.state to lines path so told
    ∙ ap (by started.whole) start.state
    ∙ ap (λ (c : Coverage). by c (covered_start (all plan.plan))) start.whole
    ∙ ap (λ (p : Plan). by (all p) (covered_start (all p))) planned.parts_are

module _ (plan : FramePlan) (planned : IsPlanned plan) where
  pub own_is : (own : Coverage) → own ≡ all_of plan.plan → own ≡ all_of (survey_plan (plan_view plan))
  own_is own is = is ∙ ap all_of planned.parts_are

  pub tree_is : (own : Coverage) → own ≡ all_of plan.plan → covered_tree own ≡ tree_of (plan_view plan)
  tree_is own is = ap covered_tree (own_is own is)

  pub start_is : (state : Progress AnyState) → state ≡ selections.start_of plan.plan → state ≡ start_of (plan_view plan)
  start_is state is = is ∙ ap selections.start_of planned.parts_are

  abbrev all : Plan
  all = survey_plan (plan_view plan)

  rows_are : plan.plan.rows ≡ length plan.frame
  rows_are = ap (λ (p : Plan). p.rows) planned.parts_are

  -- the probability of a row, in the words of the frame
  pub asked_is : (row : ℕ) → row < length plan.frame → Same (row_fraction plan.plan row) (row_probability (plan_view plan) row)
  asked_is row l =
      let seated = planned.drawable.sound.seated.seats row (omega (arith, l, rows_are)) in
      planned.asked row (place_of plan.plan.strata row) l (place_is_seat plan.plan.strata row seated.seat seated.is)

  module _ (state : Progress AnyState) (starts : StartsWhole plan.plan state) (state_is : state ≡ start_of (plan_view plan)) where
    start_member : BelongsToWhole (survey_plan (plan_view plan)) (start_of (plan_view plan))
    start_member = subst (λ (s : Progress AnyState). BelongsToWhole (survey_plan (plan_view plan)) s) state_is (subst (λ (c : Coverage). BelongsToCovered c state) (own_is (all_of plan.plan) refl) starts.member)

    pub probabilities_own : HasProbabilities (plan_view plan)
    probabilities_own = record {
      probability = λ row l.
          subst (λ (t : Tree (Progress AnyState)). Same (inclusion_probability t (start_of (plan_view plan)) row) (row_probability (plan_view plan) row)) (tree_is (all_of plan.plan) refl)
          (subst (λ (s : Progress AnyState). Same (inclusion_probability (whole_tree plan.plan) s row) (row_probability (plan_view plan) row)) state_is
          (same_trans (starts.probability row (omega (arith, l, rows_are))) (asked_is row l)));
      unbiased = λ x.
          subst (λ (t : Tree (Progress AnyState)). Same (mean t (λ row. weighted (row_probability (plan_view plan) row) (x row)) (start_of (plan_view plan))) (sum_below (length plan.frame) (λ row. integer (known (row_probability (plan_view plan) row) (x row))))) (tree_is (all_of plan.plan) refl)
          (subst (λ (s : Progress AnyState). Same (mean (whole_tree plan.plan) (λ row. weighted (row_probability (plan_view plan) row) (x row)) s) (sum_below (length plan.frame) (λ row. integer (known (row_probability (plan_view plan) row) (x row))))) state_is
          (subst (λ n. Same (mean (whole_tree plan.plan) (λ row. weighted (row_probability (plan_view plan) row) (x row)) state) (sum_below n (λ row. integer (known (row_probability (plan_view plan) row) (x row))))) rows_are
          (starts.unbiased (row_probability (plan_view plan)) (λ row l. same_sym (asked_is row (omega (arith, l, rows_are)))) x)));
    }

    module _ (path : List Entry) (to : Progress AnyState) (leads : Leads (whole_tree plan.plan) state path to) (done : (whole_tree plan.plan).done to ≡ true) where
      abbrev here : Drawn
      here = record { plan = plan_view plan; only = None; leaf = to; path = path }

      abbrev FirstsBy : Plan → Type 0
      FirstsBy p =
          (h n : ℕ) (s : Stratum) → slice_get p.strata h ≡ Some s → AreAsked plan.design.columns.prob plan.design plan.frame h n
          → count_by (covered_first (all_of p) to.states h) (range_with_len 0 (length s.units)) ≡ n

      firsts_own : FirstsBy plan.plan
      firsts_own h n s is asked = starts.firsts h n s is ((planned.draws h s is).firsts n asked) path to leads done

      abbrev AroundBy : Plan → Type 0
      AroundBy p =
          balances plan.design.procedure.method ≡ false → (h : ℕ) (s : Stratum) → slice_get p.strata h ≡ Some s
          → IfSome plan.design.columns.prob (λ column. IsAround (count_by (covered_first (all_of p) to.states h) (range_with_len 0 (length s.units))) (expected_size (first_probs plan.design plan.frame h)))

      method_is : plan.plan.procedure.method ≡ plan.design.procedure.method
      method_is = ap (λ (p : Plan). p.procedure.method) planned.parts_are

      around_by : (prob : Option (List ℕ)) → (count : ℕ) (expected sum : Fraction) → IfSome prob (λ column. Same expected sum) → IsAround count expected → IfSome prob (λ column. IsAround count sum)
      around_by (Some column) count expected sum same is = around_same count (same_sym same) is
      around_by None count expected sum same is = tt

      around_own : AroundBy plan.plan
      around_own other h s is =
          around_by plan.design.columns.prob _ (expected_firsts s) (expected_size (first_probs plan.design plan.frame h)) (planned.draws h s is).expected
          (starts.around (ap balances method_is ∙ other) h s is path to leads done)

      abbrev SecondsBy : Plan → Type 0
      SecondsBy p =
          (h k : ℕ) (s : Stratum) (u : FirstUnit) (asked : second.Second) → slice_get p.strata h ≡ Some s → slice_get s.units k ≡ Some u → plan.design.second ≡ Some asked
          → covered_first (all_of p) to.states h k ≡ true → count_by (second_selected p to.states h k) (range_with_len 0 (length u.rows)) ≡ asked.n

      second_is : plan.plan.second ≡ option_map (λ s. s.method) plan.design.second
      second_is = ap (λ (p : Plan). p.second) planned.parts_are

      seconds_by : (h k : ℕ) (s : Stratum) (u : FirstUnit) (asked : second.Second) → slice_get plan.plan.strata h ≡ Some s → slice_get s.units k ≡ Some u
          → (request : Option Request) → u.second ≡ request → is_some request ≡ true → IfSome request (λ r. IsFor r (length u.rows) asked.n)
          → covered_first (all_of plan.plan) to.states h k ≡ true → count_by (second_selected plan.plan to.states h k) (range_with_len 0 (length u.rows)) ≡ asked.n
      seconds_by h k s u asked is_s is_u (Some request) asks some fills first = starts.seconds h k asked.n s u request is_s is_u asks fills path to leads done first
      seconds_by h k s u asked is_s is_u None asks some fills first = absurd (cc)

      seconds_own : SecondsBy plan.plan
      seconds_own h k s u asked is_s is_u is_second first =
          let draws : SecondDraws plan.design.second (length u.rows) u.second =
          subst (λ (v : FirstUnit). SecondDraws plan.design.second (length v.rows) v.second) (get_or_from_slice_get s.units k u u is_u)
          (All-get_or (λ (v : FirstUnit). SecondDraws plan.design.second (length v.rows) v.second) s.units k u (slice_get_within s.units k u is_u) (planned.draws h s is_s).rows) in
          let method : plan.plan.second ≡ Some asked.method = second_is ∙ ap (option_map (λ s. s.method)) is_second in
          seconds_by h k s u asked is_s is_u u.second refl (seconds_in plan.plan planned.drawable asked.method method h s is_s k u is_u)
          (subst (λ (o : Option second.Second). SecondDraws o (length u.rows) u.second) is_second draws) first

      drawn_so : IsDrawnBy here
      drawn_so = record {
        all = refl;
        lawful = reached_lawful (tree_of (plan_view plan)) (BelongsToWhole all) (whole_lawful all) (start_of (plan_view plan)) start_member;
        full = subst (λ (s : Progress AnyState). IsFullPath (tree_of (plan_view plan)) s path to) state_is
            (subst (λ (t : Tree (Progress AnyState)). IsFullPath t state path to) (tree_is (all_of plan.plan) refl)
            (record { leads = leads; done = done }));
        firsts = subst FirstsBy planned.parts_are firsts_own;
        around = subst AroundBy planned.parts_are around_own;
        seconds = subst SecondsBy planned.parts_are seconds_own;
        probabilities = probabilities_own;
        balance = keeps_balance plan planned path to (starts.paths path to leads done) state starts;
      }

      drawn_by : IsDrawnWhole (plan_view plan) here
      drawn_by = record { plan_is = refl; member = start_member; by_plan = drawn_so }

  -- what is listed of a plan, of which nothing is drawn
  pub is_listed : IsListed (plan_view plan)
  is_listed = record {
    drawable = subst CanBeDrawn planned.parts_are planned.drawable;
    probabilities = probabilities_own (selections.start_of plan.plan) (whole_starts plan.plan planned.drawable) (start_is (selections.start_of plan.plan) refl);
  }

  abbrev view : Survey
  view = plan_view plan

  -- a walk of all strata that came to a leaf
  pub walked_all : (started : StartedWhole) → IsStart plan.plan None started → (to : Progress AnyState) → BelongsToCovered started.whole to → (path : List Entry) (lines : Lines) → IsFullPath (covered_tree started.whole) started.state path to → steps_of lines ≡ path → lines ≡ lines_of (record { plan = view; only = None; leaf = to; path = path })
      → IsWalked view started.whole lines (record { plan = view; only = None; leaf = to; path = steps_of lines })
  walked_all started begun to here path lines full same own_lines =
      let own = started.whole in
      let is : own ≡ all_of plan.plan = begun.whole in
      let start = started.state in
      let starts : StartsWhole plan.plan start = begun.starts in
      let from : start ≡ selections.start_of plan.plan = begun.state in
      subst (λ (p : List Entry). IsWalked view own lines (record { plan = view; only = None; leaf = to; path = p })) (sym same)
      (record {
        whole = own_is own is;
        belongs = here;
        done = subst (λ (t : Tree (Progress AnyState)). t.done to ≡ true) (tree_is own is) full.done;
        lines_are = own_lines;
        by_plan = drawn_by start starts (start_is start from) path to (subst (λ c. Leads (covered_tree c) start path to) is full.leads) (subst (λ c. (covered_tree c).done to ≡ true) is full.done);
      })

  -- a walk of one stratum alone that came to a leaf
  walked_alone : (h : ℕ) → h < section_count (all_of plan.plan) → (started : StartedWhole) → IsStart plan.plan (Some h) started → (to : Progress AnyState) → BelongsToCovered started.whole to → (path : List Entry) (lines : Lines) → IsFullPath (covered_tree started.whole) started.state path to → steps_of lines ≡ path → lines ≡ lines_of (record { plan = view; only = Some h; leaf = to; path = path })
      → IsWalked view started.whole lines (record { plan = view; only = Some h; leaf = to; path = steps_of lines })
  walked_alone h within started begun to here path lines full same own_lines =
      let own = started.whole in
      let is : own ≡ one_of plan.plan h = begun.whole in
      let start = started.state in
      let starts : StartsAlone plan.plan h start = begun.starts in
      let from : start ≡ covered_start (one_of plan.plan h) = begun.state in
      let seen : own ≡ alone view h = is ∙ ap (λ (p : Plan). one_of p h) planned.parts_are in
      let begins : start ≡ covered_start (alone view h) = from ∙ ap (λ (p : Plan). covered_start (one_of p h)) planned.parts_are in
      let own_starts : StartsAlone (survey_plan view) h (covered_start (alone view h)) = subst (λ (p : Plan). StartsAlone p h (covered_start (one_of p h))) planned.parts_are (subst (StartsAlone plan.plan h) from starts) in
      subst (λ (p : List Entry). IsWalked view own lines (record { plan = view; only = Some h; leaf = to; path = p })) (sym same)
      (record {
        whole = seen;
        belongs = here;
        done = subst (λ (c : Coverage). (covered_tree c).done to ≡ true) seen full.done;
        lines_are = own_lines;
        by_plan = record {
          plan_is = refl;
          only = refl;
          there = omega (arith, within, ap (λ (p : Plan). section_count (all_of p)) planned.parts_are);
          lawful = reached_lawful (covered_tree (alone view h)) (BelongsToCovered (alone view h)) (covered_lawful (alone view h)) (covered_start (alone view h)) own_starts.member;
          starts = own_starts;
          full = subst (λ (s : Progress AnyState). IsFullPath (covered_tree (alone view h)) s path to) begins (subst (λ (c : Coverage). IsFullPath (covered_tree c) start path to) seen full);
        };
      })

  pub taken_walked : (taken : Taken) → HasStratum plan.plan (only_of taken) → (started : StartedWhole) → IsStart plan.plan (only_of taken) started → (to : Progress AnyState) → BelongsToCovered started.whole to → (path : List Entry) (lines : Lines) → IsFullPath (covered_tree started.whole) started.state path to → steps_of lines ≡ path → lines ≡ lines_of (record { plan = view; only = only_of taken; leaf = to; path = path })
      → IsWalked view started.whole lines (record { plan = view; only = only_of taken; leaf = to; path = steps_of lines })
  taken_walked takes.Either has started begun to here path lines full same own_lines = walked_all started begun to here path lines full same own_lines
  taken_walked takes.Old has started begun to here path lines full same own_lines = walked_all started begun to here path lines full same own_lines
  taken_walked (takes.Stratum h) has started begun to here path lines full same own_lines = walked_alone h has.0 started begun to here path lines full same own_lines

-- ---- the log of what is drawn

-- what is drawn has the path of a full tape, and where it is of one stratum alone, the plan has it
module _ (plan : Survey) (leaf : Progress AnyState) (path : List Entry) where
  abbrev pub drawn_of_only : Option ℕ → Drawn
  drawn_of_only only = record { plan = plan; only = only; leaf = leaf; path = path }

  full_of : (only : Option ℕ) → IsDrawnOf only plan (drawn_of_only only) → IsFullPath (covered_tree (covered (drawn_of_only only))) (covered_start (covered (drawn_of_only only))) path leaf
  full_of None by = by.by_plan.full
  full_of (Some h) by = by.full

  member_of : (only : Option ℕ) → IsDrawnOf only plan (drawn_of_only only) → BelongsToCovered (covered (drawn_of_only only)) (covered_start (covered (drawn_of_only only)))
  member_of None by = by.member
  member_of (Some h) by = by.starts.member

  there_of : (only : Option ℕ) → IsDrawnOf only plan (drawn_of_only only) → IfSome only (λ h. h < section_count (all_of (survey_plan plan)))
  there_of None by = tt
  there_of (Some h) by = by.there

module _ (plan : FramePlan) (planned : IsPlanned plan) (only : Option ℕ) (leaf : Progress AnyState) (path : List Entry) (by : IsDrawnOf only (plan_view plan) (record { plan = plan_view plan; only = only; leaf = leaf; path = path })) where
  abbrev drawn_here : Drawn
  drawn_here = record { plan = plan_view plan; only = only; leaf = leaf; path = path }

  pub own_strata : IfSome only (λ h. h < section_count (all_of plan.plan))
  own_strata = subst (λ (p : Plan). IfSome only (λ h. h < section_count (all_of p))) (sym planned.parts_are) (there_of (plan_view plan) leaf path only by)

  -- the sections of its lines rise
  pub own_rise : (lines : Lines) → lines ≡ lines_of drawn_here → (design : Coverage) → design ≡ covered drawn_here → (count : ℕ) → count ≡ (strata_sections design).count → RiseFrom count 0 lines
  own_rise lines is design seen count counts =
      let own = covered drawn_here in
      let rise = placed_rise (covered_tree own) (BelongsToCovered own) (covered_lawful own) (strata_sections own) (strata_sectioned own) path (covered_start own) leaf 0 (member_of (plan_view plan) leaf path only by) (omega arith) (full_of (plan_view plan) leaf path only by).leads in
      let here : (strata_sections own).count ≡ count = ap (λ (c : Coverage). (strata_sections c).count) (sym seen) ∙ sym counts in
      subst (λ n. RiseFrom n 0 lines) here (subst (RiseFrom (strata_sections own).count 0) (sym is) rise)

  -- and they make its log
  pub own_log : (lines : Lines) → lines ≡ lines_of drawn_here → (design : Coverage) → design ≡ covered drawn_here → (count : ℕ) → count ≡ (strata_sections design).count → sections_text plan.head count lines ≡ log_text drawn_here
  own_log lines is design seen count counts =
      let here : count ≡ (strata_sections (covered drawn_here)).count = counts ∙ ap (λ (c : Coverage). (strata_sections c).count) seen in
      ap (λ n. sections_text plan.head n lines) here ∙ ap (sections_text plan.head (strata_sections (covered drawn_here)).count) is

  -- in the selection that is made once more
  module _ (own : Coverage) (is : own ≡ record { plan = plan.plan; only = only }) (start : Progress AnyState) (from : start ≡ covered_start (record { plan = plan.plan; only = only })) where
    seen : own ≡ covered drawn_here
    seen = is ∙ ap (λ (p : Plan). record { plan = p; only = only }) planned.parts_are

    begins : start ≡ covered_start (covered drawn_here)
    begins = from ∙ ap (λ (p : Plan). covered_start (record { plan = p; only = only })) planned.parts_are

    pub own_path : IsFullPath (covered_tree own) start path leaf
    own_path =
        subst (λ (s : Progress AnyState). IsFullPath (covered_tree own) s path leaf) (sym begins)
        (subst (λ (c : Coverage). IsFullPath (covered_tree c) (covered_start (covered drawn_here)) path leaf) (sym seen) (full_of (plan_view plan) leaf path only by))

    pub own_text : sectioned_log_text (covered_tree own) (strata_sections own) start plan.head path ≡ log_text drawn_here
    own_text =
        ap (λ (s : Progress AnyState). sectioned_log_text (covered_tree own) (strata_sections own) s plan.head path) begins
        ∙ ap (λ (c : Coverage). sectioned_log_text (covered_tree c) (strata_sections c) (covered_start (covered drawn_here)) plan.head path) seen

-- the log of a full path never differs
pub never_differs : {State : Type 0} (tree : Tree State) (sections : Sectioning State) (from : State) (head : List ℕ) (path : List Entry) (end : State) → IsFullPath tree from path end
    → (log : List ℕ) → log ≡ sectioned_log_text tree sections from head path → (fault : LogFault) → ((line : ℕ) → fault ≡ Differs line → DiffersAt (IsAnyGenuine tree sections from head) log line) → ⊥
never_differs tree sections from head path end full log is (Differs line) differs = (differs line refl).not_genuine end (record { path = path; full = full; text = inr is })
