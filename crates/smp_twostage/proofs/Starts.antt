-- What holds of the whole selection from its start.
use Rattle.std.proofs.Common.{◌≡◌, ℕ, zero, suc, ◌+◌, ◌*◌, ◌<◌, ◌≤◌, max, true, false, true≢false, ℤ, pos, negsuc, neg_ℤ, ◌*ℤ◌, List, [], ◌∷◌, length, map, Option, Some, None, arith, refl, sym, ap, subst, ◌∙◌}
use Rattle.std.specs.{Prelude.{is_some}, List.{count_by, range_with_len, slice_get}}
use Rattle.smp_frac.specs.Fractions.{Fraction, Same, whole, integer, inverse, times, sum_below}
use Rattle.smp_frac.proofs.Arithmetic.{same_refl, same_sym, same_trans, times_same, sum_same, times-zero, times-one, times_comm, times_left_comm}
use Rattle.smp_prob.specs.{declared.requests.Request.{Request}, declared.inclusions.Inclusion.{Inclusion}}
use Rattle.smp_prob.specs.{declared.inclusions.Inclusion.TheVariants.{Certain, Free, Never}, Inclusions.{fraction_at, inclusion}}
use Rattle.smp_design.specs.{declared.method.Method.{Method}, Words.{draws_together}}
use Rattle.smp_split.specs.{Counts.{LeavesSelect, selected_count}, Paths.{AtEachLeaf}, declared.places.Stage.{Stage}}
use Rattle.smp_split.proofs.RowsAsked.{rows_select}
use Rattle.smp_methods.specs.{declared.any.AnyState.{AnyState}, Designs.{first_state}, Methods.{method_of}}
use Rattle.smp_split.specs.Stages.{Progress, EachBelongs, progress, seat_value, unit_value, drawn_within, is_drawn, selected_in, within_of}
use Rattle.smp_split.specs.{StagePaths.{GoesByStages}, StageStarts.{StartsInStages}, Laws.Reads.{some_within}}
use Rattle.std.proofs.{lemmas.Bool.{and_parts}, lemmas.Option.{slice_get_within}}
use Rattle.smp_strata.specs.{Draws.{IsFor}, Plans.{Plan}, Seats.{first_at, first_fraction, place_fraction, stage_fraction, unit_fraction}}
use Rattle.smp_strata.specs.{declared.strata.FirstUnit.{FirstUnit}, declared.strata.Stratum.{Stratum}}
use Rattle.smp_twostage.specs.{Kept.Stages.{EachFirst, EachStarts, StageStarts}, Plans.{CanBeDrawn}, Kept.Sides.{states_of}}
use Rattle.smp_twostage.specs.Selections.{Selecting, tree_of, belongs_to, first_stage, second_stage, stages_of, seats_of, first_number, place_of}
use Rattle.smp_twostage.specs.{Starts.{StartsWhole, known, row_fraction, weighted}, Laws.Numbering.{first_there, second_there}}
use Rattle.smp_twostage.specs.Laws.Staged.{length_seats, none_in, seconds_in}
use Rattle.smp_twostage.proofs.{Cubes.{drawn_by_cube}, Sizes.{firsts_around}, Values.{row_value_is}}
use Rattle.smp_twostage.proofs.StartsBy.{FirstSelectsSo, SecondSelectsSo, StartsBy, starts_whole_by, tree_so}

pub each_belongs : (stages : List (Stage Selecting)) (states : List AnyState) → EachStarts stages states → EachBelongs tree_of belongs_to stages states
each_belongs stages states each = record { paired = each.paired; each = λ i stage state is_stage is_state. (each.each i stage state is_stage is_state).member }

-- ---- a row's value, weighted by its design weight, is known

weighs : (n den : ℕ) (positive : 1 ≤ den) (x : ℤ) → Same (times (weighted (record { num = pos n; den = den; positive = positive }) x) (record { num = pos n; den = den; positive = positive })) (integer (known (record { num = pos n; den = den; positive = positive }) x))
weighs zero den positive x =
    let a : Fraction = record { num = pos 0; den = den; positive = positive } in
    let same : 0 * 1 ≡ 0 * den = omega arith in
    let none : Same a (whole 0) = record { cross = ap pos same } in
    same_trans (times_same (same_refl (weighted a x)) none) (times-zero (weighted a x))
weighs (suc n) den positive x =
    let a : Fraction = record { num = pos (suc n); den = den; positive = positive } in
    let larger : max 1 (suc n) ≡ suc n = omega arith in
    let same : suc n * den * 1 ≡ 1 * (den * max 1 (suc n)) = rw larger (omega arith) in
    let one : Same (times a (inverse a)) (whole 1) = record { cross = ap pos same } in
    same_trans (times_comm (weighted a x) a)
    (same_trans (times_left_comm a (integer x) (inverse a))
    (same_trans (times_same (same_refl (integer x)) one) (times-one (integer x))))

-- the probability of a row isn't negative
abbrev IsProbability : Fraction → Type 0
IsProbability a = (n : ℕ) × (a.num ≡ pos n)

never : (m d k : ℕ) → 1 ≤ d → negsuc m *ℤ pos d ≡ pos k → ⊥
never m zero k some is = omega (arith, some)
never m (suc d) k some is =
    let big : suc m * suc d ≡ suc (m * suc d + d) = omega arith in
    let same : negsuc (m * suc d + d) ≡ pos k = ap (λ n. neg_ℤ (pos n)) (sym big) ∙ is in
    absurd (cc)

-- a fraction that is the same as one that isn't negative
probability_same : (a b : Fraction) → Same a b → IsProbability b → IsProbability a
probability_same a b same (n, is) = by_sign a.num refl
  where
    by_sign : (z : ℤ) → a.num ≡ z → IsProbability a
    by_sign (pos m) at = (m, at)
    by_sign (negsuc m) at = absurd (never m b.den (n * a.den) b.positive (ap (λ z. z *ℤ pos b.den) (sym at) ∙ same.cross ∙ ap (λ z. z *ℤ pos a.den) is))

weighs_any : (a : Fraction) (n : ℕ) → a.num ≡ pos n → (x : ℤ) → Same (times (weighted a x) a) (integer (known a x))
weighs_any a n is x =
    subst (λ (z : ℤ). Same (times (weighted (record { num = z; den = a.den; positive = a.positive }) x) (record { num = z; den = a.den; positive = a.positive })) (integer (known (record { num = z; den = a.den; positive = a.positive }) x))) (sym is)
    (weighs n a.den a.positive x)

asked_positive : (request : Request) (stand : Inclusion) → IsProbability (fraction_at request stand)
asked_positive request Certain = (1, refl)
asked_positive request (Free unit) = (_, refl)
asked_positive request Never = (0, refl)

first_positive : (s : Option Stratum) (unit : ℕ) → IsProbability (unit_fraction s unit)
first_positive None unit = (0, refl)
first_positive (Some s) unit = asked_positive s.request (inclusion s.request unit)

stage_positive : (request : Option Request) (place : ℕ) → IsProbability (stage_fraction request place)
stage_positive None place = (1, refl)
stage_positive (Some request) place = asked_positive request (inclusion request place)

place_positive : (u : Option FirstUnit) (place : ℕ) → IsProbability (place_fraction u place)
place_positive None place = (0, refl)
place_positive (Some u) place = stage_positive u.second place

times_positive : (a b : Fraction) → IsProbability a → IsProbability b → IsProbability (times a b)
times_positive a b (m, is_a) (n, is_b) = (m * n, rw (is_a, is_b) refl)

row_positive : (plan : Plan) (row : ℕ) → IsProbability (row_fraction plan row)
row_positive plan row =
    let seat = place_of plan.strata row in
    times_positive (first_fraction plan.strata seat.stratum seat.unit) (place_fraction (first_at plan.strata seat.stratum seat.unit) seat.place)
    (first_positive (slice_get plan.strata seat.stratum) seat.unit) (place_positive (first_at plan.strata seat.stratum seat.unit) seat.place)

-- so a row whose value is its probability is known, weighted by it
pub weighs_row : (plan : Plan) (row : ℕ) (asked value : Fraction) (x : ℤ) → Same asked (row_fraction plan row) → Same value (row_fraction plan row) → Same (times (weighted asked x) value) (integer (known asked x))
weighs_row plan row asked value x same is =
    let probability : IsProbability asked = probability_same asked (row_fraction plan row) same (row_positive plan row) in
    same_trans (times_same (same_refl (weighted asked x)) (same_trans is (same_sym same))) (weighs_any asked probability.0 probability.1 x)

-- ---- how many units are selected

module _ (plan : Plan) (drawable : CanBeDrawn plan) (states : List AnyState) (each : EachStarts (stages_of plan) states)
    (starts : StartsInStages tree_of belongs_to (stages_of plan) (seats_of plan) states (progress tree_of (stages_of plan) states)) where
  abbrev start : Progress AnyState
  start = progress tree_of (stages_of plan) states

  -- the leaves of a stage select what its request draws
  leaves_select : (i n : ℕ) (stage : Stage Selecting) (first : AnyState) → slice_get (stages_of plan) i ≡ Some stage → slice_get states i ≡ Some first → IsFor stage.design.request stage.design.units n → LeavesSelect (tree_of stage.design) n first
  leaves_select i n stage first is_stage is_first fills =
      let here : StageStarts stage.design first = each.each i stage first is_stage is_first in
      rows_select stage.design.units stage.design.request (method_of stage.design.design).tree first here.serves (method_of stage.design.design).belongs n here.member.paired (here.adds_up fills.whole) fills.fills

  selected_so : (i n : ℕ) (stage : Stage Selecting) → slice_get (stages_of plan) i ≡ Some stage → IsFor stage.design.request stage.design.units n
      → AtEachLeaf (tree_so false plan) start (λ path leaf. is_drawn tree_of (stages_of plan) leaf.states i ≡ true
      → count_by (λ unit. selected_in tree_of (stages_of plan) leaf.states (record { stage = i; unit = unit })) (range_with_len 0 stage.design.units) ≡ n)
  selected_so i n stage is_stage fills path leaf leads done drawn =
      let within = slice_get_within (stages_of plan) i stage is_stage in
      let goes = starts.paths path leaf leads done in
      let first = some_within states i (omega (arith, each.paired, within)) in
      let last = some_within leaf.states i (omega (arith, goes.paired, within)) in
      let counted : selected_count (tree_of stage.design) last.0 ≡ n =
      starts.sizes i n stage first.0 is_stage first.1 (leaves_select i n stage first.0 is_stage first.1 fills) path leaf leads done last.0 last.1 drawn in
      rw (drawn, is_stage, last.1) counted

  first_drawn : (h : ℕ) (s : Stratum) → slice_get plan.strata h ≡ Some s → (leaves : List AnyState) → is_drawn tree_of (stages_of plan) leaves (first_number plan h) ≡ true
  first_drawn h s is leaves = rw (first_there plan h s is) refl

  firsts : (h n : ℕ) (s : Stratum) → slice_get plan.strata h ≡ Some s → IsFor s.request (length s.units) n → FirstSelectsSo false plan start h s n
  firsts h n s is fills path leaf leads done =
      selected_so (first_number plan h) n (first_stage plan s) (first_there plan h s is) fills path leaf leads done (first_drawn h s is leaf.states)

  seconds : (method : Option Method) → plan.second ≡ method → (h k n : ℕ) (s : Stratum) (u : FirstUnit) (request : Request) → slice_get plan.strata h ≡ Some s → slice_get s.units k ≡ Some u → u.second ≡ Some request
      → IsFor request (length u.rows) n → SecondSelectsSo false plan start h k u n
  seconds (Some method) second h k n s u request is_s is_u asks fills path leaf leads done first =
      let there = second_there plan h s is_s method second (seconds_in plan drawable method second h s is_s) k u is_u request asks in
      let drawn : is_drawn tree_of (stages_of plan) leaf.states (suc (first_number plan h + k)) ≡ true = ap (λ o. drawn_within tree_of (stages_of plan) leaf.states (within_of o)) there ∙ (and_parts _ _ first).1 in
      selected_so (suc (first_number plan h + k)) n (second_stage method request (length u.rows) (first_number plan h) k) there fills path leaf leads done drawn
  seconds None second h k n s u request is_s is_u asks fills path leaf leads done first =
      absurd (let none = none_in plan drawable second h k s u is_s is_u in
      let some : is_some u.second ≡ true = ap is_some asks in
      true≢false (sym some ∙ none))

  -- ---- from the start

  known_term : (asked : ℕ → Fraction) → ((row : ℕ) → row < plan.rows → Same (asked row) (row_fraction plan row)) → (x : ℕ → ℤ) → (row : ℕ) → row < plan.rows
      → Same (times (weighted (asked row) (x row)) (seat_value (unit_value tree_of (stages_of plan) states) (slice_get (seats_of plan) row))) (integer (known (asked row) (x row)))
  known_term asked same x row l =
      weighs_row plan row (asked row) (seat_value (unit_value tree_of (stages_of plan) states) (slice_get (seats_of plan) row)) (x row) (same row l) (row_value_is plan drawable states each row l)

  starts_at : states ≡ states_of plan → draws_together plan.procedure.method ≡ false → StartsBy false plan start
  starts_at states_are apart = record {
    member = starts.member;
    values = row_value_is plan drawable states each;
    probability = λ row l. same_trans (starts.probability row (omega (arith, l, length_seats plan drawable))) (row_value_is plan drawable states each row l);
    unbiased = λ asked same x.
        same_trans (starts.mean (λ row. weighted (asked row) (x row)))
        (subst (λ n. Same (sum_below (length (seats_of plan)) (λ row. times (weighted (asked row) (x row)) (seat_value (unit_value tree_of (stages_of plan) states) (slice_get (seats_of plan) row)))) (sum_below n (λ row. integer (known (asked row) (x row)))))
        (length_seats plan drawable)
        (sum_same (length (seats_of plan)) _ _ (λ row l. known_term asked same x row (omega (arith, l, length_seats plan drawable)))));
    firsts = firsts;
    seconds = seconds plan.second refl;
    around = λ other h s is. firsts_around plan drawable other states each h s is starts.paths;
    cubes = λ balance apart path ends goes h s is. drawn_by_cube plan drawable path ends goes h s is balance apart;
    drawn = λ together. absurd (true≢false (sym together ∙ apart));
    balanced = λ together. absurd (true≢false (sym together ∙ apart));
    paths = subst (λ (qs : List AnyState). AtEachLeaf (tree_so false plan) start (λ path leaf. GoesByStages tree_of (stages_of plan) qs path leaf.states)) states_are starts.paths;
  }

-- the states are those from which the stages start
pub states_are : (stages : List (Stage Selecting)) (states : List AnyState) → EachStarts stages states → states ≡ map (λ stage. first_state stage.design.design) stages
states_are [] [] each = refl
states_are [] (t ∷ states) each = absurd (omega (arith, each.paired))
states_are (s ∷ stages) [] each = absurd (omega (arith, each.paired))
states_are (s ∷ stages) (t ∷ states) each =
    let is : t ≡ first_state s.design.design = (each.each 0 s t refl refl).is in
    let rest = states_are stages states (record { paired = omega (arith, each.paired); each = λ i. each.each (suc i) }) in
    ap (λ (u : AnyState). u ∷ states) is ∙ ap (λ (us : List AnyState). first_state s.design.design ∷ us) rest

-- each is in its first state, which is one of its own
pub each_first : (stages : List (Stage Selecting)) (states : List AnyState) → EachStarts stages states → EachFirst stages states
each_first stages states each = record { are = states_are stages states each; belong = each_belongs stages states each }

pub starts_whole : (plan : Plan) → CanBeDrawn plan → (states : List AnyState) → EachStarts (stages_of plan) states
    → (state : Progress AnyState) → state ≡ progress tree_of (stages_of plan) states → StartsInStages tree_of belongs_to (stages_of plan) (seats_of plan) states state → draws_together plan.procedure.method ≡ false → StartsWhole plan state
starts_whole plan drawable states each state is starts apart =
    starts_whole_by plan drawable state
    (subst (λ b. StartsBy b plan state) (sym apart)
    (subst (StartsBy false plan) (sym is)
    (starts_at plan drawable states each (subst (StartsInStages tree_of belongs_to (stages_of plan) (seats_of plan) states) is starts) (states_are (stages_of plan) states each) apart)))
