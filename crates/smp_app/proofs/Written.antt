-- Texts that are written row by row.
use Rattle.std.proofs.Common.{◌≡◌, ℕ, ◌+◌, ◌-◌, ◌*◌, ◌<◌, ◌≤◌, suc, zero, Bool, cond, true, false, ℤ, pos, negsuc, ◌*ℤ◌, List, [], ◌∷◌, ◌++◌, length, get_or, drop, Option, Some, Result, Ok, Err, IfOk, arith, sym, ap, subst, ◌∙◌, true≢false}
use Rattle.std.specs.{List.{count_by, flat_map, range_with_len}, Prelude.{nat_eq, option_map}}
use Rattle.std.proofs.{lemmas.Int.{ints}, lemmas.List.Sums.{sum_by-cons}, lemmas.List.{get_or-map}}
use Rattle.smp_frac.specs.{Fractions.{Same, inverse}, declared.fractions.Frac.{Frac}, Exact.{fraction, fraction_text}}
use Rattle.smp_frac.proofs.{Arithmetic.{same_trans, numerator_positive, inverse_same}, Texts.{fraction_text-same}}
use Rattle.smp_design.specs.Words.{draws_together}
use Rattle.smp_frame.specs.declared.frame.Unit as unit
use Rattle.smp_strata.specs.{Plans.{Plan}, Seats.{IsSeat, seat_fraction}, declared.strata.Seat.{Seat}}
use Rattle.smp_twostage.specs.{Selections.{Coverage, covered_seats, covered_tree, is_of_section, place_of}, Kept.Sides.{is_in_section}}
use Rattle.smp_twostage.specs.{Starts.{is_positive, row_fraction}, Laws.Places.{place_is_seat}}
use Rattle.smp_twostage.proofs.{Numbers.{passing}, Positive.{covered_positive}}
use Rattle.smp_weights.specs.{Rows.{row}, Sample.{sample_row}}
use Rattle.smp_joint.proofs.RowTexts.{all_rows, answer_is}
use Rattle.smp_plan.specs.{declared.plan.FramePlan.{FramePlan}, Plans.{Survey, survey_plan, row_id, row_probability}}
use Rattle.smp_app.specs.{declared.selection.Selection.{Selection}, Drawn.{covered, drawn_rows}, Kept.Stages.{IsSelection, selection_view}}
use Rattle.smp_plan.specs.Planned.{IsPlanned, plan_view}
use Rattle.smp_app.proofs.Alone.{seats_long}

pub if_ok : {T E : Type 0} (r : Result T E) (P Q : T → Type 0) → ((x : T) → P x → Q x) → IfOk r P → IfOk r Q
if_ok (Ok x) P Q f p = f x p
if_ok (Err e) P Q f p = tt

pub rows_written : {A E : Type 0} (line : A → List ℕ) (xs : List A) (i : ℕ) (written : Option (List ℕ)) (whole : List ℕ) (result : Result (List ℕ) E) → length xs ≤ i
    → option_map (λ before. before ++ flat_map line (drop i xs)) written ≡ Some whole → IfOk result (λ text. written ≡ Some text) → IfOk result (λ text. text ≡ whole)
rows_written line xs i written whole result ended so_far answer =
    answer_is result written whole (all_rows line xs i written whole ended so_far) answer

-- ---- how many numbers pass a test

module _ (p : ℕ → Bool) (n k : ℕ) (here : k < n) where
  left : n - k ≡ suc (n - (k + 1))
  left = omega arith

  abbrev pub others : ℕ
  others = count_by p (range_with_len (k + 1) (n - (k + 1)))

  pub count_from : (b : Bool) → p k ≡ b → count_by p (range_with_len k (n - k)) ≡ cond b 1 0 + others
  count_from b is =
      ap (λ m. count_by p (range_with_len k m)) left ∙ sum_by-cons (λ x. cond (p x) 1 0) k (range_with_len (k + 1) (n - (k + 1))) ∙ ap (λ t. cond t 1 0 + others) is

-- ---- rows of a plan

module _ (plan : Survey) (r : ℕ) (u : unit.Unit) (within : r < length plan.units) (is : u ≡ get_or plan.units r u) where
  -- the id of the unit in a row
  pub id_is : u.id ≡ row_id plan r
  id_is = sym (get_or-map (λ (v : unit.Unit). v.id) plan.units r u [] within ∙ ap (λ (v : unit.Unit). v.id) (sym is))

module _ (plan : FramePlan) (planned : IsPlanned plan) (h r : ℕ) where
  section_by : (together : Bool) → draws_together plan.plan.procedure.method ≡ together → is_of_section (survey_plan (plan_view plan)) h r ≡ is_in_section together plan.plan h r
  section_by together is = ap (λ (p : Plan). is_of_section p h r) (sym planned.parts_are) ∙ ap (λ (b : Bool). is_in_section b plan.plan h r) is

  -- where all strata are drawn together, each row is of the section
  pub stands_in_all : draws_together plan.plan.procedure.method ≡ true → is_of_section (survey_plan (plan_view plan)) h r ≡ true
  stands_in_all together = section_by true together

  -- else it is one of the stratum of its seat
  pub stands_in_its : draws_together plan.plan.procedure.method ≡ false → r < length plan.frame → (seat : Seat) → ((other : Seat) → IsSeat plan.plan.strata r other → other ≡ seat)
      → is_of_section (survey_plan (plan_view plan)) h r ≡ nat_eq seat.stratum h
  stands_in_its apart within seat once =
      let seated = planned.drawable.sound.seated.seats r (omega (arith, within, ap (λ (p : Plan). p.rows) planned.parts_are)) in
      let same : place_of plan.plan.strata r ≡ seat = once (place_of plan.plan.strata r) (place_is_seat plan.plan.strata r seated.seat seated.is) in
      section_by false apart ∙ ap (λ (at : Seat). nat_eq at.stratum h) same

module _ (plan : FramePlan) (planned : IsPlanned plan) (r : ℕ) (within : r < length plan.frame) (f : Frac) (asked : (seat : Seat) → IsSeat plan.plan.strata r seat → Same (fraction f) (seat_fraction plan.plan.strata seat)) where
  inside : r < plan.plan.rows
  inside = omega (arith, within, ap (λ (p : Plan). p.rows) planned.parts_are)

  place_there : IsSeat plan.plan.strata r (place_of plan.plan.strata r)
  place_there = let seated = planned.drawable.sound.seated.seats r inside in place_is_seat plan.plan.strata r seated.seat seated.is

  pub asked_by_plan : Same (fraction f) (row_fraction plan.plan r)
  asked_by_plan = asked (place_of plan.plan.strata r) place_there

  probability_is : Same (fraction f) (row_probability (plan_view plan) r)
  probability_is = same_trans asked_by_plan (planned.asked r (place_of plan.plan.strata r) within place_there)

  pub probability_text : fraction_text (fraction f) ≡ fraction_text (row_probability (plan_view plan) r)
  probability_text = fraction_text-same (fraction f) (row_probability (plan_view plan) r) probability_is

  -- the row of the sample
  pub weighted : (id : List ℕ) → id ≡ row_id (plan_view plan) r → 1 ≤ f.num → sample_row id (fraction f) ≡ sample_row (row_id (plan_view plan) r) (row_probability (plan_view plan) r)
  weighted id id_same some =
      ap (λ n. sample_row n (fraction f)) id_same
      ∙ ap (λ t. row (row_id (plan_view plan) r ∷ t ∷ []))
      (fraction_text-same (inverse (fraction f)) (inverse (row_probability (plan_view plan) r))
      (inverse_same (fraction f) (row_probability (plan_view plan) r) (λ none. omega (arith, ints, some, none)) probability_is))

  -- ---- a drawn row has a positive probability

  num_positive : (z : ℤ) (d : ℕ) → is_positive z ≡ true → pos f.num *ℤ pos d ≡ z *ℤ pos f.den → 1 ≤ f.num
  num_positive (pos zero) d some cross = absurd (true≢false (sym some))
  num_positive (pos (suc n)) d some cross =
      let crossed : suc n * f.den ≡ f.num * d = omega (arith, ints, cross) in
      numerator_positive (suc n) f.den f.num d (omega arith) f.positive crossed
  num_positive (negsuc n) d some cross = absurd (true≢false (sym some))

  pub positive : is_positive (row_fraction plan.plan r).num ≡ true → 1 ≤ f.num
  positive some = num_positive (row_fraction plan.plan r).num (row_fraction plan.plan r).den some asked_by_plan.cross

module _ (plan : FramePlan) (selection : Selection) (is : IsSelection (plan_view plan) selection) (i : ℕ) (within : i < length selection.rows.items) where
  abbrev pub drawn_row : ℕ
  drawn_row = get_or selection.rows.items i 0

  abbrev own : Coverage
  own = covered (selection_view (plan_view plan) selection)

  there : (drawn_row < length plan.frame) × ((covered_tree own).selected selection.state drawn_row ≡ true)
  there =
      let passed = passing ((covered_tree own).selected selection.state) 0 0 (length (covered_seats own)) i (rw is.rows at within) in
      let found : get_or (drawn_rows (selection_view (plan_view plan) selection)) i 0 ≡ drawn_row = ap (λ (items : List ℕ). get_or items i 0) (sym is.rows) in
      subst (λ k. (k < length plan.frame) × ((covered_tree own).selected selection.state k ≡ true)) found
      (omega (arith, passed.0, seats_long own), passed.1)

  -- a drawn row is one of the frame, and has a positive probability
  pub drawn_below : drawn_row < length plan.frame
  drawn_below = there.0

  pub drawn_asked : (planned : IsPlanned plan) (f : Frac) → ((seat : Seat) → IsSeat plan.plan.strata drawn_row seat → Same (fraction f) (seat_fraction plan.plan.strata seat)) → 1 ≤ f.num
  drawn_asked planned f asked =
      positive plan planned drawn_row drawn_below f asked
      (covered_positive (record { plan = plan.plan; only = selection.only }) planned.drawable selection.state drawn_row (inside plan planned drawn_row drawn_below f asked)
      (subst (λ (p : Plan). (covered_tree (record { plan = p; only = selection.only })).selected selection.state drawn_row ≡ true) (sym planned.parts_are) there.1))
