-- The selection of one stratum alone is a part of the whole.
use Rattle.std.proofs.Common.{◌≡◌, ℕ, zero, suc, ◌+◌, ◌<◌, ◌≤◌, true, false, List, [], ◌∷◌, ◌++◌, length, map, take, drop, Option, Some, None, arith, refl, sym, ap, subst, ◌∙◌, inl, inr, length-append, append_assoc, append-nil}
use Rattle.std.specs.{Prelude.{option_map}, List.{slice_get}}
use Rattle.std.proofs.{lemmas.Bool.{cases_Bool, eqb-true}, lemmas.List.{drop-map, length-map, take-map}, lemmas.Option.{slice_get_within}}
use Rattle.std.proofs.Math.Seq.{drop-append_seam}
use Rattle.smp_frac.specs.Fractions.{Fraction, Same, whole}
use Rattle.smp_frac.proofs.Arithmetic.{same_refl, same_trans}
use Rattle.smp_split.specs.{Sectioning.{IsPartOf}, declared.places.Stage.{Stage}, StageStarts.{StartsInStages}}
use Rattle.smp_prob.specs.declared.requests.Request.{Request}
use Rattle.smp_design.specs.{declared.method.Method.{Method}, Words.{draws_together}}
use Rattle.smp_methods.specs.{declared.any.AnyState.{AnyState}, Designs.{first_state}}
use Rattle.smp_split.specs.declared.places.Seat.TheVariants as seat
use Rattle.smp_split.specs.OwnStages.{AreTheirOwn, run_of, seat_later, sections_by, stage_later}
use Rattle.smp_split.specs.Stages.{IsUnderWay, Progress, progress, seat_selected, seat_value, unit_selected, unit_value}
use Rattle.smp_split.proofs.OwnStages.{is_part}
use Rattle.smp_strata.specs.{Plans.{Plan}, declared.strata.FirstUnit.{FirstUnit}, declared.strata.Seat.{Seat}}
use Rattle.smp_strata.specs.declared.strata.Stratum.{Stratum}
use Rattle.smp_twostage.specs.{Covered.{StartsAlone}, Kept.Stages.{EachStarts}, Plans.{CanBeDrawn}, Kept.Sides.{states_of}}
use Rattle.smp_twostage.specs.Selections.{BelongsToWhole, Selecting, all_of, belongs_to, first_number, first_stage, is_of_stratum, parts_by, place_of, seat_alone, seat_by, seats_by, seats_of, stage_by, stage_within, stages_below, stages_in, stages_of, stages_within, tree_of}
use Rattle.smp_twostage.specs.{Kept.Sides.{section_count_by, stages_before_by, stages_by}, Laws.Numbering.{less_or_same}}
use Rattle.smp_twostage.specs.{Laws.Covered.{alone_staged, length_alone, made_at, strata_are}, Laws.Staged.{length_seats, seat_at}}
use Rattle.smp_twostage.proofs.{Firsts.{start_belongs}, AloneBy.{AloneBy, own_fraction, own_state, starts_alone_by, tree_alone}}
use Rattle.smp_twostage.proofs.{StartsBy.{tree_so}, Values.{alone_value_is}}

-- ---- the list of the one stratum

taken : {X : Type 0} (xs : List X) (h : ℕ) (x : X) → slice_get xs h ≡ Some x → take 1 (drop h xs) ≡ x ∷ []
taken [] h x is = absurd (cc)
taken (y ∷ ys) zero x is = let same : y ≡ x = cc in ap (λ z. z ∷ []) same
taken (y ∷ ys) (suc h) x is = taken ys h x is

take_seam : {X : Type 0} (xs ys : List X) → take (length xs) (xs ++ ys) ≡ xs
take_seam [] ys = refl
take_seam (x ∷ xs) ys = ap (λ zs. x ∷ zs) (take_seam xs ys)

map_over : {X Y : Type 0} (f : X → Y) (xs ys : List X) → map f (xs ++ ys) ≡ map f xs ++ map f ys
map_over f [] ys = refl
map_over f (x ∷ xs) ys = ap (λ zs. f x ∷ zs) (map_over f xs ys)

-- ---- its stages are those of the whole

module _ (before : ℕ) where
  no_more : before + 0 ≡ before
  no_more = omega arith

  by_later : (method : Option Method) (request : Option Request) (rows k : ℕ) → map (stage_later before) (stage_by method request rows 0 k) ≡ stage_by method request rows before k
  by_later (Some method) (Some request) rows k = ap (λ n. stage_by (Some method) (Some request) rows n k) no_more
  by_later (Some method) None rows k = refl
  by_later None request rows k = refl

  within_later : (method : Option Method) (k : ℕ) (u : Option FirstUnit) → map (stage_later before) (stage_within method 0 k u) ≡ stage_within method before k u
  within_later method k (Some u) = by_later method u.second (length u.rows) k
  within_later method k None = refl

  units_later : (method : Option Method) (units : List FirstUnit) (n : ℕ) → map (stage_later before) (stages_within method 0 units n) ≡ stages_within method before units n
  units_later method units zero = refl
  units_later method units (suc n) =
      map_over (stage_later before) (stages_within method 0 units n) (stage_within method 0 n (slice_get units n))
      ∙ ap (λ xs. xs ++ map (stage_later before) (stage_within method 0 n (slice_get units n))) (units_later method units n)
      ∙ ap (λ xs. stages_within method before units n ++ xs) (within_later method n (slice_get units n))

  stratum_later : (plan : Plan) (s : Option Stratum) → map (stage_later before) (stages_in plan 0 s) ≡ stages_in plan before s
  stratum_later plan (Some s) = ap (λ (xs : List (Stage Selecting)). first_stage plan s ∷ xs) (units_later plan.second s.units (length s.units))
  stratum_later plan None = refl

-- the stages of the first strata, and then those of the others
module _ (plan : Plan) where
  others : (m n : ℕ) → m ≤ n → (rest : List (Stage Selecting)) × (stages_below plan n ≡ stages_below plan m ++ rest)
  others m zero l = let none : 0 ≡ m = omega arith in ([], ap (stages_below plan) none ∙ sym (append-nil (stages_below plan m)))
  others m (suc n) l =
      elim (less_or_same m n l) [
        | inl less ↦
            (let before = others m n less in
            let last = stages_in plan (length (stages_below plan n)) (slice_get plan.strata n) in
            (before.0 ++ last, ap (λ xs. xs ++ last) before.1 ∙ append_assoc (stages_below plan m) before.0 last))
        | inr same ↦ ([], ap (stages_below plan) (sym same) ∙ sym (append-nil (stages_below plan m)))
      ]

  module _ (h : ℕ) (within : h < length plan.strata) where
    abbrev before : ℕ
    before = first_number plan h

    abbrev its_stages : List (Stage Selecting)
    its_stages = stages_in plan before (slice_get plan.strata h)

    stages_are : (rest : List (Stage Selecting)) × (stages_of plan ≡ stages_below plan h ++ (its_stages ++ rest))
    stages_are =
        let after = others (suc h) (length plan.strata) (omega (arith, within)) in
        (after.0, after.1 ∙ append_assoc (stages_below plan h) its_stages after.0)

    run_is : run_of before (length its_stages) (stages_of plan) ≡ its_stages
    run_is =
        ap (λ xs. take (length its_stages) (drop before xs)) stages_are.1
        ∙ ap (take (length its_stages)) (drop-append_seam (stages_below plan h) (its_stages ++ stages_are.0))
        ∙ take_seam its_stages stages_are.0

module _ (plan : Plan) (drawable : CanBeDrawn plan) (h : ℕ) (s : Stratum) (is : slice_get plan.strata h ≡ Some s) where
  abbrev number : ℕ
  number = first_number plan h

  abbrev part : List (Stage Selecting)
  part = stages_of (parts_by plan (Some h))

  within : h < length plan.strata
  within = slice_get_within plan.strata h s is

  part_is : part ≡ stages_in plan 0 (slice_get plan.strata h)
  part_is = ap (λ (strata : List Stratum). stages_of (record plan { strata = strata })) (taken plan.strata h s is) ∙ ap (stages_in plan 0) (sym is)

  pub alone_made : (done new : List (Stage Selecting)) → done ≡ [] → new ≡ done ++ stages_in plan (length done) (Some s) → new ≡ stages_of (parts_by plan (Some h))
  alone_made done new none more = more ∙ ap (λ (xs : List (Stage Selecting)). xs ++ stages_in plan (length xs) (Some s)) none ∙ ap (stages_in plan 0) (sym is) ∙ sym part_is

  part_later : map (stage_later number) part ≡ stages_in plan number (slice_get plan.strata h)
  part_later = ap (λ (stages : List (Stage Selecting)). map (stage_later number) stages) part_is ∙ stratum_later number plan (slice_get plan.strata h)

  part_length : length part ≡ length (stages_in plan number (slice_get plan.strata h))
  part_length = sym (length-map part (stage_later number)) ∙ ap (λ (stages : List (Stage Selecting)). length stages) part_later

  part_run : run_of number (length part) (stages_of plan) ≡ map (stage_later number) part
  part_run = ap (λ n. run_of number n (stages_of plan)) part_length ∙ run_is plan h within ∙ sym part_later

  -- ---- and its rows have the same seats

  seat_same : (method : Option Method) (place : Seat) → seat_by method number place ≡ seat_later number (seat_by method 0 place)
  seat_same None place = ap (λ n. seat.First (record { stage = n; unit = place.unit })) (sym (no_more number))
  seat_same (Some method) place =
      let next : suc (number + place.unit) ≡ number + suc (0 + place.unit) = omega arith in
      ap (λ n. seat.Second (record { stage = n; unit = place.unit }) (record { stage = suc (number + place.unit); unit = place.place })) (sym (no_more number))
      ∙ ap (λ n. seat.Second (record { stage = number + 0; unit = place.unit }) (record { stage = n; unit = place.place })) next

  its_seat : (row : ℕ) → row < plan.rows → is_of_stratum plan h row ≡ true → slice_get (seats_by plan (Some h)) row ≡ Some (seat_by plan.second 0 (place_of plan.strata row))
  its_seat row l its = let here : seat_alone plan h row ≡ seat_by plan.second 0 (place_of plan.strata row) = rw its refl in made_at (seat_alone plan h) plan.rows row l ∙ ap Some here

  no_seat : (row : ℕ) → row < plan.rows → is_of_stratum plan h row ≡ false → slice_get (seats_by plan (Some h)) row ≡ Some seat.Nowhere
  no_seat row l other = let none : seat_alone plan h row ≡ seat.Nowhere = rw other refl in made_at (seat_alone plan h) plan.rows row l ∙ ap Some none

  seated : (row : ℕ) → row < plan.rows → is_of_stratum plan h row ≡ true → slice_get (seats_of plan) row ≡ option_map (seat_later number) (slice_get (seats_by plan (Some h)) row)
  seated row l its =
      let place = place_of plan.strata row in
      let stratum : place.stratum ≡ h = eqb-true place.stratum h its in
      seat_at plan drawable row l
      ∙ ap (λ k. Some (seat_by plan.second (first_number plan k) place)) stratum
      ∙ ap Some (seat_same plan.second place)
      ∙ ap (option_map (seat_later number)) (sym (its_seat row l its))

  their_own : AreTheirOwn (stages_of plan) (seats_of plan) number part (seats_by plan (Some h)) (is_of_stratum plan h)
  their_own = record {
    run = part_run;
    seated = λ row l its. seated row (omega (arith, l, length_seats plan drawable)) its;
    others = λ row l other. no_seat row (omega (arith, l, length_seats plan drawable)) other;
  }

  pub alone_part : draws_together plan.procedure.method ≡ false → IsPartOf (tree_so false plan) (BelongsToWhole plan) (sections_by (stages_before_by false (all_of plan)) (section_count_by false (all_of plan))) h (tree_alone false plan h) (own_state false plan h) (is_of_stratum plan h)
  alone_part apart =
      let size : first_number plan (suc h) ≡ number + length part = omega (arith, length-append (stages_below plan h) (stages_in plan number (slice_get plan.strata h)), part_length) in
      is_part tree_of belongs_to (stages_of plan) (seats_of plan) (BelongsToWhole plan) (λ state here. subst (λ b. IsUnderWay tree_of belongs_to (stages_by b (all_of plan)) state) apart here.member) (first_number plan) (length plan.strata) (strata_are plan None) h within
      part (seats_by plan (Some h)) (is_of_stratum plan h) their_own (alone_staged plan drawable h) size

  -- ---- the start

  states_later : (stages : List (Stage Selecting)) → map (λ stage. first_state stage.design.design) (map (stage_later number) stages) ≡ map (λ stage. first_state stage.design.design) stages
  states_later [] = refl
  states_later (stage ∷ stages) = ap (λ (states : List AnyState). first_state stage.design.design ∷ states) (states_later stages)

  pub states_run : run_of number (length part) (states_of plan) ≡ states_of (parts_by plan (Some h))
  states_run =
      ap (take (length part)) (drop-map (λ stage. first_state stage.design.design) number (stages_of plan))
      ∙ take-map (λ stage. first_state stage.design.design) (length part) (drop number (stages_of plan))
      ∙ ap (λ (stages : List (Stage Selecting)). map (λ stage. first_state stage.design.design) stages) part_run
      ∙ states_later part

  module _ (each : EachStarts part (states_of (parts_by plan (Some h)))) where
    abbrev value_of : ℕ → Fraction
    value_of row = seat_value (unit_value tree_of part (states_of (parts_by plan (Some h)))) (slice_get (seats_by plan (Some h)) row)

    values : (row : ℕ) → row < plan.rows → Same (value_of row) (own_fraction false plan h row)
    values row l =
        elim (cases_Bool (is_of_stratum plan h row)) [
          | inl its ↦ rw (its_seat row l its, its) (alone_value_is plan drawable h (states_of (parts_by plan (Some h))) each row l its)
          | inr other ↦ rw (no_seat row l other, other) (same_refl (whole 0))
        ]

    starts_at : StartsInStages tree_of belongs_to part (seats_by plan (Some h)) (states_of (parts_by plan (Some h))) (progress tree_of part (states_of (parts_by plan (Some h)))) → draws_together plan.procedure.method ≡ false → AloneBy false plan h (progress tree_of part (states_of (parts_by plan (Some h))))
    starts_at starts apart = record {
      member = starts.member;
      values = values;
      probability = λ row l. same_trans (starts.probability row (omega (arith, l, length_alone plan drawable h))) (values row l);
      others = λ row l other state. ap (seat_selected (unit_selected tree_of part state.states)) (no_seat row l other);
      part = alone_part apart;
      state = ap (progress tree_of part) (sym states_run);
    }

    pub starts_alone : (start : Progress AnyState) → start ≡ progress tree_of part (states_of (parts_by plan (Some h))) → StartsInStages tree_of belongs_to part (seats_by plan (Some h)) (states_of (parts_by plan (Some h))) start → draws_together plan.procedure.method ≡ false → StartsAlone plan h start
    starts_alone start at starts apart =
        starts_alone_by plan (start_belongs plan drawable) h start
        (subst (λ b. AloneBy b plan h start) (sym apart)
        (subst (AloneBy false plan h) (sym at) (starts_at (subst (StartsInStages tree_of belongs_to part (seats_by plan (Some h)) (states_of (parts_by plan (Some h)))) at starts) apart)))
