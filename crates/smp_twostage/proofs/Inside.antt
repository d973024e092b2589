-- What a selection is made of is what its plan says.
use Rattle.std.proofs.Common.{◌≡◌, ℕ, suc, ◌+◌, ◌<◌, ◌≤◌, Bool, true, false, List, length, map, get_or, Option, Some, None, ap, arith, refl, subst, sym, ◌∙◌}
use Rattle.std.specs.{Prelude.{◌||◌}, List.{range_with_len, slice_get}}
use Rattle.std.proofs.{lemmas.Bool.{and_parts, eqb-true, ltb-true}, lemmas.Option.{slice_get_within, slice_get_read}}
use Rattle.std.proofs.lemmas.List.FromFn.{get_or-map-range_with_len, length-map-range_with_len}
use Rattle.smp_methods.specs.{declared.any.AnyState.{AnyState}, Designs.{left_at}}
use Rattle.smp_split.specs.{declared.places.Place.{Place}, declared.places.Seat.{Seat}, declared.places.Stage.{Stage}}
use Rattle.smp_split.specs.{Stages.{Progress, IsUnderWay, selected_in, staged_tree, units_of}, Laws.Reads.{some_within}}
use Rattle.smp_strata.specs.{declared.strata.Stratum.{Stratum}, Plans.{Plan}}
use Rattle.smp_twostage.specs.{Plans.{CanBeDrawn}, Starts.{left_by}, Laws.Covered.{alone_there, before_within}, Kept.Stages.{first_numbers}}
use Rattle.smp_twostage.specs.{Laws.Numbering.{first_there}, Kept.Sides.{first_place_by, section_count_by, stages_before_by, stages_by}}
use Rattle.smp_twostage.specs.Selections.{Coverage, Selecting, belongs_to, covered_number, covered_parts, covered_seats, covered_stages, covered_tree, covers, first_number, first_place}
use Rattle.smp_twostage.specs.Selections.{count_by, first_stage, is_only, is_together, number_by, parts_by, section_count, stage_of_strata, stages_before, tree_of, units_before}
use Rattle.smp_twostage.proofs.Columns.{is_planned}

module _ (c own : Coverage) (view : own ≡ c) (stages : List (Stage Selecting)) (stages_are : stages ≡ covered_stages own) where
  pub stages_same : stages ≡ covered_stages c
  stages_same = stages_are ∙ ap covered_stages view

  pub member : (state : Progress AnyState) → IsUnderWay tree_of belongs_to (covered_stages c) state → IsUnderWay tree_of belongs_to stages state
  member state here = subst (λ all. IsUnderWay tree_of belongs_to all state) (sym stages_same) here

  pub tree_is : (seats : List Seat) → seats ≡ covered_seats own → staged_tree tree_of stages seats ≡ covered_tree c
  tree_is seats seats_are =
      ap (λ all. staged_tree tree_of all seats) stages_same ∙ ap (staged_tree tree_of (covered_stages c)) (seats_are ∙ ap covered_seats view)

module _ (c : Coverage) (firsts : List ℕ) (are : firsts ≡ first_numbers c) where
  pub length_firsts : length firsts ≡ suc (section_count c)
  length_firsts = ap length are ∙ length-map-range_with_len (stages_before c) 0 (suc (section_count c))

  pub first_at : (h d : ℕ) → h ≤ section_count c → get_or firsts h d ≡ stages_before c h
  first_at h d l = ap (λ ns. get_or ns h d) are ∙ get_or-map-range_with_len (stages_before c) 0 (suc (section_count c)) h h d (omega (arith, l)) (omega arith)

-- the numbers of the first stages of strata that are drawn one by one
module _ (plan : Plan) (firsts : List ℕ) (are : firsts ≡ map (first_number plan) (range_with_len 0 (suc (length plan.strata)))) where
  pub length_numbers : length firsts ≡ suc (length plan.strata)
  length_numbers = ap length are ∙ length-map-range_with_len (first_number plan) 0 (suc (length plan.strata))

  pub number_at : (h d : ℕ) → h ≤ length plan.strata → get_or firsts h d ≡ first_number plan h
  number_at h d l = ap (λ ns. get_or ns h d) are ∙ get_or-map-range_with_len (first_number plan) 0 (suc (length plan.strata)) h h d (omega (arith, l)) (omega arith)

-- ---- a stratum that is covered

pub covered_within : (c : Coverage) (h : ℕ) → covers c h ≡ true → h < length c.plan.strata
covered_within c h covered = ltb-true h (length c.plan.strata) (and_parts _ _ covered).0

there_by : (plan : Plan) (only : Option ℕ) (h : ℕ) → is_only only h ≡ true → (s : Stratum) → slice_get plan.strata h ≡ Some s → slice_get (parts_by plan only).strata (number_by only h) ≡ Some s
there_by plan None h is s there = there
there_by plan (Some only) h is s there = alone_there plan only s (ap (slice_get plan.strata) (sym (eqb-true h only is)) ∙ there)

-- where a unit of it stands: its stage is there, and has the unit
pub record IsPlaced (stages : List (Stage Selecting)) (place : Place) : Type 0 where
  pub stage : Stage Selecting
  pub there : slice_get stages place.stage ≡ Some stage
  pub inside : place.unit < stage.design.units

module _ (c : Coverage) (h : ℕ) (s : Stratum) (is : slice_get c.plan.strata h ≡ Some s) (k : ℕ) (l : k < length s.units) where
  placed_by : (together : Bool) → (together || is_only c.only h) ≡ true → IsPlaced (stages_by together c) (first_place_by together c h k)
  placed_by true covered = record { stage = stage_of_strata c.plan; there = refl; inside = before_within c.plan.strata h k s is l }
  placed_by false covered = record {
    stage = first_stage (covered_parts c) s;
    there = first_there (covered_parts c) (covered_number c h) s (there_by c.plan c.only h covered s is);
    inside = l;
  }

  pub placed : covers c h ≡ true → IsPlaced (covered_stages c) (first_place c h k)
  placed covered = placed_by (is_together c) (and_parts _ _ covered).1

-- the stratum, and a unit of it
pub stratum_there : (c : Coverage) (h : ℕ) → covers c h ≡ true → (s : Stratum) × (slice_get c.plan.strata h ≡ Some s)
stratum_there c h covered = some_within c.plan.strata h (covered_within c h covered)

pub some_unit : (c : Coverage) → CanBeDrawn c.plan → (h : ℕ) (s : Stratum) → slice_get c.plan.strata h ≡ Some s → 0 < length s.units
some_unit c drawable h s is = let some = (is_planned c.plan drawable h s is).stratum.some in omega (arith, some)

-- ---- where a unit stands, as the code finds it

module _ (c own : Coverage) (view : own ≡ c) (h : ℕ) where
  pub own_plan : CanBeDrawn c.plan → CanBeDrawn own.plan
  own_plan drawable = subst (λ (d : Coverage). CanBeDrawn d.plan) (sym view) drawable

  pub own_within : covers c h ≡ true → h < length own.plan.strata
  own_within covered = covered_within own h (subst (λ (d : Coverage). covers d h ≡ true) (sym view) covered)

  pub place_all : is_together own ≡ true → (before unit : ℕ) → before ≡ units_before own.plan.strata h → record { stage = 0; unit = before + unit } ≡ first_place c h unit
  place_all together before unit is =
      ap (λ n. record { stage = 0; unit = n + unit }) is ∙ sym (ap (λ b. first_place_by b own h unit) together) ∙ ap (λ (d : Coverage). first_place d h unit) view

  module _ (apart : is_together own ≡ false) where
    pub place_one : (stage unit : ℕ) → stage ≡ first_number (covered_parts own) (covered_number own h) → record { stage = stage; unit = unit } ≡ first_place c h unit
    place_one stage unit is =
        ap (λ n. record { stage = n; unit = unit }) is ∙ sym (ap (λ b. first_place_by b own h unit) apart) ∙ ap (λ (d : Coverage). first_place d h unit) view

    -- a stratum alone has the first stage
    pub number_alone : (only : ℕ) → own.only ≡ Some only → 0 ≡ first_number (covered_parts own) (covered_number own h)
    number_alone only is = ap (λ o. first_number (parts_by own.plan o) (number_by o h)) (sym is)

    -- and of all the numbers are kept
    module _ (all : own.only ≡ None) (firsts : List ℕ) (are : firsts ≡ first_numbers own) (covered : covers c h ≡ true) where
      count : section_count own ≡ length own.plan.strata
      count = ap (λ b. section_count_by b own) apart ∙ ap (λ o. count_by o (length own.plan.strata)) all

      pub within_firsts : h < length firsts
      within_firsts = omega (arith, own_within covered, count, length_firsts own firsts are)

      pub number_kept : (d : ℕ) → get_or firsts h d ≡ first_number (covered_parts own) (covered_number own h)
      number_kept d =
          first_at own firsts are h d (omega (arith, own_within covered, count)) ∙ ap (λ b. stages_before_by b own h) apart
          ∙ ap (λ o. first_number (covered_parts own) (number_by o h)) (sym all)

-- ---- what the code reads of a stage

module _ (c own : Coverage) (view : own ≡ c) (stages : List (Stage Selecting)) (stages_are : stages ≡ covered_stages own) (place own_place : Place) (place_is : place ≡ own_place) (at : IsPlaced (covered_stages c) own_place) where
  there_now : slice_get stages place.stage ≡ Some at.stage
  there_now =
      ap (λ (all : List (Stage Selecting)). slice_get all place.stage) (stages_same c own view stages stages_are)
      ∙ ap (λ (p : Place). slice_get (covered_stages c) p.stage) place_is ∙ at.there

  pub inside_stages : place.stage < length stages
  inside_stages = slice_get_within stages place.stage at.stage there_now

  pub inside_states : (state : Progress AnyState) → IsUnderWay tree_of belongs_to (covered_stages c) state → place.stage < length state.states
  inside_states state here = omega (arith, inside_stages, (member c own view stages stages_are state here).states.paired)

  pub inside_units : place.unit < units_of tree_of (slice_get stages place.stage)
  inside_units = rw there_now (subst (λ (p : Place). p.unit < at.stage.design.units) (sym place_is) at.inside)

  pub left_is : (left : ℕ) (stage : Stage Selecting) (state : AnyState) (states : List AnyState) → stage ≡ get_or stages place.stage stage → slice_get states place.stage ≡ Some state → left ≡ left_at stage.design.design state
      → left ≡ left_by (slice_get (covered_stages c) own_place.stage) (slice_get states own_place.stage)
  left_is left stage state states is_stage is_state says =
      let there : slice_get stages place.stage ≡ Some stage = slice_get_read stages (length stages) place.stage stage refl inside_stages is_stage in
      let read : left_by (slice_get stages place.stage) (slice_get states place.stage) ≡ left_at stage.design.design state = rw (there, is_state) refl in
      says ∙ sym read
      ∙ ap (λ (all : List (Stage Selecting)). left_by (slice_get all place.stage) (slice_get states place.stage)) (stages_same c own view stages stages_are)
      ∙ ap (λ (p : Place). left_by (slice_get (covered_stages c) p.stage) (slice_get states p.stage)) place_is

  pub first_is : (answer : Bool) (states : List AnyState) → answer ≡ selected_in tree_of stages states place → answer ≡ selected_in tree_of (covered_stages c) states own_place
  first_is answer states says =
      says ∙ ap (λ (all : List (Stage Selecting)). selected_in tree_of all states place) (stages_same c own view stages stages_are)
      ∙ ap (λ (p : Place). selected_in tree_of (covered_stages c) states p) place_is
