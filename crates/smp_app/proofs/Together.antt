-- What the report tells of all strata that are drawn together: each first stage unit is a row of the frame.
use Rattle.std.proofs.Common.{◌≡◌, ℕ, zero, suc, ◌+◌, ◌-◌, ◌<◌, Bool, true, List, [], ◌∷◌, length, map, get_or, Option, Some, None, All, arith, refl, sym, ap, ap₂, subst, ◌∙◌}
use Rattle.std.specs.{Prelude.{option_map, option_and_then, unwrap_or}, List.{range_with_len, slice_get}}
use Rattle.std.proofs.{lemmas.List.{get_or-map, length-map}, lemmas.Simd.{map-map}, lemmas.List.Elements.{All-filter, All-get_or, All-map}}
use Rattle.std.proofs.lemmas.Option.{get_or_from_slice_get, slice_get_within}
use Rattle.smp_frac.specs.LowestTerms.{lowest_terms}
use Rattle.smp_prob.specs.{Requests.{IsRequest}, Inclusions.{asked_fraction, inclusion, is_taken}}
use Rattle.smp_moves.specs.Cubes.{values_in}
use Rattle.smp_stratcube.specs.{States.{Balancing}, Values.{is_one}}
use Rattle.smp_twostage.specs.{Strata.{StratumUnits, values_of}, Cubes.{IsDrawnTogether, balancing, frame_of}, Plans.{CanBeDrawn}}
use Rattle.smp_twostage.specs.DrawnLines as balance
use Rattle.smp_twostage.specs.Reports.{AreUnitRows, TellsColumn, TellsRows, UnitRows, free_before as units_before, no_stratum, stratum_at}
use Rattle.smp_twostage.proofs.{RowReports.{each_row_tells}, Columns.{is_planned}, DrawnTogether.{selected_at}, OverAll.{free_before}}
use Rattle.smp_design.specs.{Words.{draws_together}, declared.design.Design.{Design}, declared.design.Second.{Second}}
use Rattle.smp_methods.specs.declared.any.AnyState.{AnyState}
use Rattle.smp_methods.specs.declared.any.AnyState.TheVariants as states
use Rattle.smp_split.specs.{Laws.Reads.{some_within}, Paths.{Entry}}
use Rattle.smp_frame.specs.declared.frame.Unit as frame
use Rattle.smp_strata.specs.{Clusters.{clusters, clusters_in, strata_numbers}, Plans.{Plan, first_of, stratum_of}, Rows.{rows_of}}
use Rattle.smp_strata.proofs.Ranges.{map_range_ext}
use Rattle.smp_strata.specs.{Seats.{IsSeat, first_at, first_fraction, unit_fraction}, declared.strata.FirstUnit.{FirstUnit}}
use Rattle.smp_strata.specs.{declared.strata.Seat.{Seat}, declared.strata.Stratum.{Stratum}}
use Rattle.smp_twostage.specs.{Lines.{seat_values, told, told_seats}, Selections.{all_of, place_of, units_at}, Starts.{covered_first}}
use Rattle.smp_twostage.specs.{Laws.Places.{StandsIn, place_is_seat}, Laws.Staged.{place_stands}}
use Rattle.smp_twostage.proofs.StartsBy.{first_so}
use Rattle.smp_plan.specs.Plans.{Survey, survey_plan}

-- ---- the rows of a plan in one stage

abbrev pub HasLoneRows : List Stratum → Type 0
HasLoneRows strata = All (λ (s : Stratum). All (λ (u : FirstUnit). length u.rows ≡ 1) s.units) strata

module _ (plan : Plan) (drawable : CanBeDrawn plan) (together : draws_together plan.procedure.method ≡ true) (lone : HasLoneRows plan.strata) where
  abbrev rows : List ℕ
  rows = range_with_len 0 plan.rows

  abbrev first : ℕ → ℕ
  first row = (place_of plan.strata row).stratum

  abbrev second : ℕ → ℕ
  second row = (place_of plan.strata row).unit

  abbrev width : ℕ → ℕ
  width h = length (units_at (slice_get plan.strata h))

  abbrev row_in : Option FirstUnit → ℕ
  row_in None = 0
  row_in (Some u) = get_or u.rows 0 0

  abbrev row_of : ℕ → ℕ → ℕ
  row_of h k = row_in (first_at plan.strata h k)

  module _ (h k : ℕ) (s : Stratum) (u : FirstUnit) (is_s : slice_get plan.strata h ≡ Some s) (is_u : slice_get s.units k ≡ Some u) where
    unit_is : first_at plan.strata h k ≡ Some u
    unit_is = ap (option_and_then (λ (t : Stratum). slice_get t.units k)) is_s ∙ is_u

    lone_row : length u.rows ≡ 1
    lone_row =
        let own : All (λ (v : FirstUnit). length v.rows ≡ 1) s.units =
        subst (λ (t : Stratum). All (λ (v : FirstUnit). length v.rows ≡ 1) t.units) (get_or_from_slice_get plan.strata h s s is_s)
        (All-get_or (λ (t : Stratum). All (λ (v : FirstUnit). length v.rows ≡ 1) t.units) plan.strata h s (slice_get_within plan.strata h s is_s) lone) in
        subst (λ (v : FirstUnit). length v.rows ≡ 1) (get_or_from_slice_get s.units k u u is_u)
        (All-get_or (λ (v : FirstUnit). length v.rows ≡ 1) s.units k u (slice_get_within s.units k u is_u) own)

    -- its row stands there
    row_stands : (row_of h k < plan.rows) × (first (row_of h k) ≡ h) × (second (row_of h k) ≡ k)
    row_stands =
        let own = some_within u.rows 0 (omega (arith, lone_row)) in
        let row : ℕ = own.0 in
        let seat : Seat = record { stratum = h; unit = k; place = 0 } in
        let seated : IsSeat plan.strata row seat = record { there = ap (option_and_then (λ (v : FirstUnit). slice_get v.rows 0)) unit_is ∙ own.1 } in
        let same : place_of plan.strata row ≡ seat = drawable.sound.seated.once row (place_of plan.strata row) seat (place_is_seat plan.strata row seat seated) seated in
        let is : row_of h k ≡ row = ap row_in unit_is ∙ get_or_from_slice_get u.rows 0 row 0 own.1 in
        rw is (drawable.sound.seated.below row seat seated, ap (λ (t : Seat). t.stratum) same, ap (λ (t : Seat). t.unit) same)

  within : (row : ℕ) → row < plan.rows → (first row < length plan.strata) × (second row < width (first row))
  within row l =
      let here = place_stands plan drawable row l in
      (slice_get_within plan.strata (first row) here.stratum here.is_stratum, subst (λ (o : Option Stratum). second row < length (units_at o)) (sym here.is_stratum) (slice_get_within here.stratum.units (second row) here.unit here.is_unit))

  stands : (h k : ℕ) → h < length plan.strata → k < width h → (row_of h k < plan.rows) × (first (row_of h k) ≡ h) × (second (row_of h k) ≡ k)
  stands h k l m =
      let s = some_within plan.strata h l in
      let u = some_within s.0.units k (rw s.1 at m) in
      row_stands h k s.0 u.0 s.1 u.1

  back : (row : ℕ) → row < plan.rows → row_of (first row) (second row) ≡ row
  back row l =
      let here = place_stands plan drawable row l in
      let place : ℕ = (place_of plan.strata row).place in
      let first_place : place ≡ 0 = omega (arith, slice_get_within here.unit.rows place row here.is_row, lone_row (first row) (second row) here.stratum here.unit here.is_stratum here.is_unit) in
      ap row_in (unit_is (first row) (second row) here.stratum here.unit here.is_stratum here.is_unit)
      ∙ get_or_from_slice_get here.unit.rows 0 row 0 (subst (λ n. slice_get here.unit.rows n ≡ Some row) first_place here.is_row)

  -- ---- they are the units of the plan's strata

  stratum_is : (h : ℕ) (s : Stratum) → slice_get plan.strata h ≡ Some s → stratum_at (frame_of plan) h ≡ balancing s
  stratum_is h s is =
      get_or-map balancing plan.strata h s no_stratum (slice_get_within plan.strata h s is)
      ∙ ap balancing (get_or_from_slice_get plan.strata h s s is)

  strata_long : length (frame_of plan) ≡ length plan.strata
  strata_long = length-map plan.strata balancing

  width_is : (h : ℕ) → h < length plan.strata → width h ≡ length (stratum_at (frame_of plan) h).values
  width_is h l =
      let s = some_within plan.strata h l in
      let units : length (balancing s.0).values ≡ length s.0.units = length-map s.0.units (λ u. u.balance) in
      ap (λ (o : Option Stratum). length (units_at o)) s.1
      ∙ sym (ap (λ (t : StratumUnits). length t.values) (stratum_is h s.0 s.1) ∙ units)

  there : (h u : ℕ) → h < length (frame_of plan) → u < length (stratum_at (frame_of plan) h).values
      → (row_of h u < plan.rows) × (first (row_of h u) ≡ h) × (second (row_of h u) ≡ u)
  there h u l m =
      let inside : h < length plan.strata = omega (arith, l, strata_long) in
      stands h u inside (subst (λ (n : ℕ). u < n) (sym (width_is h inside)) m)

  abbrev unit_rows : UnitRows
  unit_rows = record { count = plan.rows; stratum = first; unit = second; row = row_of }

  are_rows : AreUnitRows (frame_of plan) unit_rows
  are_rows = record {
    stratum = λ k l. omega (arith, (within k l).0, strata_long);
    unit = λ k l. subst (λ (n : ℕ). second k < n) (width_is (first k) (within k l).0) (within k l).1;
    back = back;
    row = λ h u l m. (there h u l m).0;
    row_stratum = λ h u l m. (there h u l m).1;
    row_unit = λ h u l m. (there h u l m).2;
  }

  requests : All (λ (s : StratumUnits). IsRequest s.request) (frame_of plan)
  requests =
      All-map (λ (s : StratumUnits). IsRequest s.request) balancing plan.strata
      (λ k d l.
      let s = some_within plan.strata k l in
      subst (λ (t : Stratum). IsRequest t.request) (sym (get_or_from_slice_get plan.strata k s.0 d s.1))
      (is_planned plan drawable k s.0 s.1).stratum.over.sound)

  before_is : (strata : List Stratum) (h : ℕ) → units_before (map balancing strata) h ≡ free_before strata h
  before_is [] h = refl
  before_is (s ∷ strata) zero = refl
  before_is (s ∷ strata) (suc h) = ap (λ (n : ℕ). length s.request.free + n) (before_is strata h)

  -- ---- what the report tells of a row is what its unit has

  module _ (k : ℕ) (l : k < plan.rows) where
    abbrev here : StandsIn plan.strata k (place_of plan.strata k)
    here = place_stands plan drawable k l

    abbrev own_is : stratum_at (frame_of plan) (first k) ≡ balancing here.stratum
    own_is = stratum_is (first k) here.stratum here.is_stratum

    value_so : seat_values plan (place_of plan.strata k) ≡ values_of (stratum_at (frame_of plan) (first k)) (second k)
    value_so =
        ap (λ (o : Option Stratum). unwrap_or (option_map (λ (s : Stratum). values_of (balancing s) (second k)) o) []) here.is_stratum
        ∙ sym (ap (λ (t : StratumUnits). values_of t (second k)) own_is)

    asked_so : lowest_terms (first_fraction plan.strata (first k) (second k)) ≡ lowest_terms (asked_fraction (stratum_at (frame_of plan) (first k)).request (second k))
    asked_so =
        ap (λ (o : Option Stratum). lowest_terms (unit_fraction o (second k))) here.is_stratum
        ∙ sym (ap (λ (t : StratumUnits). lowest_terms (asked_fraction t.request (second k))) own_is)

  module _ (ends : List AnyState) (leaf : Balancing) (leaf_is : slice_get ends 0 ≡ Some (states.StratifiedCube leaf)) where
    abbrev drawn : balance.Drawn
    drawn = told (all_of plan) ends 0

    chosen_so : (k : ℕ) → k < plan.rows
        → covered_first (all_of plan) ends (first k) (second k)
        ≡ is_taken (λ u. is_one (values_in leaf) (units_before (frame_of plan) (first k) + u)) (inclusion (stratum_at (frame_of plan) (first k)).request (second k))
    chosen_so k l =
        let at = here k l in
        ap (λ (b : Bool). first_so b plan ends (first k) (second k)) together
        ∙ selected_at plan drawable ends leaf leaf_is (first k) at.stratum at.is_stratum (second k) (slice_get_within at.stratum.units (second k) at.unit at.is_unit)
        ∙ sym (ap₂ (λ (n : ℕ) (t : StratumUnits). is_taken (λ u. is_one (values_in leaf) (n + u)) (inclusion t.request (second k))) (before_is plan.strata (first k)) (own_is k l))

    seats : told_seats (all_of plan) 0 ≡ map (place_of plan.strata) rows
    seats = rw together refl

    over_seats : {A : Type 0} (says : Seat → A) → map says (told_seats (all_of plan) 0) ≡ map (λ row. says (place_of plan.strata row)) rows
    over_seats says = ap (map says) seats ∙ map-map says (place_of plan.strata) rows

    same_rows : {A : Type 0} (f g : ℕ → A) → ((k : ℕ) → k < plan.rows → f k ≡ g k) → map f rows ≡ map g rows
    same_rows f g each = map_range_ext f g 0 plan.rows (λ k _ l. each k (omega (arith, l)))

    tells : TellsRows (frame_of plan) unit_rows (is_one (values_in leaf)) drawn
    tells = record {
      values = over_seats (seat_values plan) ∙ same_rows _ _ value_so;
      asked = over_seats (λ p. lowest_terms (first_fraction plan.strata p.stratum p.unit)) ∙ same_rows _ _ asked_so;
      chosen = over_seats (λ p. covered_first (all_of plan) ends p.stratum p.unit) ∙ same_rows _ _ chosen_so;
    }

    pub tells_variable : (column : ℕ) → TellsColumn drawn (frame_of plan) (is_one (values_in leaf)) column
    tells_variable column = each_row_tells (frame_of plan) requests unit_rows are_rows (is_one (values_in leaf)) drawn tells column

-- ---- in one stage each first stage unit of a frame is a row

module _ (design : Design) (units : List frame.Unit) where
  lone_clusters : (second : Option Second) → option_map (λ (s : Second). s.method) second ≡ None → All (λ (rows : List ℕ). length rows ≡ 1) (clusters second units)
  lone_clusters None one = All-map (λ (rows : List ℕ). length rows ≡ 1) (λ (row : ℕ). row ∷ []) (rows_of units) (λ k d l. refl)
  lone_clusters (Some second) one = absurd (cc)

  lone_in : option_map (λ (s : Second). s.method) design.second ≡ None → (number : ℕ) → All (λ (u : FirstUnit). length u.rows ≡ 1) (stratum_of design units number).units
  lone_in one number =
      All-map (λ (u : FirstUnit). length u.rows ≡ 1) (first_of design units) (clusters_in design units number)
      (All-filter _ (λ (rows : List ℕ). length rows ≡ 1) (clusters design.second units) (lone_clusters design.second one))

pub lone_rows : (plan : Survey) → (survey_plan plan).second ≡ None → HasLoneRows (survey_plan plan).strata
lone_rows plan one =
    All-map (λ (s : Stratum). All (λ (u : FirstUnit). length u.rows ≡ 1) s.units) (stratum_of plan.design plan.units) (strata_numbers plan.units) (λ k d l. lone_in plan.design plan.units one (get_or (strata_numbers plan.units) k d))

-- what is told of a draw of all strata together
pub tells_together : (plan : Survey) → CanBeDrawn (survey_plan plan) → draws_together plan.design.procedure.method ≡ true → (part : List Entry) (ends : List AnyState) (drawn : IsDrawnTogether (survey_plan plan) part ends)
    → (column : ℕ) → TellsColumn (told (all_of (survey_plan plan)) ends 0) (frame_of (survey_plan plan)) (is_one (values_in drawn.leaf)) column
tells_together plan drawable together part ends drawn column =
    tells_variable (survey_plan plan) drawable together (lone_rows plan (drawable.together together).one_stage) ends drawn.leaf drawn.leaf_is column
