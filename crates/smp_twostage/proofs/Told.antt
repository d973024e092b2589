-- A first stage unit that is selected can be, and a stratum is one that the cube draws from.
use Rattle.std.proofs.Common.{◌≡◌, ℕ, ◌-◌, ◌^◌, ◌<◌, ◌≤◌, Bool, true, false, true≢false, ℤ, List, [], ◌∷◌, All, length, map, Option, Some, None, refl, sym, ap, ◌∙◌, arith}
use Rattle.std.specs.{Prelude.{◌||◌}, List.{slice_get}}
use Rattle.std.proofs.{lemmas.Bool.{and_parts, eqb-true}, lemmas.List.{length-map}, lemmas.List.Elements.{All-get_or, All-map, All-weaker}}
use Rattle.smp_prob.specs.{declared.inclusions.Inclusion.{Inclusion}, declared.inclusions.Inclusion.TheVariants.{Certain, Free, Never}}
use Rattle.smp_prob.specs.Inclusions.{is_taken, inclusion}
use Rattle.smp_kernel.specs.Vectors.{Within}
use Rattle.smp_flight.specs.Requests.{AreValues}
use Rattle.smp_twostage.specs.{Strata.{AreStratumUnits, column_count}, Totals.{can_be_selected}, Cubes.{balancing}, Kept.Stages.{IsPlanned}}
use Rattle.smp_design.specs.Words.{row, balances}
use Rattle.smp_design.proofs.Rows.{balance_columns}
use Rattle.smp_methods.specs.{declared.any.AnyState.{AnyState}, Methods.{method_of}}
use Rattle.smp_methods.proofs.Columns.{are_values}
use Rattle.smp_split.specs.{declared.places.Stage.{Stage}, declared.places.Place.{Place}}
use Rattle.smp_split.specs.Stages.{is_drawn, read, selected_in, unit_selected}
use Rattle.smp_strata.specs.{Bounds.{IsFirst}, Plans.{Plan}, declared.strata.FirstUnit.{FirstUnit}, declared.strata.Stratum.{Stratum}}
use Rattle.smp_twostage.specs.{Plans.{CanBeDrawn}, Kept.Sides.{first_place_by, stages_by}, Starts.{covered_first}}
use Rattle.smp_twostage.specs.Selections.{Coverage, Selecting, covered_number, covered_parts, covers, first_number, first_stage, is_only, is_together, parts_by, place_together, stage_of_strata, stages_of, tree_of}
use Rattle.smp_twostage.specs.{Laws.Covered.{alone_there}, Laws.Numbering.{first_there}}
use Rattle.smp_twostage.proofs.{Columns.{are_over, is_planned, near_within}, OverAll.{free_before, stands_behind, stands_over}}

-- ---- a first stage unit that is selected can be

taken_open : (chosen : ℕ → Bool) (stands : Inclusion) → is_taken chosen stands ≡ true → can_be_selected stands ≡ true
taken_open chosen Certain taken = refl
taken_open chosen (Free unit) taken = refl
taken_open chosen Never taken = absurd (true≢false (sym taken))

open_at : (stage : Stage Selecting) (unit : ℕ) (state : Option AnyState) → read tree_of false (λ tree s. tree.selected s unit) (Some stage) state ≡ true → can_be_selected (inclusion stage.design.request unit) ≡ true
open_at stage unit (Some state) selected = taken_open ((method_of stage.design.design).tree.selected state) (inclusion stage.design.request unit) selected
open_at stage unit None selected = absurd (true≢false (sym selected))

-- a unit of a stage that is selected there
stage_open : (stages : List (Stage Selecting)) (states : List AnyState) (place : Place) (stage : Stage Selecting) → slice_get stages place.stage ≡ Some stage → selected_in tree_of stages states place ≡ true
    → can_be_selected (inclusion stage.design.request place.unit) ≡ true
stage_open stages states place stage is selected =
    let both = and_parts (is_drawn tree_of stages states place.stage) (unit_selected tree_of stages states place) selected in
    open_at stage place.unit (slice_get states place.stage)
    (ap (λ o. read tree_of false (λ tree t. tree.selected t place.unit) o (slice_get states place.stage)) (sym is) ∙ both.1)

-- ---- the strata that are covered

module _ (plan : Plan) (h : ℕ) (s : Stratum) (is : slice_get plan.strata h ≡ Some s) where
  there_by : (only : Option ℕ) → is_only only h ≡ true → slice_get (parts_by plan only).strata (covered_number (record { plan = plan; only = only }) h) ≡ Some s
  there_by None covered = is
  there_by (Some one) covered =
      let same : h ≡ one = eqb-true h one covered in
      alone_there plan one s (ap (slice_get plan.strata) (sym same) ∙ is)

-- a unit that stands among all can be selected where it can in its stratum
open_behind : (before : ℕ) (stands : Inclusion) → can_be_selected (stands_behind before stands) ≡ true → can_be_selected stands ≡ true
open_behind before Certain can = refl
open_behind before (Free unit) can = refl
open_behind before Never can = can

module _ (c : Coverage) (drawable : CanBeDrawn c.plan) (states : List AnyState) (h : ℕ) (s : Stratum) (is : slice_get c.plan.strata h ≡ Some s) (k : ℕ) (l : k < length s.units) where
  open_by : (together : Bool) → (together || is_only c.only h) ≡ true → selected_in tree_of (stages_by together c) states (first_place_by together c h k) ≡ true → can_be_selected (inclusion s.request k) ≡ true
  open_by true covered selected =
      let can = stage_open (stage_of_strata c.plan ∷ []) states (place_together c.plan.strata h k) (stage_of_strata c.plan) refl selected in
      open_behind (free_before c.plan.strata h) (inclusion s.request k)
      (ap can_be_selected (sym (stands_over c.plan.strata (are_over c.plan drawable) h k s is l)) ∙ can)
  open_by false covered selected =
      stage_open (stages_of (covered_parts c)) states (record { stage = first_number (covered_parts c) (covered_number c h); unit = k }) (first_stage (covered_parts c) s)
      (first_there (covered_parts c) (covered_number c h) s (there_by c.plan h s is c.only covered)) selected

  pub covered_open : covers c h ≡ true → covered_first c states h k ≡ true → can_be_selected (inclusion s.request k) ≡ true
  covered_open covered selected = open_by (is_together c) (and_parts _ _ covered).1 selected

-- ---- the stratum, as the cube draws from it

module _ (plan : Plan) (drawable : CanBeDrawn plan) (balance : balances plan.procedure.method ≡ true) (h : ℕ) (s : Stratum) (is : slice_get plan.strata h ≡ Some s) where
  abbrev own : IsPlanned plan s
  own = is_planned plan drawable h s is

  abbrev balance_count : ℕ
  balance_count = plan.procedure.balance

  -- the columns on which it balances are 1 to 15
  pub balance_few : (1 ≤ balance_count) × (balance_count ≤ 15)
  balance_few = balance_columns (row plan.procedure.method).needs balance_count plan.procedure.near balance drawable.procedure.columns

  abbrev of_unit : FirstUnit → List ℤ
  of_unit u = u.balance

  values_counted : All (λ (v : List ℤ). length v ≡ balance_count) (map of_unit s.units)
  values_counted = All-map (λ (v : List ℤ). length v ≡ balance_count) of_unit s.units own.counted

  -- so many values are balanced of each unit
  pub balanced_count : column_count (balancing s) ≡ balance_count
  balanced_count =
      All-get_or (λ (v : List ℤ). length v ≡ balance_count) (map of_unit s.units) 0 []
      (omega (arith, own.stratum.some, length-map s.units of_unit)) values_counted

  values_are : AreValues (map of_unit s.units)
  values_are =
      are_values balance_count (map of_unit s.units)
      values_counted
      (All-map (Within (2 ^ 31 - 1)) of_unit s.units (All-weaker (IsFirst plan.second) (λ u. Within (2 ^ 31 - 1) u.balance) (λ u first. near_within u.balance first.balance) s.units own.stratum.firsts))
      balance_few.1

  pub is_stratum : AreStratumUnits (balancing s)
  is_stratum = record {
    request = own.stratum.over.sound;
    rising = own.stratum.over.rising;
    inside = λ u l. (let inside = own.stratum.over.free u 0 l in omega (arith, inside, length-map s.units of_unit));
    stands = own.stratum.over.apart;
    values = values_are;
  }
