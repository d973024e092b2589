-- What the cube draws of the strata of a plan, and what the report tells of it.
use Rattle.std.proofs.Common.{◌≡◌, ℕ, Bool, true, false, List, [], ◌∷◌, length, map, Option, Some, None, refl, sym, ap, subst, ◌∙◌}
use Rattle.std.specs.{Prelude.{option_map, unwrap_or}, List.{range_with_len, slice_get}}
use Rattle.std.proofs.{Math.Path.{fun_ext}, lemmas.List.{length-map}, lemmas.List.FromFn.{fill_by_all}, lemmas.Simd.{map-map}}
use Rattle.smp_split.specs.{Paths.{Entry}, declared.places.Stage.{Stage}, StagePaths.{GoesByStages}, Stages.{Progress}}
use Rattle.smp_moves.specs.Cubes.{left_in, values_in}
use Rattle.smp_values.specs.Values.{is_one}
use Rattle.smp_prob.specs.Inclusions.{asked_fraction, inclusion, is_taken}
use Rattle.smp_frac.specs.LowestTerms.{lowest_terms}
use Rattle.smp_twostage.specs.{Strata.{AreStratumUnits, free_values, values_of}, Reports.{TellsOf}, Totals.{IsBalancedFrame}}
use Rattle.smp_twostage.proofs.{Balances.{each_is_balanced}, Reports.{each_line_tells}, Cubes.{cube_selected}, StartsBy.{first_so}}
use Rattle.smp_design.specs.Words.{balances, draws_together}
use Rattle.smp_methods.specs.{declared.any.AnyState.{AnyState}, Designs.{design_by, left_at}}
use Rattle.smp_methods.specs.declared.any.AnyState.TheVariants as states
use Rattle.smp_strata.specs.{Plans.{Plan}, declared.strata.Stratum.{Stratum}, Seats.{first_fraction, unit_fraction}}
use Rattle.smp_twostage.specs.{Covered.{covered_left}, Laws.Numbering.{first_there}, Lines.{seat_values, told, told_seats}}
use Rattle.smp_twostage.specs.Cubes.{IsDrawnByCube, IsDrawnTogether, balancing, by_cube, by_local_cube, frame_of, leaf_of}
use Rattle.smp_twostage.specs.Selections.{Selecting, all_of, covered_stages, covered_states, first_number, first_stage, free_points, place_together, stage_of_strata, stages_of, tree_of as stage_tree, units_at}
use Rattle.smp_strata.specs.declared.strata.Seat.{Seat}
use Rattle.smp_twostage.specs.{Plans.{CanBeDrawn}, Starts.{StartsWhole, covered_first, left_by}}
use Rattle.smp_twostage.proofs.Told.{is_stratum as cube_stratum}
use Rattle.smp_plan.specs.{declared.plan.FramePlan.{FramePlan}, Plans.{Survey, survey_plan}, Planned.{IsPlanned, plan_view}}
use Rattle.smp_app.specs.{Drawn.{Drawn, covered}, Draws.{IsDrawnBy, KeepsBalance}, Reports.{TellsBalance, TellsSection}}
use Rattle.smp_app.proofs.Together.{tells_together}

-- ---- the strata of a plan

map_same : {A : Type 0} (f g : ℕ → A) (xs : List ℕ) → ((k : ℕ) → f k ≡ g k) → map f xs ≡ map g xs
map_same f g xs same = ap (λ h. map h xs) (fun_ext same)

module _ (plan : Survey) (drawable : CanBeDrawn (survey_plan plan)) (balance : balances plan.design.procedure.method ≡ true) (apart : draws_together plan.design.procedure.method ≡ false) (h : ℕ) (s : Stratum) (is : slice_get (survey_plan plan).strata h ≡ Some s) where
  abbrev all : Plan
  all = survey_plan plan

  -- the stratum, as the cube draws from it
  pub is_stratum : AreStratumUnits (balancing s)
  is_stratum = cube_stratum all drawable balance h s is

  -- ---- what was drawn of it

  module _ (path part : List Entry) (to : Progress AnyState) (drawn : IsDrawnByCube all h s part to.states) where
    abbrev here : Drawn
    here = record { plan = plan; only = None; leaf = to; path = path }

    abbrev units : List ℕ
    units = range_with_len 0 (length s.units)

    abbrev seat : ℕ → Seat
    seat k = record { stratum = h; unit = k; place = 0 }

    seats : told_seats (covered here) h ≡ map seat units
    seats =
        let alone : told_seats (covered here) h ≡ map seat (range_with_len 0 (length (units_at (slice_get all.strata h)))) = rw apart refl in
        alone ∙ ap (λ (o : Option Stratum). map seat (range_with_len 0 (length (units_at o)))) is

    over_units : {A : Type 0} (says : Seat → A) → map says (told_seats (covered here) h) ≡ map (λ k. says (seat k)) units
    over_units says = ap (map says) seats ∙ map-map says seat units

    long : length (balancing s).values ≡ length s.units
    long = length-map s.units (λ u. u.balance)

    tells_of : TellsOf (balancing s) (is_one (values_in (leaf_of drawn))) (told (covered here) to.states h)
    tells_of = record {
      values =
          over_units (seat_values all)
          ∙ ap (λ (o : Option Stratum). map (λ k. unwrap_or (option_map (λ (t : Stratum). values_of (balancing t) k) o) []) units) is
          ∙ sym (fill_by_all (values_of (balancing s)) (balancing s).values (length s.units) [] long (λ k l. refl));
      asked =
          over_units (λ p. lowest_terms (first_fraction all.strata p.stratum p.unit))
          ∙ ap (λ (o : Option Stratum). map (λ k. lowest_terms (unit_fraction o k)) units) is
          ∙ ap (λ n. map (λ k. lowest_terms (asked_fraction s.request k)) (range_with_len 0 n)) (sym long);
      chosen =
          over_units (λ p. covered_first (covered here) to.states p.stratum p.unit)
          ∙ map_same (λ k. covered_first (covered here) to.states h k) (λ k. is_taken (is_one (values_in (leaf_of drawn))) (inclusion s.request k)) units
          (λ k. ap (λ (b : Bool). first_so b all to.states h k) apart ∙ cube_selected all to.states h s is part drawn k)
          ∙ ap (λ n. map (λ k. is_taken (is_one (values_in (leaf_of drawn))) (inclusion s.request k)) (range_with_len 0 n)) (sym long);
    }

    -- how many units were fractional where its landing began
    left_by_cube : (d : IsDrawnByCube all h s part to.states) → left_by (Some (first_stage all s)) (slice_get to.states (first_number all h)) ≡ left_in (leaf_of d)
    left_by_cube (by_cube m d) =
        ap (left_by (Some (first_stage all s))) d.leaf_is
        ∙ ap (λ m. left_at (design_by m all.procedure s.request (free_values (balancing s)) (free_points s)) (states.Cube d.leaf)) m
    left_by_cube (by_local_cube m d) =
        ap (left_by (Some (first_stage all s))) d.leaf_is
        ∙ ap (λ m. left_at (design_by m all.procedure s.request (free_values (balancing s)) (free_points s)) (states.LocalCube d.leaf)) m

    left_is : (told (covered here) to.states h).left ≡ left_in (leaf_of drawn)
    left_is =
        let one : covered_left (covered here) to.states h ≡ left_by (slice_get (stages_of all) (first_number all h)) (slice_get to.states (first_number all h)) = rw apart refl in
        one
        ∙ ap (λ (o : Option (Stage Selecting)). left_by o (slice_get to.states (first_number all h))) (first_there all h s is)
        ∙ left_by_cube drawn

    pub tells : TellsSection (told (covered here) to.states h) (balancing s ∷ []) (is_one (values_in (leaf_of drawn))) (left_in (leaf_of drawn))
    tells = record {
      columns = each_line_tells (balancing s) is_stratum (is_one (values_in (leaf_of drawn))) (told (covered here) to.states h) tells_of;
      left = left_is;
    }

left_together : (plan : Plan) → draws_together plan.procedure.method ≡ true → (part : List Entry) (ends : List AnyState) (drawn : IsDrawnTogether plan part ends)
    → (told (all_of plan) ends 0).left ≡ left_in drawn.leaf
left_together plan together part ends drawn =
    let one : covered_left (all_of plan) ends 0 ≡ left_by (slice_get (stage_of_strata plan ∷ []) (place_together plan.strata 0 0).stage) (slice_get ends 0) = rw together refl in
    one ∙ ap (left_by (Some (stage_of_strata plan))) drawn.leaf_is

-- ---- the balance of what is drawn

module _ (plan : FramePlan) (planned : IsPlanned plan) (path : List Entry) (to : Progress AnyState) where
  abbrev pub Goes : Plan → Type 0
  Goes p = GoesByStages stage_tree (covered_stages (all_of p)) (covered_states (all_of p)) path to.states

  -- what the start says of the path and of the leaf
  record Has (p : Plan) : Type 0 where
    goes : Goes p
    cubes : balances p.procedure.method ≡ true → draws_together p.procedure.method ≡ false → (h : ℕ) (s : Stratum) → slice_get p.strata h ≡ Some s → IsDrawnByCube p h s (goes.part (first_number p h)) to.states
    together : draws_together p.procedure.method ≡ true → IsDrawnTogether p (goes.part 0) to.states
    balanced : draws_together p.procedure.method ≡ true → IsBalancedFrame (frame_of p)

  pub keeps_balance : (goes : Goes plan.plan) (start : Progress AnyState) → StartsWhole plan.plan start → KeepsBalance (record { plan = plan_view plan; only = None; leaf = to; path = path })
  keeps_balance goes start starts =
      let has : Has (survey_plan (plan_view plan)) = subst Has planned.parts_are (record {
        goes = goes;
        cubes = λ balance apart h s is. starts.cubes balance apart path to.states goes h s is;
        together = λ all. starts.together all path to.states goes;
        balanced = starts.balanced;
      }) in
      record {
        goes = has.goes;
        cubes = λ balance apart h s is.
            (let drawn_so = has.cubes balance apart h s is in
            record {
              drawn_so = drawn_so;
              balanced = each_is_balanced (balancing s) (is_stratum (plan_view plan) (subst CanBeDrawn planned.parts_are planned.drawable) balance apart h s is);
            });
        together = λ all.
            (let drawn_so = has.together all in
            record {
              drawn_so = drawn_so;
              balanced = has.balanced all;
            });
      }

-- ---- what the report tells of it

module _ (plan : Survey) (drawable : CanBeDrawn (survey_plan plan)) (leaf : Progress AnyState) (path : List Entry) where
  abbrev drawn_of : Option ℕ → Drawn
  drawn_of only = record { plan = plan; only = only; leaf = leaf; path = path }

  tells_all : (kept : KeepsBalance (drawn_of None)) → TellsBalance (drawn_of None) kept
  tells_all kept = record {
    cubes = λ balance apart h s is.
        tells plan drawable balance apart h s is path (kept.goes.part (first_number (survey_plan plan) h)) leaf (kept.cubes balance apart h s is).drawn_so;
    together = λ all.
        (let drawn_so = (kept.together all).drawn_so in
        record {
          columns = tells_together plan drawable all (kept.goes.part 0) leaf.states drawn_so;
          left = left_together (survey_plan plan) all (kept.goes.part 0) leaf.states drawn_so;
        });
  }

  tells_by : (only : Option ℕ) → only ≡ None → (kept : KeepsBalance (drawn_of only)) → TellsBalance (drawn_of only) kept
  tells_by only is = subst (λ (o : Option ℕ). (kept : KeepsBalance (drawn_of o)) → TellsBalance (drawn_of o) kept) (sym is) tells_all

pub tells_balance : (drawn : Drawn) → CanBeDrawn (survey_plan drawn.plan) → (by : IsDrawnBy drawn) → TellsBalance drawn by.balance
tells_balance drawn drawable by = tells_by drawn.plan drawable drawn.leaf drawn.path drawn.only by.all by.balance
