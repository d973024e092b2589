-- A stratum's part of a path of the whole selection is one of its method's own paths.
use Rattle.std.proofs.Common.{◌≡◌, ℕ, Bool, true, false, List, length, Option, Some, None, arith, refl, sym, ap, subst, ◌∙◌, inl, inr}
use Rattle.std.specs.{Prelude.{◌&&◌, option_map}, List.{slice_get}}
use Rattle.std.proofs.lemmas.Option.{slice_get_within, slice_get-map}
use Rattle.smp_prob.specs.Inclusions.{inclusion, is_taken}
use Rattle.smp_split.specs.{Embeds.{embedded}, Lenses.{as_unit}, Paths.{Entry, Leads}, Trees.{Tree}, Laws.Lenses.{came_whole}}
use Rattle.smp_split.proofs.Embeds.{embedded_lens, embedded_closes}
use Rattle.smp_split.specs.{Rows.{rows_tree}, Laws.Rows.{row_view, rows_lens, rows_close}, StagePaths.{GoesByStages, IsStagePath}}
use Rattle.smp_moves.specs.Cubes.{values_in}
use Rattle.smp_flight.specs.{Selections.{Balancing, starting}, Cube.{cube_of, cube_tree}}
use Rattle.smp_values.specs.Values.{is_one}
use Rattle.smp_localcube.specs.{Local.{Local, local_of, local_tree}, Method.{started}}
use Rattle.smp_design.specs.{declared.method.Method.{Method}, declared.method.Method.TheVariants.{Cube, LocalCube}}
use Rattle.smp_design.specs.Words.{balances, draws_together}
use Rattle.smp_design.proofs.Rows.{is_cube}
use Rattle.smp_methods.specs.{declared.any.AnyDesign.{AnyDesign}, declared.any.AnyState.{AnyState}, Designs.{design_by, first_state}}
use Rattle.smp_methods.specs.declared.any.AnyState.TheVariants as states
use Rattle.smp_methods.specs.Methods.{method_of}
use Rattle.smp_split.specs.{Stages.{drawn_within, is_drawn, read, unit_selected, within_of}, Laws.Reads.{some_within}}
use Rattle.smp_strata.specs.{Plans.{Plan}, declared.strata.Stratum.{Stratum}}
use Rattle.smp_twostage.specs.Cubes.{IsDrawnByCube, IsDrawnFrom, balancing, by_cube, by_local_cube, leaf_of, local_units}
use Rattle.smp_twostage.specs.{Plans.{CanBeDrawn}, Strata.{free_units, free_values}, Kept.Sides.{states_of}, Laws.Numbering.{first_there}}
use Rattle.smp_twostage.specs.Selections.{tree_of, first_number, first_stage, free_points, stages_of}
use Rattle.smp_twostage.proofs.{Columns.{is_planned}, StartsBy.{first_so}}

-- ---- the tree of the first stage, and where it starts

module _ (plan : Plan) (s : Stratum) where
  abbrev design_so : Method → AnyDesign
  design_so m = design_by m plan.procedure s.request (free_values (balancing s)) (free_points s)

  abbrev cube_out : AnyState → Option Balancing
  cube_out = elim [ states.Cube state ↦ Some state | other ↦ None ]

  abbrev local_out : AnyState → Option Local
  local_out = elim [ states.LocalCube state ↦ Some state | other ↦ None ]

  cube_tree_is : plan.procedure.method ≡ Cube → (method_of (design_so plan.procedure.method)).tree ≡ embedded states.Cube cube_out (cube_of (free_units (balancing s))).tree
  cube_tree_is is = ap (λ m. (method_of (design_so m)).tree) is

  cube_start_is : plan.procedure.method ≡ Cube → first_state (design_so plan.procedure.method) ≡ states.Cube (starting (free_units (balancing s)))
  cube_start_is is = ap (λ m. first_state (design_so m)) is

  local_tree_is : plan.procedure.method ≡ LocalCube → (method_of (design_so plan.procedure.method)).tree ≡ embedded states.LocalCube local_out (local_of (free_units (balancing s))).tree
  local_tree_is is = ap (λ m. (method_of (design_so m)).tree) is

  local_start_is : plan.procedure.method ≡ LocalCube → first_state (design_so plan.procedure.method) ≡ states.LocalCube (started (local_units plan s))
  local_start_is is = ap (λ m. first_state (design_so m)) is

-- ---- the part of a path

module _ (plan : Plan) (drawable : CanBeDrawn plan) (path : List Entry) (ends : List AnyState) (goes : GoesByStages tree_of (stages_of plan) (states_of plan) path ends) (h : ℕ) (s : Stratum) (is : slice_get plan.strata h ≡ Some s) where
  abbrev at : ℕ
  at = first_number plan h

  abbrev start_so : AnyState
  start_so = first_state (design_so plan s plan.procedure.method)

  there : slice_get (stages_of plan) at ≡ Some (first_stage plan s)
  there = first_there plan h s is

  begins : slice_get (states_of plan) at ≡ Some start_so
  begins = slice_get-map (λ stage. first_state stage.design.design) (stages_of plan) at ∙ ap (option_map (λ stage. first_state stage.design.design)) there

  abbrev last : (state : AnyState) × (slice_get ends at ≡ Some state)
  last = some_within ends at (let within = slice_get_within (stages_of plan) at (first_stage plan s) there in omega (arith, goes.paired, within))

  own : IsStagePath true (tree_of (first_stage plan s).design) start_so (goes.part at) last.0
  own =
      let is_first : is_drawn tree_of (stages_of plan) ends at ≡ true = rw there refl in
      subst (λ drawn. IsStagePath drawn (tree_of (first_stage plan s).design) start_so (goes.part at) last.0) is_first
      (goes.each at (first_stage plan s) start_so last.0 there begins last.1)

  module _ {State : Type 0} (tree : Tree State) (from : State) (into : State → AnyState) (out : AnyState → Option State) (back : (i : State) → out (into i) ≡ Some i)
      (tree_is : (method_of (design_so plan s plan.procedure.method)).tree ≡ embedded into out tree) (start_is : start_so ≡ into from)
      (closed : (i : State) → (embedded into out tree).done (into i) ≡ tree.done i) (count : tree.units ≡ length s.request.shape) where
    abbrev outer : Tree AnyState
    outer = embedded into out tree

    drawn_from : IsDrawnFrom tree from into (first_number plan h) (goes.part at) ends
    drawn_from =
        let request = (is_planned plan drawable h s is).stratum.over.sound in
        let leads : Leads (rows_tree (length s.units) s.request outer) (into from) (goes.part at) last.0 =
        subst (λ (t : Tree AnyState). Leads (rows_tree (length s.units) s.request t) (into from) (goes.part at) last.0) tree_is
        (subst (λ (start : AnyState). Leads (tree_of (first_stage plan s).design) start (goes.part at) last.0) start_is own.0) in
        let done : outer.done last.0 ≡ true = subst (λ (t : Tree AnyState). (rows_tree (length s.units) s.request t).done last.0 ≡ true) tree_is own.1 in
        let rows = came_whole outer (λ _. Unit {0}) (rows_tree (length s.units) s.request outer) (λ t. t) (λ row. row_view (inclusion s.request row))
        (rows_lens (length s.units) s.request outer (λ _. Unit {0}) (sym request.paired ∙ sym count)) (rows_close (length s.units) s.request outer (λ _. Unit {0}))
        (goes.part at) (into from) last.0 leads in
        let cubes = came_whole tree (λ _. Unit {0}) outer into (λ k. as_unit k)
        (embedded_lens into out tree back (λ _. Unit {0})) (embedded_closes into out tree back (λ _. Unit {0}))
        (goes.part at) from rows.inside rows.leads in
        let same : last.0 ≡ into cubes.inside = rows.is ∙ cubes.is in
        record {
          leaf = cubes.inside;
          leaf_is = last.1 ∙ ap Some same;
          leads = cubes.leads;
          ended = sym (closed cubes.inside) ∙ subst (λ (t : AnyState). outer.done t ≡ true) same done;
        }

  pub drawn_by_cube : balances plan.procedure.method ≡ true → draws_together plan.procedure.method ≡ false → IsDrawnByCube plan h s (goes.part at) ends
  drawn_by_cube balance apart =
      elim (is_cube plan.procedure.method balance apart) [
        | inl m ↦ by_cube m (drawn_from (cube_tree (free_units (balancing s))) (starting (free_units (balancing s))) states.Cube (cube_out plan s) (λ _. refl) (cube_tree_is plan s m) (cube_start_is plan s m) (λ _. refl) refl)
        | inr m ↦ by_local_cube m (drawn_from (local_tree (free_units (balancing s))) (started (local_units plan s)) states.LocalCube (local_out plan s) (λ _. refl) (local_tree_is plan s m) (local_start_is plan s m) (λ _. refl) refl)
      ]

-- ---- which units are selected

module _ (plan : Plan) (ends : List AnyState) (h : ℕ) (s : Stratum) (is : slice_get plan.strata h ≡ Some s) where
  module _ (state : AnyState) (state_is : slice_get ends (first_number plan h) ≡ Some state) where
    abbrev selected_by : Tree AnyState → ℕ → Bool
    selected_by tree k = is_taken (tree.selected state) (inclusion s.request k)

    read_there : (k : ℕ) → unit_selected tree_of (stages_of plan) ends (record { stage = first_number plan h; unit = k }) ≡ selected_by (method_of (design_so plan s plan.procedure.method)).tree k
    read_there k =
        ap (λ o. read tree_of false (λ tree t. tree.selected t k) o (slice_get ends (first_number plan h))) (first_there plan h s is)
        ∙ ap (λ o. read tree_of false (λ tree t. tree.selected t k) (Some (first_stage plan s)) o) state_is

    is_first : is_drawn tree_of (stages_of plan) ends (first_number plan h) ≡ true
    is_first = ap (λ o. drawn_within tree_of (stages_of plan) ends (within_of o)) (first_there plan h s is)

    selected_so : (k : ℕ) → first_so false plan ends h k ≡ selected_by (method_of (design_so plan s plan.procedure.method)).tree k
    selected_so k =
        ap (λ b. b && unit_selected tree_of (stages_of plan) ends (record { stage = first_number plan h; unit = k })) is_first
        ∙ read_there k

  -- those that are certain, and those whose value is 1 at the leaf
  pub cube_selected : (part : List Entry) (drawn : IsDrawnByCube plan h s part ends) (k : ℕ) → first_so false plan ends h k ≡ is_taken (is_one (values_in (leaf_of drawn))) (inclusion s.request k)
  cube_selected part (by_cube m d) k =
      selected_so (states.Cube d.leaf) d.leaf_is k ∙ ap (λ tree. selected_by (states.Cube d.leaf) d.leaf_is tree k) (cube_tree_is plan s m)
  cube_selected part (by_local_cube m d) k =
      selected_so (states.LocalCube d.leaf) d.leaf_is k ∙ ap (λ tree. selected_by (states.LocalCube d.leaf) d.leaf_is tree k) (local_tree_is plan s m)
