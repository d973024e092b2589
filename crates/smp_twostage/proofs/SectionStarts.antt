-- Of each section of a plan: where the selection of it alone starts, and that this is a part of the whole selection.
use Rattle.std.proofs.Common.{◌≡◌, ℕ, ◌<◌, Bool, true, false, map, Some, arith, refl, sym, ap, subst}
use Rattle.smp_design.specs.Words.{draws_together}
use Rattle.smp_methods.specs.Designs.{first_state}
use Rattle.smp_split.specs.{Paths.{IsReached}, Sectioning.{IsPartOf}, OwnStages.{sections_by}, Stages.{progress}, Laws.Reads.{some_within}}
use Rattle.smp_strata.specs.Plans.{Plan}
use Rattle.smp_twostage.specs.{Covered.{state_alone}, Plans.{CanBeDrawn}}
use Rattle.smp_twostage.specs.Selections.{BelongsToCovered, BelongsToWhole, all_of, covered_start, covered_tree, is_of_section, one_of, parts_by, section_count, stages_of, start_of, strata_sections, tree_of, whole_tree}
use Rattle.smp_twostage.specs.Kept.Sides.{is_in_section, section_count_by, stages_before_by, stages_by}
use Rattle.smp_twostage.proofs.{Alone.{alone_part, states_run}, AloneBy.{own_state, reached_part, tree_alone}, Together.{together_part}}
use Rattle.smp_twostage.proofs.{Firsts.{covered_belongs, start_belongs}, StartsBy.{states_so, stages_so, tree_so}}

-- what holds of the start of section h alone
pub record IsSectionStart (plan : Plan) (h : ℕ) : Type 0 where
  pub member : BelongsToCovered (one_of plan h) (covered_start (one_of plan h))
  pub part : IsPartOf (whole_tree plan) (IsReached (whole_tree plan) (start_of plan)) (strata_sections (all_of plan)) h (covered_tree (one_of plan h)) (state_alone plan h) (is_of_section plan h)
  pub state : covered_start (one_of plan h) ≡ state_alone plan h (start_of plan)

-- by whether all strata are drawn together
record StartBy (together : Bool) (plan : Plan) (h : ℕ) : Type 0 where
  part : IsPartOf (tree_so together plan) (BelongsToWhole plan) (sections_by (stages_before_by together (all_of plan)) (section_count_by together (all_of plan))) h (tree_alone together plan h) (own_state together plan h) (is_in_section together plan h)
  state : progress tree_of (stages_by together (one_of plan h)) (map (λ stage. first_state stage.design.design) (stages_by together (one_of plan h))) ≡ own_state together plan h (progress tree_of (stages_so together plan) (states_so together plan))

module _ (plan : Plan) (drawable : CanBeDrawn plan) where
  start_by : (together : Bool) → draws_together plan.procedure.method ≡ together → (h : ℕ) → h < section_count_by together (all_of plan) → StartBy together plan h
  start_by true same h within =
      let first : h ≡ 0 = omega (arith, within) in
      subst (StartBy true plan) (sym first) (record { part = together_part plan drawable same; state = refl })
  start_by false apart h within =
      let s = some_within plan.strata h within in
      record {
        part = alone_part plan drawable h s.0 s.1 apart;
        state = ap (progress tree_of (stages_of (parts_by plan (Some h)))) (sym (states_run plan drawable h s.0 s.1));
      }

  pub section_start : (h : ℕ) → h < section_count (all_of plan) → IsSectionStart plan h
  section_start h within =
      let here = start_by (draws_together plan.procedure.method) refl h within in
      record {
        member = covered_belongs plan drawable (Some h);
        part = reached_part plan (start_belongs plan drawable) h here.part;
        state = here.state;
      }
