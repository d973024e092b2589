-- What the whole selection starts with, whoever starts it: as a lemma, without a call.
use Rattle.std.proofs.Common.{◌≡◌, Bool, true, false, [], ◌∷◌, refl}
use Rattle.smp_design.specs.Words.{draws_together}
use Rattle.smp_methods.specs.Designs.{first_state}
use Rattle.smp_split.specs.Stages.{progress}
use Rattle.smp_split.proofs.StageStarts.{starts_in_stages}
use Rattle.smp_strata.specs.Plans.{Plan}
use Rattle.smp_twostage.specs.{Plans.{CanBeDrawn}, Kept.Sides.{states_of}, Starts.{StartsWhole}, Laws.Covered.{together_staged}}
use Rattle.smp_twostage.specs.Selections.{belongs_to, seats_of, seats_together, stage_of_strata, stages_of, start_of, tree_of}
use Rattle.smp_twostage.specs.{Laws.Staged.{whole_staged}, Laws.Wholes.{stage_lawful}}
use Rattle.smp_twostage.proofs.{Firsts.{each_starts, together_belongs, together_started}, Starts.{each_belongs, starts_whole}}
use Rattle.smp_twostage.proofs.{StartsBy.{stages_so, states_so}, StartsTogether.{whole_together}}

module _ (plan : Plan) (drawable : CanBeDrawn plan) where
  start_by : (together : Bool) → draws_together plan.procedure.method ≡ together → StartsWhole plan (progress tree_of (stages_so together plan) (states_so together plan))
  start_by true same =
      let states = first_state (stage_of_strata plan).design.design ∷ [] in
      whole_together plan drawable same (together_started plan drawable same)
      (starts_in_stages tree_of belongs_to stage_lawful (stage_of_strata plan ∷ []) (seats_together plan) (together_staged plan drawable) states (together_belongs plan drawable same)
      (progress tree_of (stage_of_strata plan ∷ []) states) refl)
  start_by false apart =
      let each = each_starts plan drawable in
      starts_whole plan drawable (states_of plan) each (progress tree_of (stages_of plan) (states_of plan)) refl
      (starts_in_stages tree_of belongs_to stage_lawful (stages_of plan) (seats_of plan) (whole_staged plan drawable) (states_of plan) (each_belongs (stages_of plan) (states_of plan) each)
      (progress tree_of (stages_of plan) (states_of plan)) refl) apart

  pub whole_starts : StartsWhole plan (start_of plan)
  whole_starts = start_by (draws_together plan.procedure.method) refl
