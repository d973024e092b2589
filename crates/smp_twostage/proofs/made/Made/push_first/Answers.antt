use Rattle.std.proofs.Common.{◌≡◌, ℤ, List, ◌∷◌, [], ◌++◌, None, OnOk, length, ap, subst, ◌∙◌}
use Rattle.smp_design.specs.declared.procedure.Procedure.{Procedure}
use Rattle.smp_methods.specs.{declared.any.AnyDesign.{AnyDesign}, Designs.{design_of}}
use Rattle.smp_methods.proofs.Wholes.{needs_of}
use Rattle.smp_strata.specs.declared.strata.FirstUnit.{FirstUnit}
use Rattle.smp_twostage.specs.Selections.{Selecting, first_stage}
use Rattle.smp_twostage.proofs.Columns.{design_free, takes_free}
use Rattle.smp_twostage.proofs.made.Made.push_first.Goals as goal

pub free_lists-requires : goal.free_lists-requires
free_lists-requires c = c.requires.planned.stratum.over

pub free_lists-requires-2 : goal.free_lists-requires-2
free_lists-requires-2 c = c.requires.planned.stratum.over

pub start_stage-requires-clause-whole : goal.start_stage-requires-clause-whole
start_stage-requires-clause-whole c =
    rw c.procedure-procedure.ensures (needs_of c.args.plan.now.procedure c.args.stratum.now.request c.requires.planned.whole)

pub start_stage-requires-clause-values : goal.start_stage-requires-clause-values
start_stage-requires-clause-values c =
    rw (c.procedure-procedure.ensures, c.as_slice.ensures.value, c.as_slice-2.ensures.value)
    (takes_free c.args.plan.now c.args.stratum.now c.requires.planned c.in_ok-values.values.items c.in_ok-points.points.items
    (rw c.procedure-procedure.ensures at c.in_ok-values.ensures) (rw c.procedure-procedure.ensures at c.in_ok-points.ensures))

pub returns-clause-stages : goal.returns-clause-stages
returns-clause-stages c =
    let plan = c.args.plan.now in
    let s = c.args.stratum.now in
    let values : List (List ℤ) = c.in_ok-values.values.items in
    let points : List (List ℤ) = c.in_ok-points.points.items in
    let same : design_of plan.procedure s.request values points ≡ (first_stage plan s).design.design =
    design_free plan s c.requires.planned values points (rw c.procedure-procedure.ensures at c.in_ok-values.ensures) (rw c.procedure-procedure.ensures at c.in_ok-points.ensures) in
    let made : ◌≡◌ {A = Selecting} c.in_ok-started.started.design (first_stage plan s).design =
    c.in_ok-started.ensures.design
    ∙ ap (λ (us : List FirstUnit). record { units = length us; request = s.request; design = design_of c.procedure-procedure.result s.request c.as_slice.result.now c.as_slice-2.result.now }) c.as_slice-units.ensures
    ∙ ap (λ (p : Procedure). record { units = length s.units; request = s.request; design = design_of p s.request c.as_slice.result.now c.as_slice-2.result.now }) c.procedure-procedure.ensures
    ∙ ap (λ (vs : List (List ℤ)). record { units = length s.units; request = s.request; design = design_of plan.procedure s.request vs c.as_slice-2.result.now }) c.as_slice.ensures.value
    ∙ ap (λ (ps : List (List ℤ)). record { units = length s.units; request = s.request; design = design_of plan.procedure s.request values ps }) c.as_slice-2.ensures.value
    ∙ ap (λ (d : AnyDesign). record { units = length s.units; request = s.request; design = d }) same in
    subst (λ (d : Selecting). OnOk c.push.result (c.push.new.self.stages.items ≡ c.args.self.now.stages.items ++ record { design = d; within = None } ∷ [])) made c.push.ensures.stages
