use Rattle.std.proofs.Common.{◌≡◌, Err, rules, ◌∙◌}
use Rattle.smp_plan.specs.Inputs.{input_names, plan_stage}
use Rattle.smp_plan.specs.Planned.{plan_view}
use Rattle.smp_plan.proofs.Inputs.{plan_ignores}
use Rattle.smp_plan.proofs.Names.{first_distinct, no_first, no_second}
use Rattle.smp_plan.proofs.Steps.{goes_on, sees_first, sees_second, stops}
use Rattle.smp_app.specs.Commands.{drawn_names}
use Rattle.smp_app.specs.Kept.Stages.{job_view}
use Rattle.smp_app.specs.Verdict.{work_stage}
use Rattle.smp_app.proofs.Stages.{exact_end, plan_refused}
use Rattle.smp_app.proofs.work.outputs_from.Goals as goal

pub plan_from-requires-clause-distinct : goal.plan_from-requires-clause-distinct
plan_from-requires-clause-distinct g c =
    let job = job_view c.args.job.now in
    first_distinct (input_names job.design job.frame) (drawn_names job.work) c.requires.distinct

pub returns-clause-reads : goal.returns-clause-reads
returns-clause-reads g c =
    let job = job_view c.args.job.now in
    goes_on (input_names job.design job.frame) (drawn_names job.work) (plan_stage job.design job.frame) (work_stage job.work) _ _ _ (plan_view c.in_ok-plan.plan) _
    c.in_ok-plan.ensures.reads c.work_outputs.ensures.reads c.requires.distinct (plan_ignores job.design job.frame)

pub returns-in_err-plan-clause-reads : goal.returns-in_err-plan-clause-reads
returns-in_err-plan-clause-reads g c =
    let job = job_view c.args.job.now in
    let error = c.in_err-plan.field-0.0 in
    let ends : c.from_residual.result ≡ Err error = search (rules, c.from_residual.ensures) in
    rw ends (stops (input_names job.design job.frame) (drawn_names job.work) (plan_stage job.design job.frame) (work_stage job.work) _ _ error c.in_err-plan.ensures.reads)

pub returns-clause-exact : goal.returns-clause-exact
returns-clause-exact g c fs held =
    let job = job_view c.args.job.now in
    let reads = c.in_ok-plan.ensures.reads in
    let inputs = input_names job.design job.frame in
    let drawn = drawn_names job.work in
    exact_end job (plan_view c.in_ok-plan.plan) fs c.work_outputs.result (reads.follows fs (sees_first inputs drawn _ fs held))
    (c.work_outputs.ensures.exact fs (sees_second inputs drawn _ _ fs reads.same held))

pub returns-in_err-plan-clause-exact : goal.returns-in_err-plan-clause-exact
returns-in_err-plan-clause-exact g c fs held =
    let job = job_view c.args.job.now in
    let error = c.in_err-plan.field-0.0 in
    let ends : c.from_residual.result ≡ Err error = search (rules, c.from_residual.ensures) in
    rw ends (plan_refused job fs error (c.in_err-plan.ensures.reads.follows fs (sees_first (input_names job.design job.frame) (drawn_names job.work) _ fs held)))

pub returns-clause-idle : goal.returns-clause-idle
returns-clause-idle g c none =
    let job = job_view c.args.job.now in
    let inputs = input_names job.design job.frame in
    let drawn = drawn_names job.work in
    c.work_outputs.ensures.idle (no_second inputs drawn none) ∙ c.in_ok-plan.ensures.idle (no_first inputs drawn none)
