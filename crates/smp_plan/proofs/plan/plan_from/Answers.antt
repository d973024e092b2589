use Rattle.std.proofs.Common.{◌≡◌, ◌∙◌, Err, rules}
use Rattle.smp_plan.specs.{Inputs.{design_names, design_stage, frame_names, frame_stage}, Planned.{frame_view, read_view, source_view}}
use Rattle.smp_plan.proofs.{Inputs.{design_ignores}, Names.{no_first, no_second}, Steps.{goes_on, stops}}
use Rattle.smp_plan.proofs.plan.plan_from.Goals as goal

pub returns-clause-reads : goal.returns-clause-reads
returns-clause-reads g c =
    let design = source_view c.args.design.now in
    goes_on (design_names design) _ _ _ _ _ _ (read_view c.in_ok-read.read) _ c.in_ok-read.ensures.reads c.frame_plan.ensures.reads
    c.requires.distinct (design_ignores design)

pub returns-clause-idle : goal.returns-clause-idle
returns-clause-idle g c none =
    let design = design_names (source_view c.args.design.now) in
    let frame = frame_names (frame_view c.args.frame) in
    c.frame_plan.ensures.idle (no_second design frame none) ∙ c.in_ok-read.ensures.idle (no_first design frame none)

pub returns-in_err-read-clause-reads : goal.returns-in_err-read-clause-reads
returns-in_err-read-clause-reads g c =
    let design = source_view c.args.design.now in
    let frame = frame_view c.args.frame in
    let error = c.in_err-read.field-0.0 in
    let ends : c.from_residual.result ≡ Err error = search (rules, c.from_residual.ensures) in
    rw ends (stops (design_names design) (frame_names frame) (design_stage design) (λ read. frame_stage read frame) _ _ error c.in_err-read.ensures.reads)
