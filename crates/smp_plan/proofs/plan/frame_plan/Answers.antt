use Rattle.std.proofs.Common.{◌≡◌, ◌∙◌, List, ℕ, Ok, Err, false, length, rules, subst, sym}
use Rattle.smp_frame.specs.Frames.{frame_of}
use Rattle.smp_log.specs.Heads.{head_of}
use Rattle.smp_status.specs.Codes.{misfit_status}
use Rattle.smp_plan.specs.{Inputs.{is_large, plan_of}, Planned.{GivesPlan, frame_view, plan_view, read_view}}
use Rattle.smp_plan.proofs.Inputs.{misfit_read, plan_read}
use Rattle.smp_plan.proofs.plan.frame_plan.Goals as goal

pub returns-in_err-plan_for-clause-reads : goal.returns-in_err-plan_for-clause-reads
returns-in_err-plan_for-clause-reads g c =
    let misfit = c.in_err-plan_for.field-0.0 in
    let ends : c.from_residual-in_err-plan_for.result ≡ Err (misfit_status misfit) = search (rules, c.from_residual-in_err-plan_for.ensures) in
    let framed : frame_of c.args.read.design.columns c.in_ok-bytes.bytes ≡ Ok c.in_ok-frame.frame = rw c.as_slice-content.ensures at c.in_ok-frame.ensures.reads in
    let few : is_large (frame_view c.args.source) (length c.in_ok-frame.frame) ≡ false = rw c.units-rows.ensures at (sym c.is_large.ensures ∙ c.if-is_large.false) in
    let head : c.log_head-head.result ≡ head_of c.args.read.bytes c.in_ok-bytes.bytes = rw (c.as_slice.ensures, c.as_slice-content.ensures) at c.log_head-head.ensures in
    rw ends (misfit_read (read_view c.args.read) (frame_view c.args.source) c.in_ok-bytes.bytes c.in_ok-frame.frame _ _ c.in_ok-bytes.ensures.reads framed few misfit
    (subst (λ (h : List ℕ). GivesPlan (Err misfit) (plan_of (record { design = c.args.read.design; units = c.in_ok-frame.frame; head = h }))) head c.in_err-plan_for.ensures.follows))

pub returns-clause-reads : goal.returns-clause-reads
returns-clause-reads g c =
    let framed : frame_of c.args.read.design.columns c.in_ok-bytes.bytes ≡ Ok c.in_ok-frame.frame = rw c.as_slice-content.ensures at c.in_ok-frame.ensures.reads in
    let few : is_large (frame_view c.args.source) (length c.in_ok-frame.frame) ≡ false = rw c.units-rows.ensures at (sym c.is_large.ensures ∙ c.if-is_large.false) in
    let head : c.log_head-head.result ≡ head_of c.args.read.bytes c.in_ok-bytes.bytes = rw (c.as_slice.ensures, c.as_slice-content.ensures) at c.log_head-head.ensures in
    plan_read (read_view c.args.read) (frame_view c.args.source) c.in_ok-bytes.bytes c.in_ok-frame.frame _ _ c.in_ok-bytes.ensures.reads framed few (plan_view c.in_ok-plan_for.field-0)
    (subst (λ (h : List ℕ). plan_of (record { design = c.args.read.design; units = c.in_ok-frame.frame; head = h }) ≡ Ok (plan_view c.in_ok-plan_for.field-0)) head c.in_ok-plan_for.ensures.follows)
