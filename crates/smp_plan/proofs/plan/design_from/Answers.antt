use Rattle.std.proofs.Common.{◌≡◌, Err, rules}
use Rattle.smp_cases.specs.Demo.{demo_design_text}
use Rattle.smp_status.specs.Codes.{design_status}
use Rattle.smp_plan.proofs.Inputs.{made_read, made_refused}
use Rattle.smp_plan.proofs.plan.design_from.Goals as goal

pub returns-in_err-design-in-Demo-clause-reads : goal.returns-in_err-design-in-Demo-clause-reads
returns-in_err-design-in-Demo-clause-reads g c =
    let fault = c.in_err-design-in-Demo.field-0.0 in
    let ends : c.from_residual-in_err-design-in-Demo.result ≡ Err (design_status fault) = search (rules, c.from_residual-in_err-design-in-Demo.ensures) in
    rw (c.in-Demo.is, ends) (made_refused (demo_design_text c.in-Demo.n) _ fault (rw (c.as_slice-in-Demo.ensures, c.in_ok-bytes-in-Demo.ensures) at c.in_err-design-in-Demo.ensures.reads))

pub returns-in_ok-design-in-Demo-clause-reads : goal.returns-in_ok-design-in-Demo-clause-reads
returns-in_ok-design-in-Demo-clause-reads g c =
    rw (c.in-Demo.is, c.in_ok-bytes-in-Demo.ensures) (made_read (demo_design_text c.in-Demo.n) _ c.in_ok-design-in-Demo.design (rw (c.as_slice-in-Demo.ensures, c.in_ok-bytes-in-Demo.ensures) at c.in_ok-design-in-Demo.ensures.reads))
