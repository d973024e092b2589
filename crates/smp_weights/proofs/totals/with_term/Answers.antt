use Rattle.std.proofs.Common.{ℤ, ◌∙◌, to_z-of_z}
use Rattle.smp_weights.specs.Chosen.{Chosen}
use Rattle.smp_weights.proofs.{Arithmetic.{sum_is}, Steps.{is_wide, wide_term, sum_is-with_term}}
use Rattle.smp_weights.proofs.totals.with_term.Goals as goal

pub returns-in_err-term : goal.returns-in_err-term
returns-in_err-term c =
    let unit : Chosen ℤ = record { value = c.args.value; asked = c.args.asked } in
    let stopped = rw (to_z-of_z c.ranges.value) at c.in_err-term.ensures in
    rw (is_wide c.from_residual.result c.in_err-term.field-0.0 c.from_residual.ensures.0) (wide_term c.args.total unit _ stopped)

pub returns : goal.returns
returns c =
    let unit : Chosen ℤ = record { value = c.args.value; asked = c.args.asked } in
    let term = rw (to_z-of_z c.ranges.value) at c.in_ok-term.ensures in
    sum_is c.args.total c.in_ok-term.field-0 c.add.result c.add.ensures.value c.add.ensures.fits c.add.ensures.wide ∙ sum_is-with_term c.args.total unit _ term
