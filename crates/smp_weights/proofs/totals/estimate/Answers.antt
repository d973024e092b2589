use Rattle.smp_weights.specs.Chosen.{chosen_units}
use Rattle.smp_weights.proofs.{Arithmetic.{difference_is}, Steps.{is_wide, wide_above, wide_below, estimate_is}, Values.{estimate_value}}
use Rattle.smp_weights.proofs.totals.estimate.Goals as goal

pub returns-in_err-above : goal.returns-in_err-above
returns-in_err-above c =
    let us = chosen_units c.args.values.now c.args.asked.now c.args.chosen.now in
    rw (is_wide c.from_residual.result c.in_err-above.field-0.0 c.from_residual.ensures.0)
    (record { answer = wide_above us _ c.in_err-above.ensures; value = tt })

pub returns-in_err-below : goal.returns-in_err-below
returns-in_err-below c =
    let us = chosen_units c.args.values.now c.args.asked.now c.args.chosen.now in
    rw (is_wide c.from_residual-in_err-below.result c.in_err-below.field-0.0 c.from_residual-in_err-below.ensures.0)
    (record { answer = wide_below us _ _ c.in_ok-above.ensures c.in_err-below.ensures; value = tt })

pub returns : goal.returns
returns c =
    let us = chosen_units c.args.values.now c.args.asked.now c.args.chosen.now in
    let less = difference_is c.in_ok-above.above c.in_ok-below.below c.difference.result c.difference.ensures.value c.difference.ensures.fits c.difference.ensures.wide in
    let answer = estimate_is us _ _ _ c.in_ok-above.ensures c.in_ok-below.ensures less in
    record { answer = answer; value = rw answer (estimate_value us) }
