use Rattle.std.proofs.Common.{◌≡◌, List, get_or, ap, sym, ◌∙◌}
use Rattle.smp_strata.specs.declared.strata.FirstUnit.{FirstUnit}
use Rattle.smp_twostage.proofs.SeatsTold.{value_is}
use Rattle.smp_twostage.proofs.lines.values_at.Goals as goal

pub returns : goal.returns
returns c =
    let seat = c.args.seat in
    let own = c.stratum-stratum.result.now in
    let unit : FirstUnit = c.index-as_slice-seat.result in
    let there : unit ≡ get_or own.units seat.unit unit =
    c.index-as_slice-seat.is ∙ ap (λ (units : List FirstUnit). get_or units seat.unit unit) c.as_slice.ensures in
    c.as_slice-2.ensures ∙ ap (λ (u : FirstUnit). u.balance) (sym c.index-as_slice-seat.is)
    ∙ value_is c.args.plan.now seat c.requires own c.stratum-stratum.ensures.value unit there
