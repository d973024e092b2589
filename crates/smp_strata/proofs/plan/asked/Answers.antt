use Rattle.std.proofs.Common.{◌≡◌, ◌∙◌, ap, sym, refl, get_or, Some, None}
use Rattle.smp_frac.specs.Fractions.{Same, over, whole}
use Rattle.smp_frac.proofs.Arithmetic.{same_trans, times_same}
use Rattle.smp_strata.specs.declared.strata.FirstUnit.{FirstUnit}
use Rattle.smp_strata.proofs.Seating.{read_fraction}
use Rattle.smp_strata.proofs.plan.asked.Goals as goal

pub returns-in-Some : goal.returns-in-Some
returns-in-Some c = λ s at.
    let seat = c.seat-seat.result in
    let f = c.index-as_slice-seat.result in
    let read = read_fraction c.args.plan.now.strata c.args.k seat c.seat-seat.ensures.there c.stratum-stratum.result.now c.stratum-stratum.ensures.value f (c.index-as_slice-seat.is ∙ ap (λ fs. get_or fs seat.unit f) c.as_slice.ensures) in
    let second : f.second ≡ Some c.in-Some.second.now = ap (λ (x : FirstUnit). x.second) c.index-as_slice-seat.is ∙ sym (rw c.in-Some.is at c.get.ensures) in
    rw (c.seat-seat.ensures.once s at, read, second) (same_trans c.product.ensures (times_same c.terms_of-first.ensures.value c.terms_of.ensures.value))

pub returns-in-None : goal.returns-in-None
returns-in-None c = λ s at.
    let seat = c.seat-seat.result in
    let f = c.index-as_slice-seat.result in
    let read = read_fraction c.args.plan.now.strata c.args.k seat c.seat-seat.ensures.there c.stratum-stratum.result.now c.stratum-stratum.ensures.value f (c.index-as_slice-seat.is ∙ ap (λ fs. get_or fs seat.unit f) c.as_slice.ensures) in
    let second : f.second ≡ None = ap (λ (x : FirstUnit). x.second) c.index-as_slice-seat.is ∙ sym (rw c.in-None.is at c.get.ensures) in
    let one : Same (over 1 1) (whole 1) = record { cross = refl } in
    rw (c.seat-seat.ensures.once s at, read, second) (same_trans c.product-in-None.ensures (times_same c.terms_of-first.ensures.value one))
