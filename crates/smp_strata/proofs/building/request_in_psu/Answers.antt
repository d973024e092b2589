use Rattle.std.proofs.{Common.{◌≡◌, ◌∙◌, ◌<◌, [], Err, ap, arith, length, refl, sym}, lemmas.Bool.{le-ltb, lt-ltb}}
use Rattle.std.proofs.lemmas.List.{get_or-map}
use Rattle.smp_frame.specs.declared.frame.Unit as unit
use Rattle.smp_prob.specs.Requested.{positive_units}
use Rattle.smp_strata.specs.{Clusters.{first_row}, Plans.{second_sizes}, Rows.{psu_at}}
use Rattle.smp_strata.proofs.{Serving.{second_small}, SizedRequests.{enough, few, sized}}
use Rattle.smp_strata.proofs.building.request_in_psu.Goals as goal

pub requested-requires-clause-small : goal.requested-requires-clause-small
requested-requires-clause-small c =
    rw (c.deref.ensures.value, c.in_ok-sizes.ensures) (second_small c.args.units.now c.args.rows.now c.requires.frame c.requires.rows.within)

pub returns-in-Ok-clause-misfit : goal.returns-in-Ok-clause-misfit
returns-in-Ok-clause-misfit c =
    let sizes = second_sizes c.args.units.now c.args.rows.now in
    rw (le-ltb (positive_units sizes) c.args.n (enough sizes c.args.n _ refl (rw (c.deref.ensures.value, c.in_ok-sizes.ensures) at c.in-Ok.ensures.too_many))) refl

pub returns-in-Ok-clause-request : goal.returns-in-Ok-clause-request
returns-in-Ok-clause-request c =
    rw (← c.in_ok-sizes.ensures, ← c.deref.ensures.value)
    (sized c.deref.result.now c.args.n c.in-Ok.request c.in-Ok.ensures.value c.in-Ok.ensures.request c.in-Ok.ensures.ordered c.in-Ok.ensures.apart
    c.in-Ok.ensures.below c.in-Ok.ensures.probabilities c.in-Ok.ensures.drawn c.in-Ok.ensures.none_free)

pub returns-in-Err-TooMany-clause-misfit : goal.returns-in-Err-TooMany-clause-misfit
returns-in-Err-TooMany-clause-misfit c =
    let sizes = second_sizes c.args.units.now c.args.rows.now in
    let short = few sizes c.args.n _ c.in-Err-TooMany.positive (ap Err c.in-Err-TooMany.field-0-is)
    (rw (c.deref.ensures.value, c.in_ok-sizes.ensures) at c.in-Err-TooMany.ensures.enough)
    (rw (c.deref.ensures.value, c.in_ok-sizes.ensures) at c.in-Err-TooMany.ensures.too_many) in
    let first : first_row c.args.rows.now < length c.args.units.now = c.requires.rows.within 0 0 (omega (arith, c.requires.rows.some)) in
    let psu : c.in_ok-copy-in-Err-TooMany.field-0 ≡ psu_at c.args.units.now (first_row c.args.rows.now) =
    c.in_ok-copy-in-Err-TooMany.ensures ∙ sym (get_or-map (λ (u : unit.Unit). u.psu) c.args.units.now (first_row c.args.rows.now) c.index-units-rows.result [] first) in
    rw (lt-ltb (positive_units sizes) c.args.n short.0, short.1, psu) refl
