use Rattle.std.proofs.{Common.{◌≡◌, ◌∙◌, nat_eq, get_or, [], refl}, lemmas.Bool.{ne_eqb}, lemmas.List.{get_or_default}}
use Rattle.smp_strata.specs.{Misfits.{when}, declared.misfit.Misfit.TheVariants.{NoSize}}
use Rattle.smp_strata.proofs.Founds.{none_more, found_at}
use Rattle.smp_strata.proofs.requests.all_have_sizes.Goals as goal

pub returns-then-sizes-stratum-eq0 : goal.returns-then-sizes-stratum-eq0
returns-then-sizes-stratum-eq0 c =
    let name : c.in_ok-copy.field-0 ≡ get_or c.args.names.now c.loop-stratum.stratum [] =
    c.in_ok-copy.ensures ∙ c.index-names-stratum.is ∙ get_or_default c.args.names.now c.loop-stratum.stratum c.index-names-stratum.result [] c.loop-stratum-test.true in
    found_at (λ stratum. when (nat_eq (get_or c.args.sizes.now stratum 0) 0) (NoSize (get_or c.args.names.now stratum []))) _ c.loop-stratum.stratum _ c.loop-stratum.invariant
    (rw (c.if-sizes-stratum-eq0.true, name) refl) c.loop-stratum-test.true

pub loop-stratum-preserved : goal.loop-stratum-preserved
loop-stratum-preserved c = none_more (λ stratum. when (nat_eq (get_or c.args.sizes.now stratum 0) 0) (NoSize (get_or c.args.names.now stratum []))) c.loop-stratum.stratum c.loop-stratum.invariant
    (rw (ne_eqb (get_or c.args.sizes.now c.loop-stratum.stratum 0) 0 c.if-sizes-stratum-eq0.false) refl)
