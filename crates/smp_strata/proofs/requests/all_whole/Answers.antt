use Rattle.std.proofs.{Common.{◌≡◌, ◌∙◌, [], arith, get_or, length, refl, sym}, lemmas.Bool.{eq-eqb, ne_eqb}, lemmas.List.{get_or_default}}
use Rattle.smp_strata.specs.Misfits.{unwhole}
use Rattle.smp_strata.proofs.Founds.{none_more, found_at}
use Rattle.smp_strata.proofs.requests.all_whole.Goals as goal

pub returns-then-den-ne1 : goal.returns-then-den-ne1
returns-then-den-ne1 c = λ d.
    let k = c.loop-stratum.stratum in
    let sum : get_or c.args.sums.now k d ≡ c.index-sums-stratum.result =
    sym (c.index-sums-stratum.is ∙ get_or_default c.args.sums.now k c.index-sums-stratum.result d (omega (arith, c.loop-stratum-test.true, c.requires))) in
    let name : get_or c.args.names.now k [] ≡ c.in_ok-copy.field-0 =
    sym (c.in_ok-copy.ensures ∙ c.index-names-stratum.is ∙ get_or_default c.args.names.now k c.index-names-stratum.result [] c.loop-stratum-test.true) in
    found_at (λ stratum. unwhole (get_or c.args.names.now stratum []) (get_or c.args.sums.now stratum d)) _ k _ (c.loop-stratum.invariant d)
    (rw (sum, name, ne_eqb c.index-sums-stratum.result.den 1 (λ e. c.if-den-ne1.true (c.den.ensures ∙ e))) refl) c.loop-stratum-test.true

pub loop-stratum-preserved : goal.loop-stratum-preserved
loop-stratum-preserved c = λ d.
    let k = c.loop-stratum.stratum in
    let sum : get_or c.args.sums.now k d ≡ c.index-sums-stratum.result =
    sym (c.index-sums-stratum.is ∙ get_or_default c.args.sums.now k c.index-sums-stratum.result d (omega (arith, c.loop-stratum-test.true, c.requires))) in
    none_more (λ stratum. unwhole (get_or c.args.names.now stratum []) (get_or c.args.sums.now stratum d)) k (c.loop-stratum.invariant d)
    (rw (sum, eq-eqb c.index-sums-stratum.result.den 1 (sym c.den.ensures ∙ c.if-den-ne1.false)) refl)

pub returns : goal.returns
returns c = λ d.
    let all : c.loop-stratum.stratum ≡ length c.args.names.now = omega (arith, c.loop-stratum.auto.stratum-end, c.loop-stratum-test.false) in
    rw all at (c.loop-stratum.invariant d)
